-- Literals that the printer makes itself, of digits or capital letters between quotes, are good.
use Rattle.std.proofs.Common.{◌≡◌, ℕ, suc, ◌<◌, ◌^◌, Bool, true, false, cond, eqb, ltb, List, [], ◌∷◌, ◌++◌, length, get_or, refl, ap, ◌∙◌, subst, arith, codes}
use Rattle.std.specs.Prelude.{◌&&◌, ◌||◌}
use Rattle.std.specs.Fmt.{decimal}
use Rattle.std.specs.Str.{IsUtf8}
use Rattle.std.specs.Str.Parse.{AllDigits}
use Rattle.std.proofs.lemmas.Bool.{and_right}
use Rattle.std.proofs.lemmas.Bool.Decides.{nat_tests}
use Rattle.std.proofs.lemmas.Fmt.{decimal_is_IsNumeral}
use Rattle.std.proofs.lemmas.Str.{IsUtf8-append}
use Rattle.std.proofs.lemmas.Str.Parse.{digit_from_value}
use Rattle.std.specs.List.{AllByRecursion}
use Rattle.justfile_vocabulary.specs.declared.signal.Signal.{Signal}
use Rattle.justfile_vocabulary.specs.declared.signal.Signal.TheVariants.{Hangup}
use Rattle.justfile_token.specs.declared.string_kind.StringDelimiter.{StringDelimiter}
use Rattle.justfile_token.specs.declared.string_kind.StringDelimiter.TheVariants as delimiters
use Rattle.justfile_token.specs.declared.string_kind.StringKind.{StringKind}
use Rattle.justfile_vocabulary.specs.declared.token_kind.TokenKind.TheVariants as kinds
use Rattle.justfile_vocabulary.specs.Signal.{signal_name}
use Rattle.justfile_token.specs.StringKind.{escapes, is_quote, kind_of, quote_of, token_kind_of}
use Rattle.justfile_model.specs.Lexing.LiteralText.{pieces_len}
use Rattle.justfile_model.specs.Printed.Printing.{fixed_text, number_literal}
use Rattle.justfile_model.specs.Lexing.SignificantTokens.{SignificantToken}
use Rattle.justfile_model.specs.Trees.Tree as tree
use Rattle.justfile_model.specs.Trees.Tree.{lexeme, nothing}
use Rattle.justfile_model.specs.Grammars.Expressions as g
use Rattle.justfile_model.specs.Grammars.Expressions.{BelowLimit, Expression}
use Rattle.justfile_round_trip.proofs.LiteralTexts.LexedModes.{sign, placed}
use Rattle.justfile_round_trip.proofs.LiteralTexts.Inline.{each_utf8, fixed_utf8}
use Rattle.justfile_round_trip.proofs.LiteralTexts.Literals.{scan, delimiter_ends, no_quote}
use Rattle.justfile_round_trip.proofs.Canon as canon
use Rattle.justfile_round_trip.proofs.Canon.{paren_right}
use Rattle.justfile_round_trip.proofs.Good.{IsDelimited, IsString, GoodExpression, significant}
use Rattle.justfile_round_trip.proofs.Values.WrittenValues.{stops}
use Rattle.justfile_round_trip.proofs.Back.{expression_back, lower}

-- ---- bytes that are a digit or a capital letter

pub record IsPlain (b : ℕ) : Type 0 where
  pub above : 47 < b
  pub below : b < 91

abbrev pub AllPlain : List ℕ → Type 0
AllPlain = AllByRecursion IsPlain

no_backslash : (b : ℕ) → IsPlain b → eqb b 92 ≡ false
no_backslash b h = grind (arith, nat_tests, h.below)

plain_no_quote : (d : StringDelimiter) (b : ℕ) → IsPlain b → eqb b (quote_of d) ≡ false
plain_no_quote delimiters.Backtick b h = grind (arith, nat_tests, h.below)
plain_no_quote _ b h = grind (arith, nat_tests, h.above)

-- ---- between quotes

abbrev once : StringDelimiter → StringKind
once d = record { delimiter = d; indented = false }

abbrev pub quoted : StringDelimiter → List ℕ → List ℕ
quoted d inner = quote_of d ∷ (inner ++ (quote_of d ∷ []))

plain_scan : (d : StringDelimiter) (inner more : List ℕ) → AllPlain inner → scan (once d) false 0 (inner ++ (quote_of d ∷ more)) ≡ length inner
unfolding pieces_len
plain_scan d [] more h = delimiter_ends d false more
plain_scan d (x ∷ xs) more h =
    let on : ℕ → ℕ = λ hidden. scan (once d) false hidden (xs ++ (quote_of d ∷ more)) in
    ap (λ t. cond (ltb 0 (cond t 1 0)) (suc (on (cond t 1 0))) (cond (eqb x (quote_of d) || false) 0 (suc (on 0))))
    (and_right (escapes d) (eqb x 92) (no_backslash x h.0))
    ∙ ap (λ t. cond (t || false) 0 (suc (on 0))) (plain_no_quote d x h.0)
    ∙ ap suc (plain_scan d xs more h.1)

plain_kind : (d : StringDelimiter) (inner more : List ℕ) → AllPlain inner → is_quote (get_or more 0 0) ≡ false → kind_of (quoted d inner ++ more) ≡ once d
plain_kind delimiters.Backtick [] more h stop =
    ap (λ b. record { delimiter = delimiters.Backtick; indented = b }) (no_quote delimiters.Backtick (get_or more 0 0) stop)
plain_kind d [] more h stop = ap (λ b. record { delimiter = d; indented = b }) (no_quote d (get_or more 0 0) stop)
plain_kind delimiters.Backtick (x ∷ xs) more h stop =
    ap (λ b. record { delimiter = delimiters.Backtick; indented = b && eqb (get_or ((xs ++ (96 ∷ [])) ++ more) 0 0) 96 }) (plain_no_quote delimiters.Backtick x h.0)
plain_kind d (x ∷ xs) more h stop =
    ap (λ b. record { delimiter = d; indented = b && eqb (get_or ((xs ++ (quote_of d ∷ [])) ++ more) 0 0) (quote_of d) }) (plain_no_quote d x h.0)

plain_delimited : (d : StringDelimiter) (inner : List ℕ) → AllPlain inner → IsDelimited (token_kind_of d) (quoted d inner)
plain_delimited d inner h = record {
  kind = once d;
  literal = record { inner = inner; is = refl; ends = λ more. plain_scan d inner more h; opens = λ more stop. plain_kind d inner more h stop };
  is_token = refl;
}

plain_utf8 : (inner : List ℕ) → AllPlain inner → IsUtf8 inner
plain_utf8 inner h = each_utf8 IsPlain (λ b h. let below = h.below in omega arith) inner h

quote_utf8 : (d : StringDelimiter) → IsUtf8 (quote_of d ∷ [])
quote_utf8 delimiters.Backtick = fixed_utf8 (codes "`") refl
quote_utf8 d = fixed_utf8 (quote_of d ∷ []) refl

-- ---- as values

-- the limit of a good expression is above 0
pub some_limit : {limit : ℕ} {e : canon.Value} → GoodExpression limit e → 0 < limit
some_limit h = by (h.derives false (paren_right ∷ []) refl)
  where
    by : {limit : ℕ} {e : canon.Value} {fs : canon.Shown} {ts rest : g.Tokens} → Expression lexeme nothing (BelowLimit limit) false 0 e fs ts rest → 0 < limit
    by (g.or o l kind r) = o
    by (g.disjunct o l next) = o

literal_token : List ℕ → SignificantToken
literal_token l = record { tok = placed (sign kinds.StringToken l) 0 0 0; glued = false }

-- a literal alone
literal_derives : (limit : ℕ) (l : List ℕ) → 0 < limit
    → Expression lexeme nothing (BelowLimit limit) false 0 (tree.StringLiteral false l) [] (literal_token l ∷ []) []
unfolding literal_token
literal_derives limit l some =
    g.disjunct some
    (g.comparison (g.conjunct (g.value (λ w. let bad = w.is_name in cc) (g.literal refl) (record { join = tt; list_concatenation = tt; concatenation = tt }))
    (record { equality = tt; inequality = tt; regex_match = tt; regex_mismatch = tt })) tt) tt

pub literal_good : (limit : ℕ) (l : List ℕ) → 0 < limit → IsString l → IsUtf8 l → GoodExpression limit (tree.StringLiteral false l)
literal_good limit l some string utf8 = record {
  lexes = (string, utf8);
  features = [];
  derives = λ glued on stop.
      let q = stops _ (significant true on) stop in
      expression_back (BelowLimit limit) (BelowLimit limit) (lower limit) (literal_derives limit l some) 0 (omega arith) glued on q.0 q.1;
}

quoted_good : (limit : ℕ) (d : StringDelimiter) (inner : List ℕ) → token_kind_of d ≡ kinds.StringToken → 0 < limit → AllPlain inner
    → GoodExpression limit (tree.StringLiteral false (quoted d inner))
quoted_good limit d inner string some h =
    literal_good limit (quoted d inner) some (subst (λ k. IsDelimited k (quoted d inner)) string (plain_delimited d inner h))
    (IsUtf8-append (quote_of d ∷ []) _ (quote_utf8 d) (IsUtf8-append inner _ (plain_utf8 inner h) (quote_utf8 d)))

digits_plain : (ds : List ℕ) → AllDigits 10 ds → AllPlain ds
digits_plain [] d = tt
digits_plain (c ∷ cs) d = let range = digit_from_value c d.0 in (record { above = omega (arith, range); below = omega (arith, range) }, digits_plain cs d.1)

-- a number in single quotes
pub number_good : (limit n : ℕ) → 0 < limit → n < 2 ^ 64 → GoodExpression limit (number_literal n)
unfolding fixed_text
number_good limit n some small = quoted_good limit delimiters.QuoteSingle (decimal n) refl some (digits_plain (decimal n) (decimal_is_IsNumeral n small).0.1)

abbrev capitals : List ℕ → Bool
capitals [] = true
capitals (b ∷ bs) = ltb 64 b && (ltb b 91 && capitals bs)

capitals_plain : (bs : List ℕ) → capitals bs ≡ true → AllPlain bs
capitals_plain [] h = tt
capitals_plain (b ∷ bs) h = (record { above = grind (arith, nat_tests); below = grind (arith, nat_tests) }, capitals_plain bs (grind arith))

signal_plain : (s : Signal) → AllPlain (signal_name s)
signal_plain Hangup = capitals_plain (signal_name Hangup) refl
signal_plain s = capitals_plain (signal_name s) refl

-- a signal in double quotes
pub signal_good : (limit : ℕ) (s : Signal) → 0 < limit
    → GoodExpression limit (tree.StringLiteral false (fixed_text (codes "\"") ++ fixed_text (signal_name s) ++ fixed_text (codes "\"")))
unfolding fixed_text
signal_good limit s some = quoted_good limit delimiters.QuoteDouble (signal_name s) refl some (signal_plain s)
