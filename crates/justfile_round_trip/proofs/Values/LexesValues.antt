-- The text of good values lexes to the printer's tokens.
use Rattle.std.proofs.Common.{◌≡◌, ℕ, Bool, true, false, cond, eqb, List, [], ◌∷◌, ◌++◌, get_or, Option, refl, sym, ap, ◌∙◌, subst, codes}
use Rattle.std.specs.Str.{IsUtf8}
use Rattle.justfile_vocabulary.specs.declared.byte_class.ByteClass.TheVariants as classes
use Rattle.justfile_token.specs.declared.delimiter.Delimiter.TheVariants.{Brace, Bracket, FormatString, Paren}
use Rattle.justfile_token.specs.declared.string_kind.StringDelimiter.{StringDelimiter}
use Rattle.justfile_token.specs.declared.string_kind.StringDelimiter.TheVariants as delimiters
use Rattle.justfile_token.specs.declared.string_kind.StringKind.{StringKind}
use Rattle.justfile_vocabulary.specs.declared.token_kind.TokenKind.{TokenKind}
use Rattle.justfile_vocabulary.specs.declared.token_kind.TokenKind.TheVariants as kinds
use Rattle.justfile_vocabulary.specs.ByteClass.{class_of}
use Rattle.justfile_token.specs.StringKind.{kind_of, quote_of, token_kind_of}
use Rattle.justfile_model.specs.declared.conditional_operator.ConditionalOperator.{ConditionalOperator}
use Rattle.justfile_model.specs.declared.conditional_operator.ConditionalOperator.TheVariants.{Equality, Inequality, RegexMatch, RegexMismatch}
use Rattle.justfile_model.specs.declared.open_delimiter.OpenDelimiter.{OpenDelimiter}
use Rattle.justfile_model.specs.Lexing.Bytes.{blank, in_word}
use Rattle.justfile_model.specs.Grammars.Expressions.{operator_kind}
use Rattle.justfile_model.specs.Lexing.Modes.{opener}
use Rattle.justfile_model.specs.Lexing.Next.{is_backtick}
use Rattle.justfile_model.specs.Printed.Printing.{is_conditional}
use Rattle.justfile_model.specs.Lexing.Tok.{Tok}
use Rattle.justfile_model.specs.Trees.Tree as tree
use Rattle.justfile_model.specs.Trees.Tree.{Or, And, Comparison, Concatenation, ListConcatenation, Join, Root, If, IfElse, Not, StringLiteral, FormatLiteral, FormatString, Backtick, Assert, AssertMessage, Variable, Call, Group, ListOf, Last, Continue}
use Rattle.justfile_round_trip.proofs.LiteralTexts.LexedModes.{Sign, sign, space, Lexes, text_of}
use Rattle.justfile_round_trip.proofs.LiteralTexts.Inline.{Goes, goes, name_then, head_is, amid, IsName, IsLiteral, word_step, space_step, start_no, literal_step, whole_step, start_step, continue_step, end_step}
use Rattle.justfile_round_trip.proofs.Fixed as fixed
use Rattle.justfile_round_trip.proofs.Fixed.{bang_step, close_step, open_step, plus_step, token_step}
use Rattle.justfile_round_trip.proofs.Canon.{Value, Values, ShapeParts, operator_codes, expr_signs, exprs_signs, others_signs, parts_signs}
use Rattle.justfile_round_trip.proofs.Good.{IsDelimited, IsFormatLiteral, IsFormatStart, IsPartOf, GoodValue, GoodValues, GoodParts}

-- ---- how a value begins

-- with no blank, and with nothing that makes another operator of a `!`
pub record Begins (t : List ℕ) : Type 0 where
  pub no_blank : head_is blank t ≡ false
  pub no_equals : eqb (get_or t 0 0) 61 ≡ false
  pub no_tilde : eqb (get_or t 0 0) 126 ≡ false

quote_no_word : (d : StringDelimiter) → in_word (class_of (quote_of d)) ≡ false
unfolding class_of
quote_no_word delimiters.Backtick = refl
quote_no_word _ = refl

quote_begins : (d : StringDelimiter) (xs : List ℕ) → Begins (quote_of d ∷ xs)
unfolding class_of
quote_begins delimiters.Backtick xs = record { no_blank = refl; no_equals = refl; no_tilde = refl }
quote_begins _ xs = record { no_blank = refl; no_equals = refl; no_tilde = refl }

name_begins : (x : ℕ) (xs : List ℕ) → class_of x ≡ classes.IdentifierStart → Begins (x ∷ xs)
unfolding class_of
name_begins x xs h = record { no_blank = ap blank h; no_equals = start_no x 61 h (λ e. cc); no_tilde = start_no x 126 h (λ e. cc) }

literal_begins : (k : StringKind) (l more : List ℕ) → IsLiteral k l → Begins (l ++ more)
literal_begins k l more h = subst (λ t. Begins (t ++ more)) (sym h.is) (quote_begins k.delimiter _)

-- a literal does not go on with a word
literal_no_word : (k : StringKind) (l more : List ℕ) → IsLiteral k l → head_is in_word (l ++ more) ≡ false
literal_no_word k l more h = ap (λ t. head_is in_word (t ++ more)) h.is ∙ quote_no_word k.delimiter

start_no_word : (l more : List ℕ) → IsFormatStart l → head_is in_word (l ++ more) ≡ false
start_no_word l more h = ap (λ t. head_is in_word (t ++ more)) h.part.is ∙ quote_no_word (kind_of l).delimiter

-- Text that begins like that, and is lexed to these tokens where no `f` came last.
pub record Starts (os : List OpenDelimiter) (ls : List (List ℕ)) (c : Bool) (i : Option Tok) (ts : List Sign) : Type 0 where
  pub begins : Begins (text_of ts)
  pub lexes : Lexes (amid os ls c i false) ts

pub starts : {os : List OpenDelimiter} {ls : List (List ℕ)} {c : Bool} {i : Option Tok} {ts : List Sign} → head_is blank (text_of ts) ≡ false → eqb (get_or (text_of ts) 0 0) 61 ≡ false
    → eqb (get_or (text_of ts) 0 0) 126 ≡ false → Lexes (amid os ls c i false) ts → Starts os ls c i ts
starts blank equals tilde k = record { begins = record { no_blank = blank; no_equals = equals; no_tilde = tilde }; lexes = k }

pub spaced : {os : List OpenDelimiter} {ls : List (List ℕ)} {c : Bool} {i : Option Tok} {f : Bool} {ts : List Sign} → Starts os ls c i ts → Lexes (amid os ls c i f) (space ∷ ts)
spaced s = space_step s.begins.no_blank s.lexes

pub named : {os : List OpenDelimiter} {ls : List (List ℕ)} {c : Bool} {i : Option Tok} (n : List ℕ) {ts : List Sign} → IsName n → Goes os ls c i ts → Starts os ls c i (sign kinds.Identifier n ∷ ts)
named [] h k = absurd h
named (x ∷ xs) h k = record { begins = name_begins x _ h.0; lexes = name_then (x ∷ xs) h k }

part_begins : (k : StringKind) (fin : Bool) (l more : List ℕ) → IsPartOf k fin l → Begins (l ++ more)
unfolding class_of
part_begins k fin l more h = subst (λ t. Begins (t ++ more)) (sym h.is) (record { no_blank = refl; no_equals = refl; no_tilde = refl })

string_no_backtick : (d : StringDelimiter) → token_kind_of d ≡ kinds.StringToken → is_backtick d ≡ false
string_no_backtick delimiters.Backtick e = cc
string_no_backtick _ e = refl

either : {os : List OpenDelimiter} {ls : List (List ℕ)} {c : Bool} {i : Option Tok} (b : Bool) {ts us : List Sign} → Starts os ls c i ts → Starts os ls c i us → Starts os ls c i (cond b ts us)
either true r q = r
either false r q = q

module _ (ls : List (List ℕ)) (c : Bool) (i : Option Tok) where
  delimited_step : (os : List OpenDelimiter) (q : TokenKind) (l : List ℕ) (ts : List Sign) → IsDelimited q l × IsUtf8 l → Goes os ls c i ts → Lexes (amid os ls c i false) (sign q l ∷ ts)
  delimited_step os q l ts h k = subst (λ q. Lexes (amid os ls c i false) (sign q l ∷ ts)) h.0.is_token (literal_step h.0.kind l h.0.literal h.1 k.apart (k.lexes false))

  format_step : (os : List OpenDelimiter) (l : List ℕ) (ts : List Sign) → IsFormatLiteral l × IsUtf8 l → Goes os ls c i ts → Lexes (amid os ls c i true) (sign kinds.StringToken l ∷ ts)
  format_step os l ts h k =
      let s = h.0.string in
      subst (λ q. Lexes (amid os ls c i true) (sign q l ∷ ts)) s.is_token
      (whole_step s.kind l s.literal h.1 h.0.ends (string_no_backtick s.kind.delimiter s.is_token) k.apart (k.lexes false))

  -- an operator of a comparison, after a space
  compared_step : (os : List OpenDelimiter) (f : Bool) (by : ConditionalOperator) {ts : List Sign} → Lexes (amid os ls c i false) ts → Lexes (amid os ls c i f) (space ∷ sign (operator_kind by) (operator_codes by) ∷ ts)
  unfolding class_of
  compared_step os f Equality k = space_step refl (token_step fixed.equals_equals k)
  compared_step os f Inequality k = space_step refl (token_step fixed.bang_equals k)
  compared_step os f RegexMatch k = space_step refl (token_step fixed.equals_tilde k)
  compared_step os f RegexMismatch k = space_step refl (token_step fixed.bang_tilde k)

  mutual
    unfolding class_of

    -- after a value the mode is known but for whether an `f` came last
    pub lex_value : (os : List OpenDelimiter) (e : Value) {ts : List Sign} → GoodValue e → Goes os ls c i ts → Starts os ls c i (expr_signs e ts)
    lex_value os (Or l r) h k = lex_value os l h.0 (goes refl (λ f. space_step refl (token_step fixed.or (spaced (lex_value os r h.1 k)))))
    lex_value os (And l r) h k = lex_value os l h.0 (goes refl (λ f. space_step refl (token_step fixed.and (spaced (lex_value os r h.1 k)))))
    lex_value os (Comparison l by token r) h k = lex_value os l h.0 (goes refl (λ f. compared_step os f by (spaced (lex_value os r h.1 k))))
    lex_value os (Concatenation l operator r) h k = lex_value os l h.0 (goes refl (λ f. space_step refl (plus_step refl (spaced (lex_value os r h.1 k)))))
    lex_value os (ListConcatenation l operator r) h k = lex_value os l h.0 (goes refl (λ f. space_step refl (token_step fixed.plus_plus (spaced (lex_value os r h.1 k)))))
    lex_value os (Join l operator r) h k = lex_value os l h.0 (goes refl (λ f. space_step refl (token_step fixed.slash (spaced (lex_value os r h.1 k)))))
    lex_value os (Root operator r) h k = starts refl refl refl (token_step fixed.slash (spaced (lex_value os r h k)))
    lex_value os (If c' b) h k =
        starts refl refl refl
        (word_step (codes "if") refl refl (spaced (lex_value os c' h.0 (goes refl (λ f. space_step refl (open_step fixed.brace (λ line.
        spaced (lex_value (opener Brace line ∷ os) b h.1 (goes refl (λ f. space_step refl (close_step fixed.end_brace (k.lexes false))))))))))))
    lex_value os (IfElse c' b o) h k =
        starts refl refl refl
        (word_step (codes "if") refl refl (spaced (lex_value os c' h.0 (goes refl (λ f. space_step refl (open_step fixed.brace (λ line.
        spaced (lex_value (opener Brace line ∷ os) b h.1 (goes refl (λ f. space_step refl (close_step fixed.end_brace (space_step refl (word_step (codes "else") refl refl
        (spaced (either (is_conditional o) (lex_value os o h.2 k)
        (starts refl refl refl
        (open_step fixed.brace (λ line. spaced (lex_value (opener Brace line ∷ os) o h.2 (goes refl (λ f. space_step refl (close_step fixed.end_brace (k.lexes false)))))))))))))))))))))))
    lex_value os (Not e) h k = let v = lex_value os e h k in starts refl refl refl (bang_step v.begins.no_equals v.begins.no_tilde v.lexes)
    lex_value os (StringLiteral true l) {ts} h k = starts refl refl refl (word_step (codes "x") refl (literal_no_word h.0.kind l _ h.0.literal) (delimited_step os kinds.StringToken l ts h k))
    lex_value os (StringLiteral false l) {ts} h k = record { begins = literal_begins h.0.kind l _ h.0.literal; lexes = delimited_step os kinds.StringToken l ts h k }
    lex_value os (FormatLiteral l) {ts} h k = starts refl refl refl (word_step (codes "f") refl (literal_no_word h.0.string.kind l _ h.0.string.literal) (format_step os l ts h k))
    lex_value os (FormatString s e ps) h k =
        starts refl refl refl
        (word_step (codes "f") refl (start_no_word s _ h.0.0) (start_step (kind_of s) s h.0.0.part h.0.1 h.0.0.quoted h.0.0.opens (λ line.
        spaced (lex_value (opener (FormatString (kind_of s)) line ∷ os) e h.1 (goes refl (λ f. spaced (lex_parts os (kind_of s) line ps h.2 (k.lexes false))))))))
    lex_value os (Backtick l) {ts} h k = record { begins = literal_begins h.0.kind l _ h.0.literal; lexes = delimited_step os kinds.Backtick l ts h k }
    lex_value os (Assert name c') h k =
        starts refl refl refl
        (word_step (codes "assert") refl refl (open_step fixed.paren (λ line. (lex_value (opener Paren line ∷ os) c' h (goes refl (λ f. close_step fixed.end_paren (k.lexes false)))).lexes)))
    lex_value os (AssertMessage name c' m) h k =
        starts refl refl refl
        (word_step (codes "assert") refl refl (open_step fixed.paren (λ line. (lex_value (opener Paren line ∷ os) c' h.0 (goes refl (λ f.
        token_step fixed.comma (spaced (lex_value (opener Paren line ∷ os) m h.1 (goes refl (λ f. close_step fixed.end_paren (k.lexes false)))))))).lexes)))
    lex_value os (Variable n) h k = named n h k
    lex_value os (Call n es) h k = named n h.0 (goes refl (λ f. open_step fixed.paren (λ line. lex_values (opener Paren line ∷ os) es h.1 (goes refl (λ f. close_step fixed.end_paren (k.lexes false))))))
    lex_value os (Group e) h k =
        starts refl refl refl (open_step fixed.paren (λ line. (lex_value (opener Paren line ∷ os) e h (goes refl (λ f. close_step fixed.end_paren (k.lexes false)))).lexes))
    lex_value os (ListOf operator es) h k =
        starts refl refl refl (open_step fixed.bracket (λ line. lex_values (opener Bracket line ∷ os) es h (goes refl (λ f. close_step fixed.end_bracket (k.lexes false)))))

    pub lex_values : (os : List OpenDelimiter) (es : Values) {ts : List Sign} → GoodValues es → Goes os ls c i ts → Lexes (amid os ls c i false) (exprs_signs es ts)
    lex_values os tree.none h k = k.lexes false
    lex_values os (tree.more e es) h k = (lex_value os e h.0 (lex_others os es h.1 k)).lexes

    lex_others : (os : List OpenDelimiter) (es : Values) {ts : List Sign} → GoodValues es → Goes os ls c i ts → Goes os ls c i (others_signs es ts)
    lex_others os tree.none h k = k
    lex_others os (tree.more e es) h k = goes refl (λ f. token_step fixed.comma (spaced (lex_value os e h.0 (lex_others os es h.1 k))))

    lex_parts : (os : List OpenDelimiter) (k : StringKind) (line : ℕ) (ps : ShapeParts) {ts : List Sign} → GoodParts k ps → Lexes (amid os ls c i false) ts → Starts (opener (FormatString k) line ∷ os) ls c i (parts_signs ps ts)
    lex_parts os k line (Last l) h r = record { begins = part_begins k true l _ h.0; lexes = end_step k line l h.0 h.1 r }
    lex_parts os k line (Continue l e ps) h r = record {
      begins = part_begins k false l _ h.0.0;
      lexes = continue_step k line l h.0.0 h.0.1 (spaced (lex_value (opener (FormatString k) line ∷ os) e h.1 (goes refl (λ f. spaced (lex_parts os k line ps h.2 r)))));
    }

  -- after a space
  pub lex_spaced : (os : List OpenDelimiter) (e : Value) {ts : List Sign} → GoodValue e → Goes os ls c i ts → Goes os ls c i (space ∷ expr_signs e ts)
  unfolding class_of
  lex_spaced os e h k = goes refl (λ f. spaced (lex_value os e h k))
