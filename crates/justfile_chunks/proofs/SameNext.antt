-- The next token depends on little of the mode: which delimiters are open, and not on which lines; that an interpolation is open, and not
-- where; and not on a colon.
use Rattle.std.proofs.Common.{◌≡◌, ◌∙◌, ℕ, zero, suc, Bool, true, false, cond, eqb, not, ◌&&◌, ◌||◌, List, [], ◌∷◌, length, take, drop, get_or, map, Option, Some, None, is_some, Ok, Err, refl, sym, ap, subst, nat_eq}
use Rattle.std.specs.List.{starts_with}
use Rattle.std.specs.Str.{bytes_eq}
use Rattle.justfile_vocabulary.specs.declared.byte_class.ByteClass.{ByteClass}
use Rattle.justfile_vocabulary.specs.declared.byte_class.ByteClass.TheVariants as classes
use Rattle.justfile_vocabulary.specs.declared.token_kind.TokenKind.{TokenKind}
use Rattle.justfile_vocabulary.specs.declared.token_kind.TokenKind.TheVariants as kinds
use Rattle.justfile_vocabulary.specs.ByteClass.{class_of}
use Rattle.justfile_token.specs.declared.delimiter.Delimiter.{Delimiter}
use Rattle.justfile_token.specs.declared.delimiter.Delimiter.TheVariants.{Brace, Bracket, Paren}
use Rattle.justfile_token.specs.declared.string_kind.StringKind.{StringKind}
use Rattle.justfile_token.specs.StringKind.{delimiter_len, kind_of, token_kind_of}
use Rattle.justfile_model.specs.declared.open_delimiter.OpenDelimiter.{OpenDelimiter}
use Rattle.justfile_model.specs.Lexing.Bytes.{blank_len, closes_levels, is_interpolation_end, is_mixed}
use Rattle.justfile_model.specs.Lexing.LexicalFault.{Here, UnpairedCarriageReturn}
use Rattle.justfile_model.specs.Lexing.Modes.{Mode, head_of, innermost, innermost_of, is_empty, nested}
use Rattle.justfile_model.specs.Lexing.Next.{NextToken, Region, InText, InInterpolation, OutsideText, at_end_by, begins_blank_line, blanks_or, brace_by, closing, closing_delimiter, format_kind, format_string_kind, interpolated, is_backtick, is_level, is_same, layout, line_end_token, literal_part, literal_token, next, next_by, region_by, tested_blanks, token_by_class, token_in_region, token_outside_text, token_within_line, unknown}
use Rattle.justfile_model.specs.Lexing.Tok.{Tok}

-- the token, if there is one
abbrev pub found : NextToken → Option (TokenKind × ℕ)
found (Ok x) = Some x
found (Err r) = None

-- the open delimiters, without their lines
abbrev pub delimiters : List OpenDelimiter → List Delimiter
delimiters os = map (λ o. o.delimiter) os

-- the modes differ in lines, in places and in the colon alone
pub record SameMode (m n : Mode) : Type 0 where
  pub openers : delimiters m.openers ≡ delimiters n.openers
  pub levels : m.levels ≡ n.levels
  pub in_body : m.in_body ≡ n.in_body
  pub interpolation : is_some m.interpolation ≡ is_some n.interpolation
  pub line_start : m.line_start ≡ n.line_start
  pub after_f : m.after_f ≡ n.after_f

-- both find the same token, or none
pub record SameFound (x y : NextToken) : Type 0 where
  pub same : found x ≡ found y

either : (b c : Bool) {x y x' y' : NextToken} → b ≡ c → SameFound x x' → SameFound y y' → SameFound (cond b x y) (cond c x' y')
either b c {x} {y} {x'} {y'} e p q = subst (λ t. SameFound (cond b x y) (cond t x' y')) e (by b)
  where
    by : (t : Bool) → SameFound (cond t x y) (cond t x' y')
    by true = p
    by false = q

itself : (x : NextToken) → SameFound x x
itself x = record { same = refl }

none_open : (os : List OpenDelimiter) → is_empty os ≡ is_empty (delimiters os)
none_open [] = refl
none_open (o ∷ os) = refl

-- equal lists have equal parts
pub cons_parts : {A : Type 0} (x y : A) (xs ys : List A) → ◌≡◌ {A = List A} (x ∷ xs) (y ∷ ys) → (x ≡ y) × (xs ≡ ys)
cons_parts x y xs ys e = (cc, cc)

-- ---- closing delimiters, by the innermost open one

closed : (o p : OpenDelimiter) (delimiter : Delimiter) (kind : TokenKind) → o.delimiter ≡ p.delimiter
    → SameFound (closing_delimiter (Some o) delimiter kind) (closing_delimiter (Some p) delimiter kind)
closed o p delimiter kind e = either (is_same o.delimiter delimiter) (is_same p.delimiter delimiter) (ap (λ d. is_same d delimiter) e) (itself _)
    (record { same = refl })

brace : (k : Option StringKind) (o p : OpenDelimiter) (rest : List ℕ) → o.delimiter ≡ p.delimiter
    → SameFound (brace_by k (Some o) rest) (brace_by k (Some p) rest)
brace None o p rest e = closed o p Brace kinds.BraceR e
brace (Some k) o p rest e = either (is_interpolation_end rest) (is_interpolation_end rest) refl (itself _) (closed o p Brace kinds.BraceR e)

closes_same : (o p : OpenDelimiter) (b : ℕ) (rest : List ℕ) → o.delimiter ≡ p.delimiter → SameFound (closing (Some o) b rest) (closing (Some p) b rest)
closes_same o p b rest e =
    either (eqb b 41) (eqb b 41) refl (closed o p Paren kinds.ParenR e)
    (either (eqb b 93) (eqb b 93) refl (closed o p Bracket kinds.BracketR e)
    (either (eqb b 125) (eqb b 125) refl (subst (λ k. SameFound (brace_by (format_kind (Some o)) (Some o) rest) (brace_by k (Some p) rest))
    (ap format_string_kind e) (brace (format_kind (Some o)) o p rest e))
    (itself (unknown rest))))

closes : (os ps : List OpenDelimiter) (b : ℕ) (rest : List ℕ) → delimiters os ≡ delimiters ps
    → SameFound (closing (head_of os) b rest) (closing (head_of ps) b rest)
closes [] [] b rest e = itself _
closes (o ∷ os) (p ∷ ps) b rest e = closes_same o p b rest (cons_parts o.delimiter p.delimiter (delimiters os) (delimiters ps) e).0
closes _ _ b rest e = cc

-- ---- the end of the text

ended : (o p : Option Tok) (levels others : List (List ℕ)) → is_some o ≡ is_some p → levels ≡ others → SameFound (at_end_by o levels) (at_end_by p others)
ended None None levels others e l = either (is_empty levels) (is_empty others) (ap is_empty l) (itself _) (itself _)
ended (Some t) (Some u) levels others e l = record { same = refl }
ended _ _ levels others e l = cc

same_region : (b c : Bool) (o p : Option Tok) → b ≡ c → is_some o ≡ is_some p → region_by b o ≡ region_by c p
same_region true true None None e h = refl
same_region false false None None e h = refl
same_region b c (Some t) (Some u) e h = refl
same_region _ _ _ _ e h = cc

module _ (m n : Mode) (s : SameMode m n) (rest : List ℕ) where
  same_empty : is_empty m.openers ≡ is_empty n.openers
  same_empty = none_open m.openers ∙ ap is_empty s.openers ∙ sym (none_open n.openers)

  same_nested : nested m ≡ nested n
  same_nested = λ i. not (same_empty i) || s.interpolation i

  line_ends : (k : ℕ) → SameFound (line_end_token m k) (line_end_token n k)
  line_ends k = either (nested m) (nested n) same_nested (itself _) (itself _)

  literals : SameFound (literal_token m rest) (literal_token n rest)
  literals = record {
    same = λ i. found (literal_part (kind_of rest) (s.after_f i && not (is_backtick (kind_of rest).delimiter))
        (delimiter_len (kind_of rest)) kinds.FormatStringStart (token_kind_of (kind_of rest).delimiter) rest);
  }

  by_class : (k : ByteClass) → SameFound (token_by_class m k rest) (token_by_class n k rest)
  unfolding token_by_class
  by_class classes.LineFeed = line_ends 1
  by_class classes.CarriageReturn = either (eqb (get_or rest 1 0) 10) (eqb (get_or rest 1 0) 10) refl (line_ends 2)
      (itself (Err (Here UnpairedCarriageReturn 0 1)))
  by_class classes.Quote = literals
  by_class classes.Closer = closes m.openers n.openers (get_or rest 0 0) rest s.openers
  by_class _ = itself _

  outside_text : SameFound (token_outside_text m rest) (token_outside_text n rest)
  outside_text = by_class (class_of (get_or rest 0 0))

  in_interpolation : SameFound (interpolated m rest) (interpolated n rest)
  in_interpolation = either (is_empty m.openers && is_interpolation_end rest) _ (ap (λ b. b && is_interpolation_end rest) same_empty) (itself _) outside_text

  in_region : (r : Region) → SameFound (token_in_region r m rest) (token_in_region r n rest)
  in_region InText = itself _
  in_region InInterpolation = in_interpolation
  in_region OutsideText = outside_text

  within_line : SameFound (token_within_line m rest) (token_within_line n rest)
  unfolding token_within_line
  within_line =
      subst (λ r. SameFound (token_in_region (region_by m.in_body m.interpolation) m rest) (token_in_region r n rest))
      (same_region m.in_body n.in_body m.interpolation n.interpolation s.in_body s.interpolation) (in_region (region_by m.in_body m.interpolation))

  blanks : (k : ℕ) → SameFound (blanks_or k m rest) (blanks_or k n rest)
  blanks zero = within_line
  blanks (suc k) = itself _

  same_innermost : innermost m ≡ innermost n
  same_innermost = ap innermost_of s.levels

  laid_out : (on following : List ℕ) → SameFound (layout m on following rest) (layout n on following rest)
  unfolding layout
  laid_out on following =
      either (nested m) (nested n) same_nested (blanks (length on))
      (either (begins_blank_line following) (begins_blank_line following) refl
      (either (not (is_empty m.levels) && closes_levels false rest) _ (ap (λ l. not (is_empty l) && closes_levels false rest) s.levels) (itself _)
      (blanks (length on)))
      (either (bytes_eq on (innermost m)) _ (ap (bytes_eq on) same_innermost) (blanks (length on))
      (either (is_level m.levels on) _ (ap (λ l. is_level l on) s.levels) (itself _)
      (either (m.in_body && starts_with nat_eq on (innermost m)) _ (λ i. s.in_body i && starts_with nat_eq on (same_innermost i))
      (subst (λ k. SameFound (blanks_or (length (innermost m)) m rest) (blanks_or k n rest)) (ap length same_innermost) (blanks (length (innermost m))))
      (either (is_mixed (tested_blanks m on)) _ (λ i. is_mixed (cond (s.in_body i) (take (length (same_innermost i)) on) on)) (record { same = refl })
      (either (not (starts_with nat_eq on (innermost m))) _ (ap (λ l. not (starts_with nat_eq on l)) same_innermost) (record { same = refl })
      (itself _)))))))

  by_start : (b : Bool) → SameFound (next_by b m rest) (next_by b n rest)
  by_start true = laid_out (take (blank_len rest) rest) (drop (blank_len rest) rest)
  by_start false = within_line

-- in such modes the next token has the same kind and the same length
pub same_next : (m n : Mode) (rest : List ℕ) → SameMode m n → SameFound (next m rest) (next n rest)
unfolding next
same_next m n [] s = ended m.interpolation n.interpolation m.levels n.levels s.interpolation s.levels
same_next m n (b ∷ bs) s = subst (λ t. SameFound (next_by m.line_start m (b ∷ bs)) (next_by t n (b ∷ bs))) s.line_start (by_start m n s (b ∷ bs) m.line_start)
