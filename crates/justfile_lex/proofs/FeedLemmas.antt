-- The tokens that are on one line have no line feed.
use Rattle.std.proofs.Common.{◌≡◌, ℕ, zero, suc, ◌≤◌, Bool, true, false, cond, eqb, List, [], ◌∷◌, length, get_or, take, Option, Ok, Err, refl, ap, arith, ◌<◌}
use Rattle.std.specs.Prelude.{◌&&◌, ◌||◌, not, nat_eq}
use Rattle.std.specs.List.{starts_with}
use Rattle.std.specs.Str.{bytes_eq}
use Rattle.std.proofs.lemmas.List.{length-take}
use Rattle.std.proofs.lemmas.List.Sums.{prefix_len_passes}
use Rattle.std.proofs.lemmas.Slice.Eq.{bytes_eq-Decides}
use Rattle.justfile_vocabulary.specs.declared.byte_class.ByteClass.{ByteClass}
use Rattle.justfile_vocabulary.specs.declared.token_kind.TokenKind.{TokenKind}
use Rattle.justfile_vocabulary.specs.declared.token_kind.TokenKind.TheVariants.{Dedent}
use Rattle.justfile_vocabulary.specs.ByteClass.{class_of}
use Rattle.justfile_token.specs.declared.string_kind.StringDelimiter.{StringDelimiter}
use Rattle.justfile_token.specs.declared.string_kind.StringKind.{StringKind}
use Rattle.justfile_token.specs.StringKind.{kind_of, token_kind_of}
use Rattle.justfile_model.specs.declared.open_delimiter.OpenDelimiter.{OpenDelimiter}
use Rattle.justfile_model.specs.Lexing.Bytes.{blank, is_blank, is_name_byte, blank_len, word_len, closes_levels}
use Rattle.justfile_model.specs.Lexing.LiteralText.{hides, ends, raw_len}
use Rattle.justfile_model.specs.Lexing.Modes.{Mode, head_of, is_empty, innermost, nested}
use Rattle.justfile_model.specs.Lexing.Next.{NextToken, fixed_token, opening, literal_part, literal_token, closing, token_by_class, body_token, token_within_line, blanks_or, is_level, begins_blank_line, layout, next}
use Rattle.justfile_model.proofs.Lexing.CutLemmas.{blank_no_newline, body_no_newline, comment_no_newline, escape_no_newline, word_no_newline, is_line_feed, no_newline_in_pieces}
use Rattle.justfile_lex.specs.Lexing.{is_on_line, HasNoFeed}
use Rattle.justfile_scan.specs.Layouts.{indent}
use Rattle.justfile_vocabulary.specs.declared.byte_class.ByteClass.TheVariants as classes
use Rattle.justfile_model.specs.declared.raw_text.RawText.TheVariants as raw_texts

-- ---- bytes without a line feed

comment_feeds : (rest : List ℕ) → HasNoFeed rest (raw_len raw_texts.Comment rest)
comment_feeds rest = no_newline_in_pieces (hides raw_texts.Comment) (ends raw_texts.Comment) (λ bs h. cc) comment_no_newline rest 0 (λ i h. absurd (omega arith))

body_feeds : (rest : List ℕ) → HasNoFeed rest (raw_len raw_texts.Body rest)
body_feeds rest = no_newline_in_pieces (hides raw_texts.Body) (ends raw_texts.Body) escape_no_newline body_no_newline rest 0 (λ i h. absurd (omega arith))

blank_feeds : (rest : List ℕ) → HasNoFeed rest (blank_len rest)
blank_feeds rest i l = blank_no_newline _ (prefix_len_passes is_blank rest i 0 l)

word_feeds : (rest : List ℕ) → HasNoFeed rest (word_len rest)
word_feeds rest i l = word_no_newline _ (prefix_len_passes is_name_byte rest i 0 l)

-- ---- blanks that begin with a level

front_le : (a : Bool) (text front : List ℕ) → (a && starts_with nat_eq text front) ≡ true → length front ≤ length text
front_le true text front h = omega (arith, ap length ((bytes_eq-Decides front (take (length front) text)).0 h), length-take (length front) text)
front_le false text front h = cc

-- ---- tokens, by case: one that is on one line has no line feed

-- none of the first bytes is a line feed
unfoldable free : List ℕ → ℕ → Bool
free rest zero = true
free rest (suc n) = free rest n && not (eqb (get_or rest n 0) 10)

free_from : (rest : List ℕ) (n : ℕ) → HasNoFeed rest n → free rest n ≡ true
unfolding free
free_from rest zero h = refl
free_from rest (suc n) h = grind (arith, free_from rest n (λ i l. h i (omega (arith, l))), h n (omega arith))

free_to : (rest : List ℕ) (n : ℕ) → free rest n ≡ true → HasNoFeed rest n
unfolding free
free_to rest zero h i l = absurd (omega arith)
free_to rest (suc n) h i l = grind (arith, free_to rest n)

-- the token has no line feed, if it is on one line
abbrev feeds : List ℕ → NextToken → Bool
feeds rest (Ok x) = not (is_on_line x.0 (get_or rest 0 0)) || free rest x.1
feeds rest (Err r) = true

module _ (rest : List ℕ) where
  one : eqb (get_or rest 0 0) 10 ≡ false → free rest 1 ≡ true
  unfolding free
  one f = grind arith

  two : eqb (get_or rest 0 0) 10 ≡ false → eqb (get_or rest 1 0) 10 ≡ false → free rest 2 ≡ true
  unfolding free
  two f g = grind arith

  -- the first blanks
  some_blanks : (n : ℕ) → n ≤ blank_len rest → free rest n ≡ true
  some_blanks n l = free_from rest n (λ i h. blank_feeds rest i (omega (arith, l, h)))

  -- tokens of one byte, or of two
  fixed_low : (b : ℕ) → b < 43 → eqb (get_or rest 0 0) 10 ≡ false → feeds rest (fixed_token b rest) ≡ true
  unfolding fixed_token
  fixed_low b l f = grind (arith, one, two)

  fixed_mid : (b : ℕ) → 43 ≤ b → b < 61 → eqb (get_or rest 0 0) 10 ≡ false → feeds rest (fixed_token b rest) ≡ true
  unfolding fixed_token
  fixed_mid b l m f = grind (arith, one, two)

  fixed_high : (b : ℕ) → 61 ≤ b → eqb (get_or rest 0 0) 10 ≡ false → feeds rest (fixed_token b rest) ≡ true
  unfolding fixed_token
  fixed_high b l f = grind (arith, one, two)

  fixed : (b : ℕ) → eqb (get_or rest 0 0) 10 ≡ false → feeds rest (fixed_token b rest) ≡ true
  fixed b f = grind (arith, fixed_low, fixed_mid, fixed_high)

  closes : (last : Option OpenDelimiter) (b : ℕ) → eqb (get_or rest 0 0) 10 ≡ false → feeds rest (closing last b rest) ≡ true
  unfolding literal_part
  closes last b f = grind (arith, one, two)

  opens : (b : ℕ) → eqb (get_or rest 0 0) 10 ≡ false → feeds rest (opening b rest) ≡ true
  opens b f = grind (arith, one, two)

  -- literals are searched
  part : (k : StringKind) (format : Bool) (n : ℕ) (more whole : TokenKind) → is_on_line more (get_or rest 0 0) ≡ false → is_on_line whole (get_or rest 0 0) ≡ false
      → feeds rest (literal_part k format n more whole rest) ≡ true
  unfolding literal_part
  part k format n more whole em ew = grind arith

  searched : (d : StringDelimiter) → is_on_line (token_kind_of d) (get_or rest 0 0) ≡ false
  searched d = grind arith

  literal : (m : Mode) → feeds rest (literal_token m rest) ≡ true
  literal m = part (kind_of rest) _ _ _ _ refl (searched (kind_of rest).delimiter)

  by_class : (m : Mode) (k : ByteClass) → class_of (get_or rest 0 0) ≡ k → feeds rest (token_by_class m k rest) ≡ true
  unfolding token_by_class
  by_class m classes.Blank e = grind (arith, some_blanks)
  by_class m classes.LineFeed e = grind (arith, ap blank e)
  by_class m classes.CarriageReturn e = grind (arith, ap blank e)
  by_class m classes.IdentifierStart e = grind (arith, free_from rest (word_len rest) (word_feeds rest))
  by_class m classes.IdentifierContinue e = refl
  by_class m classes.Quote e = literal m
  by_class m classes.Opener e = opens (get_or rest 0 0) (is_line_feed _ _ e)
  by_class m classes.Closer e = closes (head_of m.openers) (get_or rest 0 0) (is_line_feed _ _ e)
  by_class m classes.Fixed e = fixed (get_or rest 0 0) (is_line_feed _ _ e)
  by_class m classes.Lead e = grind arith
  by_class m classes.Other e = grind (arith, free_from rest _ (comment_feeds rest), ap blank e)

  outside_text : (m : Mode) → feeds rest (token_by_class m (class_of (get_or rest 0 0)) rest) ≡ true
  outside_text m = by_class m (class_of (get_or rest 0 0)) refl

  body : feeds rest (body_token rest) ≡ true
  unfolding body_token
  body = grind (arith, free_from rest _ (body_feeds rest))

  within_line : (m : Mode) → feeds rest (token_within_line m rest) ≡ true
  unfolding token_within_line
  within_line m = grind (arith, body, outside_text, two)

  blanks : (m : Mode) (n : ℕ) → n ≤ blank_len rest → feeds rest (blanks_or n m rest) ≡ true
  blanks m n l = grind (arith, within_line, some_blanks)

  -- a token without bytes
  empty : (k : TokenKind) → feeds rest (Ok (k, 0)) ≡ true
  unfolding free
  empty k = grind arith

  -- blanks that aren't a level
  continued : (m : Mode) (found : List ℕ) → length found ≤ blank_len rest
      → feeds rest (cond (m.in_body && starts_with nat_eq found (innermost m)) (blanks_or (length (innermost m)) m rest) (indent m found)) ≡ true
  continued m found l = grind (arith, blanks, some_blanks, front_le)

  either : (b : Bool) (x y : NextToken) → feeds rest x ≡ true → feeds rest y ≡ true → feeds rest (cond b x y) ≡ true
  either b x y f g = grind arith

  line_start : (m : Mode) (found following : List ℕ) → length found ≤ blank_len rest → feeds rest (layout m found following rest) ≡ true
  unfolding layout
  line_start m found following l =
      either (nested m) _ _ (blanks m (length found) l)
      (either (begins_blank_line following) _ _ (either (not (is_empty m.levels) && closes_levels false rest) _ _ (empty Dedent) (blanks m (length found) l))
      (either (bytes_eq found (innermost m)) _ _ (blanks m (length found) l)
      (either (is_level m.levels found) _ _ (empty Dedent) (continued m found l))))

at_end : (m : Mode) → feeds [] (next m []) ≡ true
unfolding next free
at_end m = grind arith

next_feeds : (m : Mode) (rest : List ℕ) → feeds rest (next m rest) ≡ true
unfolding next
next_feeds m [] = at_end m
next_feeds m (b ∷ bs) = grind (arith, line_start, within_line, length-take)

-- a token that is on one line has no line feed
pub token_feeds : (m : Mode) (rest : List ℕ) (k : TokenKind) (n : ℕ) → next m rest ≡ Ok (k, n) → is_on_line k (get_or rest 0 0) ≡ true → HasNoFeed rest n
token_feeds m rest k n e on = free_to rest n (grind (arith, next_feeds m rest))
