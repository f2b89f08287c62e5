-- Printed lines lex to the printer's tokens: comments, the first token of a line, and line ends.
use Rattle.std.proofs.Common.{◌≡◌, ℕ, ◌+◌, Bool, true, false, cond, eqb, List, [], ◌∷◌, ◌++◌, length, take, drop, Option, None, Ok, refl, sym, ap, ◌∙◌, subst, arith}
use Rattle.std.specs.Prelude.{◌&&◌, not, slice_index}
use Rattle.std.specs.Str.{IsUtf8}
use Rattle.justfile_vocabulary.specs.declared.token_kind.TokenKind.TheVariants.{Comment, Eol, Identifier}
use Rattle.justfile_vocabulary.specs.ByteClass.{class_of}
use Rattle.justfile_model.specs.declared.open_delimiter.OpenDelimiter.{OpenDelimiter}
use Rattle.justfile_model.specs.declared.raw_text.RawText.TheVariants as raw_texts
use Rattle.justfile_model.specs.Lexing.Bytes.{blank, blank_len, white}
use Rattle.justfile_model.specs.Lexing.LiteralText.{raw_len}
use Rattle.justfile_model.specs.Lexing.Tok.{Tok}
use Rattle.justfile_model.specs.Lexing.Modes.{Mode, is_empty, mode_after}
use Rattle.justfile_model.specs.Lexing.Next.{token_by_class, token_within_line, layout, at_line_start, begins_blank_line, next}
use Rattle.justfile_round_trip.proofs.LiteralTexts.LexedModes.{Sign, sign, newline, LexesTo, Lexes, text_of, step_to, step, take_front, drop_front, placed}
use Rattle.justfile_round_trip.proofs.LiteralTexts.Inline.{Each, Goes, head_is, head_word, amid, amid_next, fixed_utf8, name_from, IsName, is_word, word_name}

-- where an item begins
abbrev pub at_item : Bool → Mode
at_item c = record { openers = []; levels = []; colon = c; in_body = false; interpolation = None; line_start = true; after_f = false }

-- blanks at the front
pub run_more : (ind line : List ℕ) → Each blank ind → blank_len (ind ++ line) ≡ length ind + blank_len line
run_more [] line each = omega arith
run_more (x ∷ xs) line each = rw each.0 (let ih = run_more xs line each.1 in omega (arith, ih))

pub none_here : (line : List ℕ) → head_is blank line ≡ false → blank_len line ≡ 0
none_here [] h = refl
none_here (x ∷ xs) h = rw h refl

pub laid_after : (m : Mode) (ind line : List ℕ) → Each blank ind → head_is blank line ≡ false → at_line_start m (ind ++ line) ≡ layout m ind line (ind ++ line)
laid_after m ind line each none =
    let n : blank_len (ind ++ line) ≡ length ind = omega (arith, run_more ind line each, none_here line none) in
    (λ i. layout m (take (n i) (ind ++ line)) (drop (n i) (ind ++ line)) (ind ++ line)) ∙ (λ i. layout m (take_front ind line i) (drop_front ind line i) (ind ++ line))

pub same_both : {A : Type 0} (b : Bool) (x : A) → cond b x x ≡ x
same_both true x = refl
same_both false x = refl

-- an item that begins with no blank begins with the token that is next inside a line
pub item_next : (c : Bool) (x : ℕ) (xs : List ℕ) → blank (class_of x) ≡ false → next (at_item c) (x ∷ xs) ≡ token_by_class (at_item c) (class_of x) (x ∷ xs)
unfolding next layout token_within_line
item_next c x xs h = laid_after (at_item c) [] (x ∷ xs) tt h ∙ same_both (begins_blank_line (x ∷ xs)) (token_by_class (at_item c) (class_of x) (x ∷ xs))

-- the first byte isn't white
abbrev pub begins_item : List ℕ → Bool
begins_item [] = false
begins_item (x ∷ xs) = not (white (class_of x))

-- the text of an item and of those after it, from where the item begins
pub record ItemLexes (c : Bool) (ts : List Sign) : Type 0 where
  pub lexes : Lexes (at_item c) ts
  pub begins : begins_item (text_of ts) ≡ true

pub item_name : (c : Bool) (n : List ℕ) {ts : List Sign} → IsName n → Goes [] [] c None ts → ItemLexes c (sign Identifier n ∷ ts)
item_name c [] h k = absurd h
item_name c (x ∷ xs) {ts} h k = record {
  lexes = name_from (at_item c) (x ∷ xs) h (head_word (text_of ts) k.apart) (λ x xs e. item_next c x xs (ap blank e)) (λ o l col. k.lexes _);
  begins = ap (λ b. not (white b)) h.0;
}

pub item_word : (c : Bool) (w : List ℕ) {ts : List Sign} → is_word w ≡ true → Goes [] [] c None ts → ItemLexes c (sign Identifier w ∷ ts)
item_word c w h k = item_name c w (word_name w h) k

pub blank_line : (c : Bool) {more : List ℕ} {ts : List Sign} → LexesTo (at_item c) more ts → LexesTo (at_item c) (10 ∷ more) (sign Eol (10 ∷ []) ∷ ts)
unfolding next layout token_within_line token_by_class class_of
blank_line c {more} {ts} k = step_to (at_item c) Eol (10 ∷ []) more ts refl (λ e. cc) (λ o n col. k)

pub item_newline : (c : Bool) {ts : List Sign} → Lexes (at_item c) ts → Lexes (at_item c) (newline ∷ ts)
unfolding next layout token_within_line token_by_class class_of
item_newline c {ts} k = step (at_item c) Eol (10 ∷ []) ts (fixed_utf8 (10 ∷ []) refl) refl (λ e. cc) (λ o n col. k)

pub line_end : (c f : Bool) {ts : List Sign} → Lexes (at_item c) ts → Lexes (amid [] [] c None f) (newline ∷ ts)
unfolding next token_within_line token_by_class class_of
line_end c f {ts} k = step (amid [] [] c None f) Eol (10 ∷ []) ts (fixed_utf8 (10 ∷ []) refl) refl (λ e. cc) (λ o n col. k)

-- A comment that ends before a printed line end.
pub record IsComment (t : List ℕ) : Type 0 where
  pub first : slice_index t 0 ≡ 35
  pub ends : (more : List ℕ) → raw_len raw_texts.Comment (t ++ (10 ∷ more)) ≡ length t

hash_found : (m : Mode) (x : ℕ) (xs : List ℕ) → x ≡ 35 → token_by_class m (class_of x) (x ∷ xs) ≡ Ok (Comment, raw_len raw_texts.Comment (x ∷ xs))
unfolding token_by_class class_of
hash_found m x xs e = subst (λ y. token_by_class m (class_of y) (y ∷ xs) ≡ Ok (Comment, raw_len raw_texts.Comment (y ∷ xs))) (sym e) refl

hash_no_blank : (x : ℕ) → x ≡ 35 → blank (class_of x) ≡ false
unfolding class_of
hash_no_blank x e = ap (λ y. blank (class_of y)) e

pub comment_no_blank : (t more : List ℕ) → IsComment t → head_is blank (t ++ (10 ∷ more)) ≡ false
unfolding class_of
comment_no_blank [] more h = refl
comment_no_blank (x ∷ xs) more h = hash_no_blank x h.first

hash_no_brace : (b : Bool) (x : ℕ) (xs : List ℕ) → x ≡ 35 → (b && (eqb x 125 && eqb (slice_index (x ∷ xs) 1) 125)) ≡ false
hash_no_brace true x xs e = ap (λ y. eqb y 125 && eqb (slice_index (x ∷ xs) 1) 125) e
hash_no_brace false x xs e = refl

no_hash : ◌≡◌ {A = ℕ} 0 35 → ⊥
no_hash e = omega (arith, e)

-- where the class of its first byte decides
comment_from : (m : Mode) (t : List ℕ) {ts : List Sign} → IsComment t → IsUtf8 t → ((x : ℕ) (xs : List ℕ) → x ≡ 35 → next m (x ∷ xs) ≡ token_by_class m (class_of x) (x ∷ xs))
    → ((o n c : ℕ) → Lexes (mode_after Comment (placed (sign Comment t) o n c) m) (newline ∷ ts)) → Lexes m (sign Comment t ∷ newline ∷ ts)
comment_from m [] h u found k = absurd (no_hash h.first)
comment_from m (x ∷ xs) {ts} h u found k =
    let more : List ℕ = 10 ∷ text_of ts in
    step m Comment (x ∷ xs) (newline ∷ ts) u
    (found x (xs ++ more) h.first ∙ hash_found m x (xs ++ more) h.first ∙ ap (λ n. Ok (Comment, n)) (h.ends (text_of ts)))
    (λ e. cc) k

pub comment_step : (os : List OpenDelimiter) (ls : List (List ℕ)) (c : Bool) (i : Option Tok) (f : Bool) (t : List ℕ) {ts : List Sign} → IsComment t → IsUtf8 t → Lexes (amid os ls c i false) (newline ∷ ts)
    → Lexes (amid os ls c i f) (sign Comment t ∷ newline ∷ ts)
comment_step os ls c i f t h u k = comment_from (amid os ls c i f) t h u (λ x xs e. amid_next os ls c i f x xs (hash_no_brace (is_empty os) x xs e)) (λ o n col. k)

hash_begins : (t more : List ℕ) → IsComment t → begins_item (t ++ more) ≡ true
unfolding class_of
hash_begins [] more h = absurd (no_hash h.first)
hash_begins (x ∷ xs) more h = ap (λ y. not (white (class_of y))) h.first

pub item_comment : (c : Bool) (t : List ℕ) {ts : List Sign} → IsComment t → IsUtf8 t → Lexes (amid [] [] c None false) (newline ∷ ts) → ItemLexes c (sign Comment t ∷ newline ∷ ts)
item_comment c t h u k = record {
  lexes = comment_from (at_item c) t h u (λ x xs e. item_next c x xs (hash_no_blank x e)) (λ o n col. k);
  begins = hash_begins t _ h;
}
