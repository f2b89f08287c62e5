-- Printed lines of a body, and the end of the body, lex to the printer's tokens, token by token.
use Rattle.std.proofs.Common.{◌≡◌, ℕ, zero, suc, ◌-◌, Bool, true, false, cond, eqb, List, [], ◌∷◌, ◌++◌, length, get_or, take, drop, Option, Some, None, Ok, refl, sym, ap, ◌∙◌, subst, arith}
use Rattle.std.specs.Prelude.{◌&&◌, ◌||◌, not, nat_eq}
use Rattle.std.specs.List.{list_all, list_any, starts_with}
use Rattle.std.specs.Str.{IsUtf8, bytes_eq}
use Rattle.std.proofs.lemmas.Bool.{and_parts, false_from_ne_true, ne_eqb, not-true}
use Rattle.std.proofs.lemmas.Bool.Decides.{nat_tests}
use Rattle.std.proofs.lemmas.Slice.Eq.{bytes_eq-Decides}
use Rattle.std.proofs.lemmas.Str.{IsUtf8-nil}
use Rattle.std.proofs.Math.Seq.{take-append-add, drop-append-add}
use Rattle.std.proofs.Math.Bool.{and-false}
use Rattle.justfile_vocabulary.specs.declared.byte_class.ByteClass.{ByteClass}
use Rattle.justfile_vocabulary.specs.declared.byte_class.ByteClass.TheVariants as classes
use Rattle.justfile_vocabulary.specs.declared.token_kind.TokenKind.TheVariants.{Colon, Dedent, Eol, Indent, InterpolationEnd, InterpolationStart, Text, Whitespace}
use Rattle.justfile_vocabulary.specs.ByteClass.{class_of}
use Rattle.justfile_vocabulary.specs.Indentation.{IsIndentation, is_space_or_tab}
use Rattle.justfile_vocabulary.proofs.IndentationLemmas.{all_equal}
use Rattle.justfile_model.specs.declared.open_delimiter.OpenDelimiter.{OpenDelimiter}
use Rattle.justfile_model.specs.declared.raw_text.RawText.TheVariants as raw_texts
use Rattle.justfile_model.specs.Lexing.Bytes.{blank, white, line_feed, blank_len, is_mixed, closes_levels}
use Rattle.justfile_model.specs.Lexing.LiteralText.{pieces_len, raw_len}
use Rattle.justfile_model.specs.Lexing.Tok.{Tok}
use Rattle.justfile_model.specs.Lexing.Modes.{Mode, is_empty}
use Rattle.justfile_model.specs.Lexing.Next.{fixed_token, token_by_class, token_within_line, body_token, text_or, layout, begins_blank_line, next}
use Rattle.justfile_round_trip.proofs.LiteralTexts.LexedModes.{Sign, sign, space, newline, Lexes, text_of, step, take_front}
use Rattle.justfile_model.proofs.Lexing.CutLemmas.{blank_ascii}
use Rattle.justfile_round_trip.proofs.LiteralTexts.Inline.{Each, head_is, amid, amid_next, each_utf8, fixed_utf8}
use Rattle.justfile_round_trip.proofs.RecipeBodies.Lines.{at_item, run_more, laid_after, same_both, begins_item}

-- where a line of a body begins, and inside it
abbrev pub at_line : List ℕ → Mode
at_line ind = record { openers = []; levels = ind ∷ []; colon = true; in_body = true; interpolation = None; line_start = true; after_f = false }

abbrev pub in_line : List ℕ → Mode
in_line ind = record { openers = []; levels = ind ∷ []; colon = true; in_body = true; interpolation = None; line_start = false; after_f = false }

-- The blanks of a level: one or more, without a space and a tab among them.
pub record IsLevel (ind : List ℕ) : Type 0 where
  pub some : is_empty ind ≡ false
  pub each : Each blank ind
  pub equal : is_mixed ind ≡ false

each_blank : (x : ℕ) (xs : List ℕ) → blank (class_of x) ≡ true → list_all (λ b. eqb b x) xs ≡ true → Each blank xs
each_blank x [] h e = tt
each_blank x (y ∷ ys) h e =
    let parts = and_parts (eqb y x) (list_all (λ b. eqb b x) ys) e in
    let at : y ≡ x = grind (arith, nat_tests) in
    (ap (λ b. blank (class_of b)) at ∙ h, each_blank x ys h parts.1)

no_other : (x n : ℕ) (xs : List ℕ) → eqb x n ≡ false → list_all (λ b. eqb b x) xs ≡ true → list_any (λ b. eqb b n) xs ≡ false
no_other x n [] h e = refl
no_other x n (y ∷ ys) h e = grind (arith, nat_tests, no_other x n ys h)

not_mixed : (x : ℕ) (xs : List ℕ) → list_all (λ b. eqb b x) xs ≡ true → is_mixed xs ≡ false
not_mixed x xs e = grind (arith, nat_tests, no_other x 9 xs, no_other x 32 xs)

is_blank_class : (x : ℕ) → is_space_or_tab x ≡ true → blank (class_of x) ≡ true
unfolding class_of
is_blank_class x h = rw h refl

-- an indentation is a level
pub level_is : (ind : List ℕ) → IsIndentation ind → IsLevel ind
level_is [] i = absurd (omega (arith, i.nonempty))
level_is (x ∷ xs) i =
    let same = all_equal (x ∷ xs) i in
    record { some = refl; each = each_blank x (x ∷ xs) (is_blank_class x i.blank) same; equal = not_mixed x (x ∷ xs) same }

-- ---- in front of a body

-- a colon before a byte that doesn't lengthen it
pub colon_step : {os : List OpenDelimiter} {ls : List (List ℕ)} {c : Bool} {i : Option Tok} {f : Bool} {ts : List Sign} → eqb (get_or (text_of ts) 0 0) 61 ≡ false → eqb (get_or (text_of ts) 0 0) 58 ≡ false
    → Lexes (amid os ls true i false) ts → Lexes (amid os ls c i f) (sign Colon (58 ∷ []) ∷ ts)
unfolding token_by_class class_of fixed_token
colon_step {os} {ls} {c} {i} {f} {ts} equals colon k =
    step (amid os ls c i f) Colon (58 ∷ []) ts (fixed_utf8 (58 ∷ []) refl)
    (amid_next os ls c i f 58 (text_of ts) (and-false (is_empty os)) ∙ rw equals (rw colon refl))
    (λ e. cc) (λ o n col. k)

-- ---- inside a line of a body

-- text of a body in front of a stop that is printed after it
pub record IsRaw (t stop : List ℕ) : Type 0 where
  pub some : is_empty t ≡ false
  pub ends : (more : List ℕ) → raw_len raw_texts.Body (t ++ (stop ++ more)) ≡ length t

pub text_step : (ind t : List ℕ) {ts : List Sign} → is_empty t ≡ false → raw_len raw_texts.Body (t ++ text_of ts) ≡ length t → IsUtf8 t → Lexes (in_line ind) ts → Lexes (in_line ind) (sign Text t ∷ ts)
unfolding next token_within_line body_token
text_step ind [] some ends u k = cc
text_step ind (x ∷ xs) {ts} some ends u k = step (in_line ind) Text (x ∷ xs) ts u (ap (λ n. text_or n x) ends) (λ e. cc) (λ o n c. k)

pub body_line_end : (ind : List ℕ) {ts : List Sign} → Lexes (at_line ind) ts → Lexes (in_line ind) (newline ∷ ts)
unfolding next token_within_line body_token pieces_len
body_line_end ind {ts} k = step (in_line ind) Eol (10 ∷ []) ts (fixed_utf8 (10 ∷ []) refl) refl (λ e. cc) (λ o n c. k)

pub interpolation_start : (ind : List ℕ) {ts : List Sign} → ((t : Tok) → Lexes (amid [] (ind ∷ []) true (Some t) false) (space ∷ ts)) → Lexes (in_line ind) (sign InterpolationStart (123 ∷ 123 ∷ []) ∷ space ∷ ts)
unfolding next token_within_line body_token pieces_len
interpolation_start ind {ts} k = step (in_line ind) InterpolationStart (123 ∷ 123 ∷ []) (space ∷ ts) (fixed_utf8 (123 ∷ 123 ∷ []) refl) refl (λ e. cc) (λ o n c. k _)

pub interpolation_end : (ind : List ℕ) (t : Tok) {ts : List Sign} → Lexes (in_line ind) ts → Lexes (amid [] (ind ∷ []) true (Some t) false) (sign InterpolationEnd (125 ∷ 125 ∷ []) ∷ ts)
unfolding next token_within_line
interpolation_end ind t {ts} k = step (amid [] (ind ∷ []) true (Some t) false) InterpolationEnd (125 ∷ 125 ∷ []) ts (fixed_utf8 (125 ∷ 125 ∷ []) refl) refl (λ e. cc) (λ o n c. k)

-- ---- where a line of a body begins

-- an empty line: levels stay open where the run of white bytes after it does not close them
pub empty_step : (ind : List ℕ) {ts : List Sign} → closes_levels true (text_of ts) ≡ false → Lexes (at_line ind) ts → Lexes (at_line ind) (newline ∷ ts)
unfolding next layout token_within_line body_token class_of closes_levels pieces_len
empty_step ind {ts} h k = step (at_line ind) Eol (10 ∷ []) ts (fixed_utf8 (10 ∷ []) refl) (rw h refl) (λ e. cc) (λ o n c. k)

indent_chosen : (x : ℕ) (xs line rest : List ℕ) → is_mixed (x ∷ xs) ≡ false → begins_blank_line line ≡ false → layout (at_item true) (x ∷ xs) line rest ≡ Ok (Indent, length (x ∷ xs))
unfolding layout
indent_chosen x xs line rest equal seen = rw seen (rw equal refl)

-- the first line, which begins with no blank after the indentation
pub indent_step : (ind : List ℕ) {ts : List Sign} → IsLevel ind → head_is blank (text_of ts) ≡ false → begins_blank_line (text_of ts) ≡ false → Lexes (in_line ind) ts → Lexes (at_item true) (sign Indent ind ∷ ts)
unfolding next
indent_step [] i none seen k = let e = i.some in cc
indent_step (x ∷ xs) {ts} i none seen k =
    step (at_item true) Indent (x ∷ xs) ts (each_utf8 _ blank_ascii (x ∷ xs) i.each)
    (laid_after (at_item true) (x ∷ xs) (text_of ts) i.each none ∙ indent_chosen x xs (text_of ts) _ i.equal seen) (λ e. cc) (λ o n c. k)

begins : (ind v : List ℕ) → starts_with nat_eq (ind ++ v) ind ≡ true
begins ind v = ap (bytes_eq ind) (take_front ind v) ∙ (bytes_eq-Decides ind ind).1 refl

pub swapped : (a b : List ℕ) → bytes_eq a b ≡ false → bytes_eq b a ≡ false
swapped a b h = false_from_ne_true (bytes_eq b a) (λ e. let bad : true ≡ false = sym ((bytes_eq-Decides a b).1 (sym ((bytes_eq-Decides b a).0 e))) ∙ h in cc)

level_chosen : (x : ℕ) (xs v following rest : List ℕ) → begins_blank_line following ≡ false → layout (at_line (x ∷ xs)) (x ∷ xs ++ v) following rest ≡ Ok (Whitespace, length (x ∷ xs))
unfolding layout
level_chosen x xs v following rest seen = go (bytes_eq (x ∷ xs ++ v) (x ∷ xs)) refl
  where
    go : (t : Bool) → bytes_eq (x ∷ xs ++ v) (x ∷ xs) ≡ t → layout (at_line (x ∷ xs)) (x ∷ xs ++ v) following rest ≡ Ok (Whitespace, length (x ∷ xs))
    go true e = rw seen (rw e (ap (λ n. Ok (Whitespace, n)) (ap length ((bytes_eq-Decides (x ∷ xs ++ v) (x ∷ xs)).0 e))))
    go false e = rw seen (rw e (rw (swapped (x ∷ xs ++ v) (x ∷ xs) e) (rw (begins (x ∷ xs) v) refl)))

no_blank : (b n : ℕ) → blank (class_of n) ≡ false → blank (class_of b) ≡ true → eqb b n ≡ false
no_blank b n g h = ne_eqb b n (λ at. let bad : true ≡ false = sym (subst (λ k. blank (class_of k) ≡ true) at h) ∙ g in cc)

-- a blank is neither a brace nor a line feed
pub blank_byte : (b : ℕ) → blank (class_of b) ≡ true → (eqb b 123 ≡ false) × (eqb b 10 ≡ false)
unfolding class_of
blank_byte b h = (no_blank b 123 refl h, no_blank b 10 refl h)

-- no byte of blanks is a line feed
pub no_feed : (ind : List ℕ) → Each blank ind → (n : ℕ) → eqb (get_or ind n 0) 10 ≡ false
no_feed [] each n = refl
no_feed (x ∷ xs) each zero = (blank_byte x each.0).1
no_feed (x ∷ xs) each (suc n) = no_feed xs each.1 n

-- a later line that is not empty, and that may go on with more blanks
pub level_step : (ind : List ℕ) {ts : List Sign} → IsLevel ind → begins_blank_line (drop (blank_len (text_of ts)) (text_of ts)) ≡ false → Lexes (in_line ind) ts → Lexes (at_line ind) (sign Whitespace ind ∷ ts)
unfolding next
level_step [] i seen k = let e = i.some in cc
level_step (x ∷ xs) {ts} i seen k =
    let ind : List ℕ = x ∷ xs in
    let line : List ℕ = text_of ts in
    let n = run_more ind line i.each in
    step (at_line ind) Whitespace ind ts (each_utf8 _ blank_ascii ind i.each)
    ((λ j. layout (at_line ind) (take (n j) (ind ++ line)) (drop (n j) (ind ++ line)) (ind ++ line))
    ∙ (λ j. layout (at_line ind) (take-append-add ind line (blank_len line) j) (drop-append-add ind line (blank_len line) j) (ind ++ line))
    ∙ level_chosen x xs (take (blank_len line) line) _ _ seen)
    (λ e. cc)
    (λ o l c. subst (λ b. Lexes (record (at_line ind) { line_start = b }) ts) (sym (no_feed ind i.each (length ind - 1))) k)

-- ---- runs of white bytes

abbrev pub IsWhite : List ℕ → Type 0
IsWhite [] = Unit {0}
IsWhite (x ∷ xs) = (white (class_of x) ≡ true) × (line_feed (class_of x) ≡ false) × IsWhite xs

blank_white : (k : ByteClass) → blank k ≡ true → (white k ≡ true) × (line_feed k ≡ false)
blank_white classes.Blank e = (refl, refl)
blank_white _ e = cc

pub white_blanks : (ind : List ℕ) → Each blank ind → IsWhite ind
white_blanks [] each = tt
white_blanks (x ∷ xs) each = let h = blank_white (class_of x) each.0 in (h.0, h.1, white_blanks xs each.1)

-- over white bytes, of which none ends a line
pub closes_over : (last : Bool) (w rest : List ℕ) → IsWhite w → closes_levels last (w ++ rest) ≡ closes_levels (cond (is_empty w) last false) rest
unfolding closes_levels
closes_over last [] rest h = refl
closes_over last (x ∷ xs) rest h = rw h.0 (rw h.1 (closes_over false xs rest h.2 ∙ ap (λ b. closes_levels b rest) (same_both (is_empty xs) false)))

pub closes_feed : (last : Bool) (rest : List ℕ) → closes_levels last (10 ∷ rest) ≡ closes_levels true rest
unfolding closes_levels class_of
closes_feed last rest = refl

pub closes_nothing : (last : Bool) → closes_levels last [] ≡ false
unfolding closes_levels
closes_nothing last = refl

-- ---- after a body

-- The text that can follow the last line end of a body: none, or optional line ends and then a byte that isn't white.
abbrev pub ends_body : List ℕ → Bool
ends_body more = is_empty more || (closes_levels true more && not (head_is blank more))

pub ends_at_item : (t : List ℕ) → begins_item t ≡ true → ends_body t ≡ true
unfolding closes_levels
ends_at_item [] h = cc
ends_at_item (x ∷ xs) h = let w = not-true (white (class_of x)) h in rw w (ap not (no_blank_there (class_of x) w))
  where
    no_blank_there : (k : ByteClass) → white k ≡ false → blank k ≡ false
    no_blank_there classes.Blank e = cc
    no_blank_there _ e = refl

-- blank lines can precede an item
pub ends_at_blank_line : (more : List ℕ) → is_empty more ≡ false → ends_body more ≡ true → ends_body (10 ∷ more) ≡ true
unfolding closes_levels class_of
ends_at_blank_line [] some h = cc
ends_at_blank_line (x ∷ xs) some h = rw (and_parts (closes_levels true (x ∷ xs)) _ h).0 refl

dedent_chosen : (y : ℕ) (ys rest : List ℕ) (b : Bool) → begins_blank_line rest ≡ b → (b ≡ true → closes_levels false rest ≡ true) → layout (at_line (y ∷ ys)) [] rest rest ≡ Ok (Dedent, 0)
unfolding layout
dedent_chosen y ys rest true seen closes = rw seen (rw (closes refl) refl)
dedent_chosen y ys rest false seen closes = rw seen refl

-- a line end is white, so what came before it does not matter
end_white : (x : ℕ) (xs : List ℕ) → begins_blank_line (x ∷ xs) ≡ true → white (class_of x) ≡ true
unfolding class_of
end_white x xs h = grind (arith, nat_tests)

closes_alike : (x : ℕ) (xs : List ℕ) → white (class_of x) ≡ true → closes_levels true (x ∷ xs) ≡ true → closes_levels false (x ∷ xs) ≡ true
unfolding closes_levels
closes_alike x xs e h = rw e (let h' = rw e at h in h')

-- the level closes after a body
pub dedent_found : (ind more : List ℕ) → IsLevel ind → ends_body more ≡ true → next (at_line ind) more ≡ Ok (Dedent, 0)
unfolding next
dedent_found ind [] i h = refl
dedent_found [] (x ∷ xs) i h = let e = i.some in cc
dedent_found (y ∷ ys) (x ∷ xs) i h =
    let parts = and_parts (closes_levels true (x ∷ xs)) (not (blank (class_of x))) h in
    laid_after (at_line (y ∷ ys)) [] (x ∷ xs) tt (not-true (blank (class_of x)) parts.1)
    ∙ dedent_chosen y ys (x ∷ xs) (begins_blank_line (x ∷ xs)) refl (λ seen. closes_alike x xs (end_white x xs seen) parts.0)

pub dedent_step : (ind : List ℕ) {ts : List Sign} → IsLevel ind → ends_body (text_of ts) ≡ true → Lexes (at_item false) ts → Lexes (at_line ind) (sign Dedent [] ∷ ts)
dedent_step ind {ts} i h k = step (at_line ind) Dedent [] ts IsUtf8-nil (dedent_found ind (text_of ts) i h) (λ e. cc) (λ o n c. k)
