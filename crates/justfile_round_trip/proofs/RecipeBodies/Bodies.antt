-- A printed body, with any indentation, and the text after it lex to the printer's tokens.
use Rattle.std.proofs.Common.{◌≡◌, ℕ, Bool, true, false, cond, List, [], ◌∷◌, ◌++◌, length, drop, Some, refl, sym, ap, ◌∙◌}
use Rattle.std.specs.Prelude.{◌&&◌, ◌||◌, not}
use Rattle.std.proofs.Math.Bool.{or-true}
use Rattle.justfile_vocabulary.specs.ByteClass.{class_of}
use Rattle.justfile_model.specs.Lexing.Bytes.{blank, white, line_feed, blank_len, closes_levels}
use Rattle.justfile_model.specs.Lexing.Next.{begins_blank_line}
use Rattle.justfile_model.specs.Trees.Tree.{Text, Interpolation, Line}
use Rattle.justfile_round_trip.proofs.LiteralTexts.LexedModes.{Sign, newline, Lexes, text_of}
use Rattle.justfile_round_trip.proofs.LiteralTexts.Inline.{goes, head_is, space_step}
use Rattle.justfile_round_trip.proofs.RecipeBodies.Lines.{at_item}
use Rattle.justfile_round_trip.proofs.RecipeBodies.BodyLines.{at_line, in_line, IsLevel, text_step, body_line_end, interpolation_start, interpolation_end, empty_step, indent_step, level_step, white_blanks, closes_over, closes_feed, closes_nothing, ends_body, dedent_step}
use Rattle.justfile_round_trip.proofs.LiteralTexts.RawTexts.{NoFeed, raw_no_feed, not_blank_line, text_no_end}
use Rattle.justfile_round_trip.proofs.Canon.{Value, Fragment, ShapeLine, fragment_signs, fragments_signs, lines_signs, body_signs}
use Rattle.justfile_round_trip.proofs.Good.{GoodExpression, GoodFragments, IsShown, IsFirst, GoodLines, GoodBody, pale, pale_line, all_pale, pale_after}
use Rattle.justfile_round_trip.proofs.Values.LexesValues.{lex_spaced}

-- ---- whether levels close before a blank line of a body

over_text : (t rest : List ℕ) → NoFeed t → closes_levels false (t ++ rest) ≡ cond (pale t) (closes_levels false rest) false
unfolding closes_levels
over_text [] rest each = refl
over_text (x ∷ xs) rest each = go (white (class_of x)) (line_feed (class_of x)) each.0 (over_text xs rest each.1)
  where
    go : (w l : Bool) → not l ≡ true → closes_levels false (xs ++ rest) ≡ cond (pale xs) (closes_levels false rest) false → cond w (closes_levels l (xs ++ rest)) false ≡ cond (w && pale xs) (closes_levels false rest) false
    go true true h ih = cc
    go true false h ih = ih
    go false l h ih = refl

both : (a b c : Bool) → cond a (cond b c false) false ≡ cond (a && b) c false
both true b c = refl
both false b c = refl

module _ (limit : ℕ) where
  -- ---- inside a line

  value_step : (ind : List ℕ) (e : Value) {ts : List Sign} → GoodExpression limit e → Lexes (in_line ind) ts → Lexes (in_line ind) (fragment_signs (Interpolation e) ts)
  unfolding class_of
  value_step ind e h k = interpolation_start ind (λ t. (lex_spaced (ind ∷ []) true (Some t) [] e h.lexes (goes refl (λ f. space_step refl (interpolation_end ind t k)))).lexes false)

  pub fragments_step : (ind : List ℕ) (fs : List Fragment) {ts : List Sign} → GoodFragments limit fs → Lexes (in_line ind) (newline ∷ ts) → Lexes (in_line ind) (fragments_signs fs (newline ∷ ts))
  fragments_step ind [] h k = k
  fragments_step ind (Text t ∷ []) h k = text_step ind t h.0.some (h.0.ends _) h.1 k
  fragments_step ind (Text t ∷ Text u ∷ fs) h k = absurd h
  fragments_step ind (Text t ∷ Interpolation e ∷ fs) h k = text_step ind t h.0.some (h.0.ends _) h.1 (fragments_step ind (Interpolation e ∷ fs) h.2 k)
  fragments_step ind (Interpolation e ∷ fs) h k = value_step ind e h.0 (fragments_step ind fs h.1 k)

  -- a shown line has more than blanks
  shown : (f : Fragment) (fs : List Fragment) (ts : List Sign) → GoodFragments limit (f ∷ fs) → IsShown (f ∷ fs)
      → begins_blank_line (drop (blank_len (text_of (fragments_signs (f ∷ fs) (newline ∷ ts)))) (text_of (fragments_signs (f ∷ fs) (newline ∷ ts)))) ≡ false
  unfolding class_of
  shown (Text t) [] ts good h = not_blank_line t _ (good.0.ends _) (λ e. let bad : true ≡ false = sym e ∙ h in cc)
  shown (Text t) (Text u ∷ fs) ts good h = absurd good
  shown (Text t) (Interpolation e ∷ fs) ts good h = not_blank_line t _ (good.0.ends _) (λ _. refl)
  shown (Interpolation e) fs ts good h = refl

  first_no_blank : (l : List Fragment) (ts : List Sign) → GoodFragments limit l → IsFirst l → head_is blank (text_of (fragments_signs l (newline ∷ ts))) ≡ false
  unfolding class_of
  first_no_blank [] ts good first = absurd first
  first_no_blank (Text [] ∷ []) ts good first = refl
  first_no_blank (Text (x ∷ xs) ∷ []) ts good first = first
  first_no_blank (Text t ∷ Text u ∷ fs) ts good first = absurd good
  first_no_blank (Text [] ∷ Interpolation e ∷ fs) ts good first = refl
  first_no_blank (Text (x ∷ xs) ∷ Interpolation e ∷ fs) ts good first = first
  first_no_blank (Interpolation e ∷ fs) ts good first = refl

  first_no_end : (l : List Fragment) (ts : List Sign) → GoodFragments limit l → IsFirst l → begins_blank_line (text_of (fragments_signs l (newline ∷ ts))) ≡ false
  first_no_end [] ts good first = absurd first
  first_no_end (Text [] ∷ []) ts good first = let e = good.0.some in cc
  first_no_end (Text (x ∷ xs) ∷ []) ts good first = text_no_end x _ (length xs) (good.0.ends _)
  first_no_end (Text t ∷ Text u ∷ fs) ts good first = absurd good
  first_no_end (Text [] ∷ Interpolation e ∷ fs) ts good first = let e = good.0.some in cc
  first_no_end (Text (x ∷ xs) ∷ Interpolation e ∷ fs) ts good first = text_no_end x _ (length xs) (good.0.ends _)
  first_no_end (Interpolation e ∷ fs) ts good first = refl

  over_fragments : (fs : List Fragment) (ts : List Sign) → GoodFragments limit fs → closes_levels false (text_of (fragments_signs fs (newline ∷ ts))) ≡ cond (pale_line fs) (closes_levels true (text_of ts)) false
  unfolding closes_levels class_of
  over_fragments [] ts good = refl
  over_fragments (Text t ∷ []) ts good =
      over_text t (10 ∷ text_of ts) (raw_no_feed t (10 ∷ []) good.0) ∙ ap (λ b. cond (pale t) b false) (closes_feed false (text_of ts)) ∙ both (pale t) true (closes_levels true (text_of ts))
  over_fragments (Text t ∷ Text u ∷ fs) ts good = absurd good
  over_fragments (Text t ∷ Interpolation e ∷ fs) ts good =
      over_text t _ (raw_no_feed t (123 ∷ 123 ∷ 32 ∷ []) good.0) ∙ ap (λ b. cond (pale t) b false) (over_fragments (Interpolation e ∷ fs) ts good.2) ∙ both (pale t) false (closes_levels true (text_of ts))
  over_fragments (Interpolation e ∷ fs) ts good = refl

  -- levels stay open if a line that isn't pale follows, or if the body is at the end of the text
  stays_open : (ind : List ℕ) (ls : List ShapeLine) (ts : List Sign) → IsLevel ind → GoodLines limit ls → (all_pale ls ≡ true → text_of ts ≡ []) → closes_levels true (text_of (lines_signs ind ls ts)) ≡ false
  stays_open ind [] ts i good h = ap (closes_levels true) (h refl) ∙ closes_nothing true
  stays_open ind (Line n [] ∷ ls) ts i good h = closes_feed true _ ∙ stays_open ind ls ts i good.2 h
  stays_open ind (Line n (f ∷ fs) ∷ ls) ts i good h =
      let rest = lines_signs ind ls ts in
      let line = text_of (fragments_signs (f ∷ fs) (newline ∷ rest)) in
      closes_over true ind line (white_blanks ind i.each)
      ∙ ap (λ b. closes_levels (cond b true false) line) i.some
      ∙ over_fragments (f ∷ fs) rest good.0
      ∙ go (pale_line (f ∷ fs)) refl (stays_open ind ls ts i good.2)
    where
      go : (b : Bool) → pale_line (f ∷ fs) ≡ b → ((all_pale ls ≡ true → text_of ts ≡ []) → closes_levels true (text_of (lines_signs ind ls ts)) ≡ false)
          → cond b (closes_levels true (text_of (lines_signs ind ls ts))) false ≡ false
      go true e opened = opened (λ p. h (ap (λ b. b && all_pale ls) e ∙ p))
      go false e opened = refl

  -- ---- lines, and the whole body

  pub lines_step : (ind : List ℕ) (ls : List ShapeLine) {ts : List Sign} → IsLevel ind → GoodLines limit ls → (pale_after ls ≡ true → text_of ts ≡ []) → Lexes (at_line ind) ts → Lexes (at_line ind) (lines_signs ind ls ts)
  lines_step ind [] i good h k = k
  lines_step ind (Line n [] ∷ ls) {ts} i good h k =
      empty_step ind (stays_open ind ls ts i good.2 (λ p. h (ap (λ b. b || pale_after ls) p)))
      (lines_step ind ls i good.2 (λ p. h (ap (λ b. all_pale ls || b) p ∙ or-true (all_pale ls))) k)
  lines_step ind (Line n (f ∷ fs) ∷ ls) i good h k =
      level_step ind i (shown f fs _ good.0 good.1) (fragments_step ind (f ∷ fs) good.0 (body_line_end ind (lines_step ind ls i good.2 h k)))

  -- a body is lexed back from the start of its first line, and the text after it from the start of an item
  pub lex_body : (ind : List ℕ) (ls : List ShapeLine) {ts : List Sign} → IsLevel ind → GoodBody limit ls → ends_body (text_of ts) ≡ true → (pale_after ls ≡ true → text_of ts ≡ [])
      → Lexes (at_item false) ts → Lexes (at_item true) (body_signs ind ls ts)
  lex_body ind [] i good following h k = absurd good
  lex_body ind (Line n [] ∷ ls) i good following h k = absurd good.0
  lex_body ind (Line n (f ∷ fs) ∷ ls) i good following h k =
      indent_step ind i (first_no_blank (f ∷ fs) _ good.1 good.0) (first_no_end (f ∷ fs) _ good.1 good.0)
      (fragments_step ind (f ∷ fs) good.1 (body_line_end ind (lines_step ind ls i good.2 h (dedent_step ind i following k))))
