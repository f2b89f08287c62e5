-- Raw text, read over plain bytes and piece by piece.
use Rattle.std.proofs.Common.{◌≡◌, ℕ, zero, suc, ◌+◌, ◌<◌, ◌≤◌, Bool, true, false, cond, eqb, List, [], ◌∷◌, length, get_or, drop, refl, sym, ap, ◌∙◌, arith, add-one, zero-add, drop-cons, drop-drop, length-drop, get_or-drop}
use Rattle.std.specs.Prelude.{min}
use Rattle.std.specs.List.{prefix_len}
use Rattle.std.proofs.lemmas.Bool.Decides.{nat_tests}
use Rattle.std.proofs.lemmas.List.Sums.{prefix_len-le-length}
use Rattle.justfile_model.specs.declared.raw_text.RawText.{RawText}
use Rattle.justfile_model.specs.Lexing.LiteralText.{hides, ends, pieces_len, raw_len}
use Rattle.justfile_scan.specs.RawTexts.{is_plain, is_plain_end, IsScanStep, IsWithinRaw}

-- the text from a position is the byte there and the rest
pub cell : (bs : List ℕ) (i : ℕ) → i < length bs → drop i bs ≡ get_or bs i 0 ∷ drop (i + 1) bs
cell bs i l = rw (add-one, drop-cons bs i 0) refl

-- a plain byte hides nothing
plain_hides : (s : RawText) (b : ℕ) (bs : List ℕ) → is_plain s b ≡ true → hides s (b ∷ bs) ≡ 0
plain_hides s b bs h = grind (arith, nat_tests)

-- a plain byte doesn't begin an end
plain_ends : (s : RawText) (b : ℕ) (bs : List ℕ) → is_plain s b ≡ true → ends s (b ∷ bs) ≡ false
plain_ends s b bs h = grind (arith, nat_tests)

module _ (hides : List ℕ → ℕ) (ends : List ℕ → Bool) where
  in_hiding : (b : ℕ) (bs : List ℕ) → 0 < hides (b ∷ bs) → pieces_len hides ends 0 (b ∷ bs) ≡ suc (pieces_len hides ends (hides (b ∷ bs)) bs)
  unfolding pieces_len
  in_hiding b bs h = grind (arith, nat_tests)

  at_end : (bs : List ℕ) → hides bs ≤ 0 → ends bs ≡ true → pieces_len hides ends 0 bs ≡ 0
  unfolding pieces_len
  at_end [] h g = refl
  at_end (b ∷ bs) h g = grind (arith, nat_tests)

  in_plain : (b : ℕ) (bs : List ℕ) → hides (b ∷ bs) ≤ 0 → ends (b ∷ bs) ≡ false → pieces_len hides ends 0 (b ∷ bs) ≡ suc (pieces_len hides ends 0 bs)
  unfolding pieces_len
  in_plain b bs h g = grind (arith, nat_tests)

  in_nothing : (bs : List ℕ) → length bs ≤ 0 → pieces_len hides ends 0 bs ≡ 0
  unfolding pieces_len
  in_nothing [] h = refl
  in_nothing (b ∷ bs) h = absurd (omega arith)

  -- past the bytes that are hidden
  past_hidden : (n : ℕ) (bs : List ℕ) → pieces_len hides ends n bs ≡ min (length bs) n + pieces_len hides ends 0 (drop (min (length bs) n) bs)
  unfolding pieces_len
  past_hidden zero bs = grind arith
  past_hidden (suc n) [] = grind arith
  past_hidden (suc n) (b ∷ bs) =
      let more : min (suc (length bs)) (suc n) ≡ suc (min (length bs) n) = omega arith in
      let rest : pieces_len hides ends n bs ≡ min (length bs) n + pieces_len hides ends 0 (drop (suc (min (length bs) n)) (b ∷ bs)) = past_hidden n bs in
      rw more (omega (arith, rest))

-- past the plain bytes at the front
past_plain : (s : RawText) (bs : List ℕ) → raw_len s bs ≡ prefix_len (is_plain s) bs + raw_len s (drop (prefix_len (is_plain s) bs) bs)
unfolding pieces_len
past_plain s [] = sym (zero-add (raw_len s []))
past_plain s (b ∷ bs) = go (is_plain s b) refl (past_plain s bs)
  where
    go : (t : Bool) → is_plain s b ≡ t → raw_len s bs ≡ prefix_len (is_plain s) bs + raw_len s (drop (prefix_len (is_plain s) bs) bs) → raw_len s (b ∷ bs) ≡ cond t (1 + prefix_len (is_plain s) bs) 0 + raw_len s (drop (cond t (1 + prefix_len (is_plain s) bs) 0) (b ∷ bs))
    go true e ih =
        let one : 1 + prefix_len (is_plain s) bs ≡ suc (prefix_len (is_plain s) bs) = omega arith in
        let rest : raw_len s bs ≡ prefix_len (is_plain s) bs + raw_len s (drop (suc (prefix_len (is_plain s) bs)) (b ∷ bs)) = ih in
        rw one (omega (arith, in_plain (hides s) (ends s) b bs (omega (arith, plain_hides s b bs e)) (plain_ends s b bs e), rest))
    go false e ih = sym (zero-add (raw_len s (b ∷ bs)))

-- the text ends at a byte at which it ends whatever follows
hides_none : (s : RawText) (b : ℕ) (bs : List ℕ) → is_plain_end s b ≡ true → hides s (b ∷ bs) ≤ 0
hides_none s b bs h = grind (arith, nat_tests)

ends_here : (s : RawText) (b : ℕ) (bs : List ℕ) → is_plain_end s b ≡ true → ends s (b ∷ bs) ≡ true
ends_here s b bs h = grind (arith, nat_tests)

pub raw_none : (s : RawText) (rest : List ℕ) → is_plain_end s (get_or rest 0 0) ≡ true → raw_len s rest ≡ 0
raw_none s [] h = in_nothing (hides s) (ends s) [] (omega arith)
raw_none s (b ∷ bs) h = at_end (hides s) (ends s) (b ∷ bs) (hides_none s b bs h) (ends_here s b bs h)

pub inside_stop : (s : RawText) (bs : List ℕ) (at : ℕ) → IsWithinRaw s bs at → is_plain_end s (get_or bs at 0) ≡ true → at ≡ raw_len s bs
inside_stop s bs at h e =
    let there : at + 0 ≡ at = omega arith in
    let none = raw_none s (drop at bs) (ap (is_plain_end s) (get_or-drop at bs 0 0 ∙ ap (λ i. get_or bs i 0) there) ∙ e) in
    omega (arith, h.length_is, none)

pub piece_none : (s : RawText) (rest : List ℕ) → length rest ≡ 0 → IsScanStep s rest 0
piece_none s rest h = record { within = omega arith; length_is = in_nothing (hides s) (ends s) rest (omega arith) }

pub piece_end : (s : RawText) (rest : List ℕ) → hides s rest ≤ 0 → ends s rest ≡ true → IsScanStep s rest 0
piece_end s rest h g = record { within = omega arith; length_is = at_end (hides s) (ends s) rest h g }

pub piece_plain : (s : RawText) (rest : List ℕ) → 0 < length rest → hides s rest ≤ 0 → ends s rest ≡ false → IsScanStep s rest 1
piece_plain s [] l h g = absurd (omega arith)
piece_plain s (b ∷ bs) l h g = record { within = omega arith; length_is = in_plain (hides s) (ends s) b bs h g ∙ omega arith }

pub piece_hiding : (s : RawText) (rest : List ℕ) (n : ℕ) → 0 < length rest → n ≡ hides s rest → 0 < n → IsScanStep s rest (min (length rest) (n + 1))
piece_hiding s [] n l e h = absurd (omega arith)
piece_hiding s (b ∷ bs) n l e h =
    let len : min (length (b ∷ bs)) (n + 1) ≡ suc (min (length bs) n) = omega arith in
    let some : eqb (suc (min (length bs) n)) 0 ≡ false = grind (arith, nat_tests) in
    let first = in_hiding (hides s) (ends s) b bs (omega (arith, e, h)) in
    let hidden : raw_len s (b ∷ bs) ≡ suc (pieces_len (hides s) (ends s) n bs) = first ∙ ap (λ k. suc (pieces_len (hides s) (ends s) k bs)) (sym e) in
    let rest : pieces_len (hides s) (ends s) n bs ≡ min (length bs) n + raw_len s (drop (suc (min (length bs) n)) (b ∷ bs)) = past_hidden (hides s) (ends s) n bs in
    record {
      within = omega arith;
      length_is = rw (len, some) (omega (arith, hidden, rest));
    }

pub ruleset piece_cases = (piece_none, piece_end, piece_plain, piece_hiding)

-- a place after plain bytes
pub inside_plain : (s : RawText) (bs : List ℕ) (at n : ℕ) → IsWithinRaw s bs at → n ≡ prefix_len (is_plain s) (drop at bs) → IsWithinRaw s bs (at + n)
inside_plain s bs at n h e =
    let le : n ≤ length (drop at bs) = omega (arith, e, prefix_len-le-length (is_plain s) (drop at bs)) in
    let there : drop n (drop at bs) ≡ drop (at + n) bs = drop-drop n at bs in
    record {
      within = omega (arith, le, h.within, length-drop at bs);
      length_is = omega (arith, h.length_is, past_plain s (drop at bs), ap (λ k. k + raw_len s (drop k (drop at bs))) (sym e), ap (raw_len s) there);
    }

-- a place after a piece
pub inside_piece : (s : RawText) (bs : List ℕ) (at n : ℕ) → IsWithinRaw s bs at → IsScanStep s (drop at bs) n → 0 < n → IsWithinRaw s bs (at + n)
inside_piece s bs at n h p some =
    let more : eqb n 0 ≡ false = grind (arith, nat_tests) in
    let piece : raw_len s (drop at bs) ≡ n + raw_len s (drop n (drop at bs)) = p.length_is ∙ rw more refl in
    record {
      within = omega (arith, p.within, h.within, length-drop at bs);
      length_is = omega (arith, h.length_is, piece, ap (raw_len s) (drop-drop n at bs));
    }

-- where no piece is left, the text ends
pub inside_end : (s : RawText) (bs : List ℕ) (at n : ℕ) → IsWithinRaw s bs at → IsScanStep s (drop at bs) n → n ≡ 0 → at ≡ raw_len s bs
inside_end s bs at n h p none =
    let piece : raw_len s (drop at bs) ≡ 0 = p.length_is ∙ rw none refl in
    omega (arith, h.length_is, piece)
