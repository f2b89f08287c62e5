-- Counting line feeds.
use Rattle.std.proofs.Common.{◌≡◌, ◌==◌, ℕ, ◌+◌, ◌-◌, ◌<◌, ◌≤◌, ◌%◌, ◌^◌, eqb, List, ◌∷◌, ◌++◌, length, map, take, drop, get_or, replicate, cond, count_ones, w8, sym, ap, ◌∙◌, arith}
use Rattle.std.proofs.Math.Seq.{take-add}
use Rattle.std.proofs.lemmas.Bool.{eq-eqb, eqb-true}
use Rattle.std.proofs.lemmas.List.{drop_more, get_or-drop, length-drop, take-append-drop}
use Rattle.std.proofs.lemmas.List.Sums.{count_by-le-length, sum_by-append, sum_by_more}
use Rattle.std.proofs.lemmas.Simd.{bitmask_splat, length-chunk, ones-mask_l}
use Rattle.memchr.specs.Find.{NoneAfter, Nowhere, Passes, is_byte}
use Rattle.justfile_lines.specs.Positions.{feeds, last_line}
use Rattle.justfile_lines.proofs.Columns.{last_after, without_feeds}
use Rattle.justfile_lines.proofs.Searches.{only_line}
use lib.Lanes.{chunk, mask_l, top, zip2}

-- the feeds of a front and of what follows it
pub feeds_more : (text : List ℕ) (i n : ℕ) → feeds (take i text) + feeds (take n (drop i text)) ≡ feeds (take (i + n) text)
feeds_more text i n = sym (ap feeds (take-add i n text) ∙ sum_by-append (λ (c : ℕ). cond (c == 10) 1 0) (take i text) (take n (drop i text)))

-- the feeds among the next bytes, by the mask of one load
pub feeds_of_mask : (text : List ℕ) (i : ℕ) → i + 64 ≤ length text
    → count_ones (mask_l (map (top 7) (zip2 (λ a b. cond (eqb a b) 255 0) (chunk i 64 text) (replicate 64 10))) % 2 ^ 64) ≡ feeds (take 64 (drop i text))
feeds_of_mask text i room =
    ap count_ones (bitmask_splat w8 eqb (chunk i 64 text) 64 10 (length-chunk i 64 text room) (omega arith)) ∙ ones-mask_l (λ (c : ℕ). eqb c 10) (chunk i 64 text)

-- there are no more than bytes
pub few_feeds : (text : List ℕ) (i n : ℕ) → i + 64 ≤ length text → n ≡ feeds (take 64 (drop i text)) → n ≤ 64
few_feeds text i n room is =
    omega (arith, is, count_by-le-length (λ (c : ℕ). c == 10) (take 64 (drop i text)), length-chunk i 64 text room)

-- one byte more
pub feeds_step : (text : List ℕ) (i : ℕ) → i < length text → feeds (take (i + 1) text) ≡ feeds (take i text) + cond (get_or text i 0 == 10) 1 0
feeds_step text i h = sum_by_more (λ (c : ℕ). cond (c == 10) 1 0) text i 0 h

-- what follows the last feed of a text is its last line
module _ (text : List ℕ) (n : ℕ) (last : NoneAfter (Passes (is_byte 10) text) 0 (length text) n) (feed : Passes (is_byte 10) text n) where
  cut : text ≡ take n text ++ 10 ∷ drop (n + 1) text
  cut =
      sym (take-append-drop n text)
      ∙ ap (λ (l : List ℕ). take n text ++ l) (drop_more text n 0 last.high ∙ ap (λ (c : ℕ). c ∷ drop (n + 1) text) (eqb-true _ 10 feed))

  none : Nowhere (Passes (is_byte 10) (drop (n + 1) text)) 0 (length (drop (n + 1) text))
  none k low short passes =
      last.after (n + 1 + k) (omega arith) (omega (arith, length-drop (n + 1) text, last.high))
      (eq-eqb _ 10 (sym (get_or-drop (n + 1) text k 0) ∙ eqb-true _ 10 passes))

  pub last_is : drop (n + 1) text ≡ last_line text
  last_is = sym (ap last_line cut ∙ last_after (take n text) (drop (n + 1) text) ∙ without_feeds (drop (n + 1) text) (only_line (drop (n + 1) text) none))

-- a text without a feed is its last line
pub whole_is : (text : List ℕ) → Nowhere (Passes (is_byte 10) text) 0 (length text) → text ≡ last_line text
whole_is text none = sym (without_feeds text (only_line text none))
