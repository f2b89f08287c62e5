-- From the mask of one load to the bytes that pass a test, and from the loads to the whole run.
use Rattle.std.proofs.Common.{◌≡◌, ℕ, ◌+◌, ◌%◌, ◌^◌, ◌<◌, ◌≤◌, eqb, Bool, true, not, cond, List, map, length, get_or, take, drop, Fits, w8, sym, ap, ◌∙◌, subst, arith, take-append-drop, drop-drop}
use Rattle.std.proofs.Math.Bool.{not-not}
use Rattle.std.proofs.lemmas.Bool.{agree_below, agree_below_at, eq-eqb, ne_eqb, cond-true, cond-false}
use Rattle.std.proofs.lemmas.Simd.{map-map, mask_l-mod, length-chunk, get_or-chunk, first_set_mask_l}
use Rattle.std.proofs.lemmas.List.{length-map}
use Rattle.std.proofs.lemmas.List.Folds.{prefix_len-append}
use Rattle.std.proofs.lemmas.List.Sums.{prefix_len-le-length, prefix_len_is, prefix_len_passes, prefix_len_stops}
use Rattle.std.specs.List.{prefix_len}
use Rattle.std.specs.Int.{w64, trailing_zeros}
use lib.Lanes.{chunk, mask_l, top}

-- two tests that agree on bytes pass as many
same_len : (p q : ℕ → Bool) (xs : List ℕ) → ((k : ℕ) → k < length xs → p (get_or xs k 0) ≡ q (get_or xs k 0)) → prefix_len p xs ≡ prefix_len q xs
same_len p q xs same =
    sym (prefix_len_is q xs (prefix_len p xs) 0 (prefix_len-le-length p xs)
    (λ k below. sym (same k (omega (arith, prefix_len-le-length p xs))) ∙ prefix_len_passes p xs k 0 below)
    (λ short. sym (same (prefix_len p xs) short) ∙ prefix_len_stops p xs 0 short))

module _ (q : ℕ → Bool) (d : List ℕ) (i n r : ℕ) (z : List ℕ) (room : i + n ≤ length d) (few : n ≤ 64)
    (fits : (k : ℕ) → Fits w8 (get_or d k 0)) (found : r ≡ cond (eqb (mask_l (map (top 7) z) % 2 ^ 64) 0) n (trailing_zeros w64 (mask_l (map (top 7) z) % 2 ^ 64)))
    (f : ℕ → ℕ) (lanes : z ≡ map f (chunk i n d)) where
  abbrev stops : ℕ → Bool
  stops x = top 7 (f x)

  long : length (chunk i n d) ≡ n
  long = length-chunk i n d room

  counted : r ≡ prefix_len (λ x. not (stops x)) (chunk i n d)
  counted =
      let v = chunk i n d in
      let mask = ap (λ l. mask_l l % 2 ^ 64) (ap (map (top 7)) lanes ∙ map-map (top 7) f v) ∙ mask_l-mod (map stops v) 64 (omega (arith, length-map v stops, long)) in
      found ∙ ap (λ m. cond (eqb m 0) n (trailing_zeros w64 m)) mask ∙ first_set_mask_l stops v n long few

  -- a lane stops just where q fails
  pub run_by : ((x : ℕ) → x < 256 → stops x ≡ not (q x)) → r ≡ prefix_len q (take n (drop i d))
  run_by agrees =
      counted ∙ same_len (λ x. not (stops x)) q (chunk i n d)
      (λ k below.
      let at = get_or-chunk i n d k 0 (omega (arith, long)) in
      let small : get_or (chunk i n d) k 0 < 256 = subst (λ x. x < 256) (sym at) (fits (i + k)).fits in
      ap not (agrees _ small) ∙ not-not (q (get_or (chunk i n d) k 0)))

  pub run_is : agree_below stops (λ x. not (q x)) 256 ≡ true → r ≡ prefix_len q (take n (drop i d))
  run_is all = run_by (λ x below. agree_below_at stops (λ x. not (q x)) 256 x all below)

-- The first `at` bytes pass.
pub record IsRunTo (q : ℕ → Bool) (xs : List ℕ) (at : ℕ) : Type 0 where
  pub within : at ≤ length xs
  pub length_is : prefix_len q xs ≡ at + prefix_len q (drop at xs)

module _ (q : ℕ → Bool) (xs : List ℕ) (at n r : ℕ) (h : IsRunTo q xs at) (room : at + n ≤ length xs) (found : r ≡ prefix_len q (take n (drop at xs))) where
  front : length (take n (drop at xs)) ≡ n
  front = length-chunk at n xs room

  parts : prefix_len q (drop at xs) ≡ cond (eqb r n) (n + prefix_len q (drop (at + n) xs)) r
  parts =
      ap (prefix_len q) (sym (take-append-drop n (drop at xs)))
      ∙ prefix_len-append q (take n (drop at xs)) (drop n (drop at xs))
      ∙ (λ i. cond (eqb (sym found i) (front i)) (front i + prefix_len q (drop-drop n at xs i)) (sym found i))

  -- a load that stops has the end of the run
  pub run_stops : r < n → at + r ≡ prefix_len q xs
  run_stops short =
      let rest : prefix_len q (drop at xs) ≡ r = parts ∙ cond-false _ _ _ (ne_eqb r n (omega arith)) in
      omega (arith, h.length_is, rest)

  -- one that doesn't lengthens it
  pub run_goes_on : n ≤ r → IsRunTo q xs (at + n)
  run_goes_on whole =
      let le : r ≤ n = omega (arith, found, front, prefix_len-le-length q (take n (drop at xs))) in
      let same : r ≡ n = omega arith in
      let rest : prefix_len q (drop at xs) ≡ n + prefix_len q (drop (at + n) xs) = parts ∙ cond-true _ _ _ (eq-eqb r n same) in
      record { within = room; length_is = omega (arith, h.length_is, rest) }
