-- Exchanging items until each is at its place.
use Rattle.std.proofs.Common.{◌≡◌, ◌∙◌, ℕ, zero, suc, ◌<◌, ◌≤◌, ◌+◌, ◌-◌, ◌⊎◌, inl, inr, List, [], ◌∷◌, Bool, true, false, cond, eqb, length, get_or, set, refl, sym, ap, subst, arith, get_or-set_other, length-set, eq-eqb, ne_eqb}
use Rattle.std.specs.List.{SwappedAt}
use Rattle.std.proofs.lemmas.Bool.{cases_eq}
use Rattle.std.proofs.lemmas.List.{same_lists}
use Rattle.std.proofs.lemmas.List.Edits.{Swapped}
use Rattle.justfile_attribute_set.specs.Places.{ArePlaces, AreAt}

-- ---- an exchange

-- the exchange of a and b takes m to k
abbrev pub Turned : (a b k m : ℕ) → Type 0
Turned a b k m = ((k ≡ a) × (m ≡ b)) ⊎ (((k ≡ b) × (m ≡ a)) ⊎ ((k ≡ a → ⊥) × (k ≡ b → ⊥) × (m ≡ k)))

pub turned : (a b k : ℕ) → (m : ℕ) × Turned a b k m
turned a b k = by_cases (cases_eq k a) (cases_eq k b)
  where
    by_cases : (k ≡ a) ⊎ (k ≡ a → ⊥) → (k ≡ b) ⊎ (k ≡ b → ⊥) → (m : ℕ) × Turned a b k m
    by_cases (inl e) f = (b, inl (e, refl))
    by_cases (inr e) (inl f) = (a, inr (inl (f, refl)))
    by_cases (inr e) (inr f) = (k, inr (inr (e, f, refl)))

-- it takes no two to one
pub one_source : (a b j k m n : ℕ) → Turned a b j m → Turned a b k n → m ≡ n → j ≡ k
one_source a b j k m n (inl h) (inl g) e = h.0 ∙ sym g.0
one_source a b j k m n (inl h) (inr (inl g)) e = h.0 ∙ sym g.1 ∙ sym e ∙ h.1 ∙ sym g.0
one_source a b j k m n (inl h) (inr (inr g)) e = absurd (g.1 (sym g.2 ∙ sym e ∙ h.1))
one_source a b j k m n (inr (inl h)) (inl g) e = h.0 ∙ sym g.1 ∙ sym e ∙ h.1 ∙ sym g.0
one_source a b j k m n (inr (inl h)) (inr (inl g)) e = h.0 ∙ sym g.0
one_source a b j k m n (inr (inl h)) (inr (inr g)) e = absurd (g.0 (sym g.2 ∙ sym e ∙ h.1))
one_source a b j k m n (inr (inr h)) (inl g) e = absurd (h.1 (sym h.2 ∙ e ∙ g.1))
one_source a b j k m n (inr (inr h)) (inr (inl g)) e = absurd (h.0 (sym h.2 ∙ e ∙ g.1))
one_source a b j k m n (inr (inr h)) (inr (inr g)) e = sym h.2 ∙ e ∙ g.2

pub source_below : (a b k m n : ℕ) → a < n → b < n → k < n → Turned a b k m → m < n
source_below a b k m n p q r (inl h) = subst (λ i. i < n) (sym h.1) q
source_below a b k m n p q r (inr (inl h)) = subst (λ i. i < n) (sym h.1) p
source_below a b k m n p q r (inr (inr h)) = subst (λ i. i < n) (sym h.2) r

pub read_turned : {X : Type 0} (f g : ℕ → X) (a b k m : ℕ) → Swapped f g a b → Turned a b k m → g k ≡ f m
read_turned f g a b k m s (inl h) = ap g h.0 ∙ s.0 ∙ ap f (sym h.1)
read_turned f g a b k m s (inr (inl h)) = ap g h.0 ∙ s.1 ∙ ap f (sym h.1)
read_turned f g a b k m s (inr (inr h)) = s.2 k h.0 h.1 ∙ ap f (sym h.2)

swapped_at : {X : Type 0} (xs ys : List X) (a b : ℕ) (d : X) → SwappedAt xs ys a b → Swapped (λ i. get_or xs i d) (λ i. get_or ys i d) a b
swapped_at xs ys a b d s = (s.0 d, s.1 d, λ k p q. s.2 k d p q)

-- ---- the loop

-- after the moves from places and xs to ends and ys, the first n are where they belong
pub record HaveMoved {X : Type 0} (n : ℕ) (places : List ℕ) (xs : List X) (ends : List ℕ) (ys : List X) : Type 0 where
  pub left : ArePlaces ends (length ys)
  pub within : n ≤ length ys
  pub done : (k : ℕ) → k < n → get_or ends k 0 ≡ k
  pub keeps : (zs : List X) → AreAt places xs zs → AreAt ends ys zs

module _ {X : Type 0} (places : List ℕ) (xs : List X) where
  module _ (n : ℕ) (ends : List ℕ) (ys : List X) (h : HaveMoved n places xs ends ys) where
    pub all_moved : length ends ≤ n → (zs : List X) → AreAt places xs zs → ys ≡ zs
    all_moved l zs a =
        let b = h.keeps zs a in
        same_lists ys zs (sym b.count) (λ k d m.
        sym (ap (λ i. get_or zs i d) (sym (h.done k (omega (arith, l, m, h.left.count)))) ∙ b.at k d m))

    module _ (to : ℕ) (l : n < length ends) (is : get_or ends n 0 ≡ to) (other : to ≡ n → ⊥) (ends' : List ℕ) (ys' : List X)
        (s : SwappedAt ends ends' n to) (t : SwappedAt ys ys' n to) (same_ends : length ends' ≡ length ends) (same_items : length ys' ≡ length ys) where
      at_n : n < length ys
      at_n = omega (arith, l, h.left.count)

      at_to : to < length ys
      at_to = subst (λ i. i < length ys) is (h.left.below n at_n)

      place_of : (k m : ℕ) → Turned n to k m → get_or ends' k 0 ≡ get_or ends m 0
      place_of k m u = read_turned (λ i. get_or ends i 0) (λ i. get_or ends' i 0) n to k m (swapped_at ends ends' n to 0 s) u

      below' : (k m : ℕ) → k < length ys' → Turned n to k m → m < length ys
      below' k m p u = source_below n to k m (length ys) at_n at_to (omega (arith, p, same_items)) u

      still_below : (k : ℕ) → k < length ys' → (u : (m : ℕ) × Turned n to k m) → get_or ends' k 0 < length ys'
      still_below k p u =
          let e = place_of k u.0 u.1 in
          let b = h.left.below u.0 (below' k u.0 p u.1) in
          omega (arith, e, b, same_items)

      still_apart : (j k : ℕ) → j < length ys' → k < length ys' → get_or ends' j 0 ≡ get_or ends' k 0
          → (u : (m : ℕ) × Turned n to j m) → (v : (m : ℕ) × Turned n to k m) → j ≡ k
      still_apart j k p q e u v =
          one_source n to j k u.0 v.0 u.1 v.1
          (h.left.apart u.0 v.0 (below' j u.0 p u.1) (below' k v.0 q v.1) (sym (place_of j u.0 u.1) ∙ e ∙ place_of k v.0 v.1))

      -- those before n stay
      to_after : n < to
      to_after = by_cases (cases_eq to n)
        where
          low : to < n → ⊥
          low p = other (h.left.apart to n at_to at_n (h.done to p ∙ sym is))

          by_cases : (to ≡ n) ⊎ (to ≡ n → ⊥) → n < to
          by_cases (inl e) = absurd (other e)
          by_cases (inr e) = grind (arith, low, e)

      still_done : (k : ℕ) → k < n → get_or ends' k 0 ≡ k
      still_done k p = let q = to_after in s.2 k 0 (λ e. omega (arith, p, e)) (λ e. omega (arith, p, q, e)) ∙ h.done k p

      still_at : (zs : List X) → AreAt ends ys zs → (k : ℕ) (d : X) → k < length ys' → (u : (m : ℕ) × Turned n to k m)
          → get_or zs (get_or ends' k 0) d ≡ get_or ys' k d
      still_at zs a k d p u =
          ap (λ i. get_or zs i d) (place_of k u.0 u.1)
          ∙ a.at u.0 d (below' k u.0 p u.1)
          ∙ sym (read_turned (λ i. get_or ys i d) (λ i. get_or ys' i d) n to k u.0 (swapped_at ys ys' n to d t) u.1)

      pub moved_swapped : HaveMoved n places xs ends' ys'
      moved_swapped =
          record {
            left = record {
              count = same_ends ∙ h.left.count ∙ sym same_items;
              below = λ k p. still_below k p (turned n to k);
              apart = λ j k p q e. still_apart j k p q e (turned n to j) (turned n to k);
            };
            within = omega (arith, at_n, same_items);
            done = still_done;
            keeps = λ zs a. let b = h.keeps zs a in record { count = b.count ∙ sym same_items; at = λ k d p. still_at zs b k d p (turned n to k) };
          }

-- ---- the measure

-- whether a place isn't the index
abbrev pub away : (index place : ℕ) → ℕ
away index place = cond (eqb place index) 0 1

-- how many of these places, the first one with this index, aren't their index
abbrev pub count_away : (index : ℕ) → List ℕ → ℕ
count_away index [] = 0
count_away index (p ∷ ps) = away index p + count_away (index + 1) ps

count_set : (index k at v : ℕ) (ps : List ℕ) → at ≡ index + k → k < length ps
    → count_away index (set ps k v) + away at (get_or ps k 0) ≡ count_away index ps + away at v
count_set index k at v [] e l = absurd (omega (arith, l))
count_set index zero at v (p ∷ ps) e l =
    let f : at ≡ index = omega (arith, e) in
    let a : away at p ≡ away index p = ap (λ i. away i p) f in
    let b : away at v ≡ away index v = ap (λ i. away i v) f in
    added (away index v) (away index p) (count_away (index + 1) ps) (away at p) (away at v) a b
  where
    added : (v p r p' v' : ℕ) → p' ≡ p → v' ≡ v → (v + r) + p' ≡ (p + r) + v'
    added v p r p' v' a b = omega (arith, a, b)
count_set index (suc k) at v (p ∷ ps) e l =
    added (away index p) (count_away (index + 1) (set ps k v)) (away at (get_or ps k 0)) (count_away (index + 1) ps) (away at v)
    (count_set (index + 1) k at v ps (omega (arith, e)) (omega (arith, l)))
  where
    added : (p s o r w : ℕ) → s + o ≡ r + w → (p + s) + o ≡ (p + r) + w
    added p s o r w e = omega (arith, e)

is_away : (index place : ℕ) → (place ≡ index → ⊥) → away index place ≡ 1
is_away index place h = ap (λ b. cond b 0 1) (ne_eqb place index h)

not_away : (index place : ℕ) → place ≡ index → away index place ≡ 0
not_away index place h = ap (λ b. cond b 0 1) (eq-eqb place index h)

away_at_most : (index place : ℕ) → away index place ≤ 1
away_at_most index place = by_cases (eqb place index)
  where
    by_cases : (b : Bool) → cond b 0 1 ≤ 1
    by_cases true = omega arith
    by_cases false = omega arith

-- an exchange brings one more to its index
pub fewer_away : (n to : ℕ) (ends ends' : List ℕ) → ArePlaces ends (length ends) → n < length ends → get_or ends n 0 ≡ to → (to ≡ n → ⊥)
    → SwappedAt ends ends' n to → count_away 0 ends' < count_away 0 ends
fewer_away n to ends ends' h l is other s =
    let at_to : to < length ends = subst (λ i. i < length ends) is (h.below n l) in
    let between = set ends n (get_or ends to 0) in
    let e : ends' ≡ set between to (get_or ends n 0) = s.3 0 in
    let same_length : length between ≡ length ends = length-set ends n (get_or ends to 0) in
    let first = count_set 0 n n (get_or ends to 0) ends (omega arith) l in
    let second = count_set 0 to to (get_or ends n 0) between (omega arith) (omega (arith, at_to, same_length)) in
    let whole : count_away 0 ends' ≡ count_away 0 (set between to (get_or ends n 0)) = ap (count_away 0) e in
    let kept : get_or between to 0 ≡ get_or ends to 0 = get_or-set_other ends n to (get_or ends to 0) 0 other in
    let far : away to (get_or between to 0) ≡ 1 =
    is_away to (get_or between to 0) (λ f. other (h.apart to n at_to l (sym kept ∙ f ∙ sym is))) in
    let home : away to (get_or ends n 0) ≡ 0 = not_away to (get_or ends n 0) is in
    let gone : away n (get_or ends n 0) ≡ 1 = is_away n (get_or ends n 0) (λ f. other (sym is ∙ f)) in
    let most = away_at_most n (get_or ends to 0) in
    less _ _ _ _ _ _ _ _ whole first second far home gone most
  where
    less : (q q' m o w g f v : ℕ) → q ≡ q' → m + g ≡ o + w → q' + f ≡ m + v → f ≡ 1 → v ≡ 0 → g ≡ 1 → w ≤ 1 → q < o
    less q q' m o w g f v a b c d e i j = omega (arith, a, b, c, d, e, i, j)

pub falls_away : (n : ℕ) (ends ends' : List ℕ) → count_away 0 ends' < count_away 0 ends → length ends' ≡ length ends
    → count_away 0 ends' + (length ends' - n) < count_away 0 ends + (length ends - n)
falls_away n ends ends' h e = omega (arith, h, e)
