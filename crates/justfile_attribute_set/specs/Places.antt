-- Where the items of a list belong.
use Rattle.std.specs.Prelude.{◌≡◌, ℕ, ◌<◌, List, length, get_or}
use Rattle.std.specs.Borrow.{Bor}
use Rattle.std.specs.Fn.{Shared}
use Rattle.std.specs.declared.cmp.Ordering.{Ordering}

-- n different numbers below n: a place for each of n items
pub record ArePlaces (places : List ℕ) (n : ℕ) : Type 0 where
  pub count : length places ≡ n
  pub below : (k : ℕ) → k < n → get_or places k 0 < n
  pub apart : (j k : ℕ) → j < n → k < n → get_or places j 0 ≡ get_or places k 0 → j ≡ k

-- ys has each item of xs at its place
pub record AreAt {X : Type 0} (places : List ℕ) (xs ys : List X) : Type 0 where
  pub count : length ys ≡ length xs
  pub at : (k : ℕ) (d : X) → k < length xs → get_or ys (get_or places k 0) d ≡ get_or xs k d

-- a reference to an item, with a number
abbrev pub Numbered : Type 0 → Type 0
Numbered X = Bor X × ℕ

-- the first n items of xs, each with its index
pub record AreNumbered {X : Type 0} (n : ℕ) (xs : List X) (numbered : List (Numbered X)) : Type 0 where
  pub count : length numbered ≡ n
  pub items : (k : ℕ) (d : Numbered X) (e : X) → k < n → (get_or numbered k d).0.now ≡ get_or xs k e
  pub numbers : (k : ℕ) (d : Numbered X) → k < n → (get_or numbered k d).1 ≡ k

-- n items have different numbers below n
pub record HaveNumbers {X : Type 0} (sorted : List (Numbered X)) : Type 0 where
  pub below : (k : ℕ) (d : Numbered X) → k < length sorted → (get_or sorted k d).1 < length sorted
  pub apart : (j k : ℕ) (d : Numbered X) → j < length sorted → k < length sorted → (get_or sorted j d).1 ≡ (get_or sorted k d).1 → j ≡ k

-- the place of the number of each of the first n items is the item's index here
pub record IsInverse {X : Type 0} (n : ℕ) (sorted : List (Numbered X)) (places : List ℕ) : Type 0 where
  pub count : length places ≡ length sorted
  pub at : (k : ℕ) (d : Numbered X) → k < n → get_or places (get_or sorted k d).1 0 ≡ k

-- each call compares by R
abbrev pub ComparesBy : {F X : Type 0} → Shared F (Bor X × (Bor X × Unit {0})) Ordering → (X → X → Ordering) → F → Type 0
ComparesBy {F} {X} g R f = (x y : Bor X) (r : Ordering) → g.post f (x, (y, tt)) r → r ≡ R x.now y.now
