-- The order of keys is total if the order of their leaves is.
use Rattle.std.proofs.Common.{◌≡◌, ◌∙◌, ℕ, refl, sym, ap}
use mathlib.Core.Bool.{true≢false}
use Rattle.std.specs.Cmp.{IsTotalOrder, nat_cmp_total, then_flip}
use Rattle.std.specs.Ordering.{ordering_then, ordering_reverse, nat_cmp, is_lt, is_gt}
use Rattle.std.specs.declared.cmp.Ordering.{Ordering}
use Rattle.std.specs.declared.cmp.Ordering.TheVariants.{Less, Equal, Greater}
use Rattle.justfile_model.specs.Trees.Key.{Key, Keys, leaf, node, end, next, key_cmp, keys_cmp, map_key, map_keys}

-- ---- one comparison followed by another

pub then_end : (o : Ordering) → ordering_then o Equal ≡ o
then_end Less = refl
then_end Equal = refl
then_end Greater = refl

-- ---- a tie of one comparison followed by another

pub less_not_equal : {P : Type 0} → Less ≡ Equal → P
less_not_equal e = absurd (true≢false (ap is_lt e))

pub greater_not_equal : {P : Type 0} → Greater ≡ Equal → P
greater_not_equal e = absurd (true≢false (ap is_gt e))

greater_not_less : {P : Type 0} → Greater ≡ Less → P
greater_not_less e = absurd (true≢false (ap is_gt e))

pub then_equal : (a b : Ordering) → ordering_then a b ≡ Equal → (a ≡ Equal) × (b ≡ Equal)
then_equal Less b e = less_not_equal e
then_equal Equal b e = (refl, e)
then_equal Greater b e = greater_not_equal e

back_equal : (a b : Ordering) → a ≡ ordering_reverse b → b ≡ Equal → a ≡ Equal
back_equal a b e f = e ∙ ap ordering_reverse f

-- `a` compares x to y, `b` compares y to z and `c` compares x to z; `p`, `q` and `s` are the comparisons that break ties
chain : (a b c p q s : Ordering) → (a ≡ Less → b ≡ Less → c ≡ Less) → (a ≡ Equal → c ≡ b) → (b ≡ Equal → c ≡ a) → (p ≡ Less → q ≡ Less → s ≡ Less)
    → ordering_then a p ≡ Less → ordering_then b q ≡ Less → ordering_then c s ≡ Less
chain Less Less c p q s t l r f h k = ap (λ o. ordering_then o s) (t refl refl)
chain Less Equal c p q s t l r f h k = ap (λ o. ordering_then o s) (r refl)
chain Less Greater c p q s t l r f h k = greater_not_less k
chain Equal Less c p q s t l r f h k = ap (λ o. ordering_then o s) (l refl)
chain Equal Equal c p q s t l r f h k = ap (λ o. ordering_then o s) (l refl) ∙ f h k
chain Equal Greater c p q s t l r f h k = greater_not_less k
chain Greater b c p q s t l r f h k = greater_not_less h

nat_right : (x y z : ℕ) → nat_cmp y z ≡ Equal → nat_cmp x z ≡ nat_cmp x y
nat_right x y z e = nat_cmp_total.antisymm x z ∙ ap ordering_reverse (nat_cmp_total.congr z y x (back_equal (nat_cmp z y) (nat_cmp y z) (nat_cmp_total.antisymm z y) e)) ∙ sym (nat_cmp_total.antisymm x y)

-- ---- the keys

module _ {L : Type 0} {leaf_cmp : L → L → Ordering} (leaf_total : IsTotalOrder leaf_cmp) where
  mutual
    key_antisymm : (x y : Key L) → key_cmp leaf_cmp x y ≡ ordering_reverse (key_cmp leaf_cmp y x)
    key_antisymm (leaf a) (leaf b) = leaf_total.antisymm a b
    key_antisymm (leaf a) (node n ls) = refl
    key_antisymm (node m ks) (leaf b) = refl
    key_antisymm (node m ks) (node n ls) =
        (λ i. ordering_then (nat_cmp_total.antisymm m n i) (keys_antisymm ks ls i)) ∙ then_flip (nat_cmp n m) (keys_cmp leaf_cmp ls ks)

    keys_antisymm : (x y : Keys L) → keys_cmp leaf_cmp x y ≡ ordering_reverse (keys_cmp leaf_cmp y x)
    keys_antisymm end end = refl
    keys_antisymm end (next l ls) = refl
    keys_antisymm (next k ks) end = refl
    keys_antisymm (next k ks) (next l ls) =
        (λ i. ordering_then (key_antisymm k l i) (keys_antisymm ks ls i)) ∙ then_flip (key_cmp leaf_cmp l k) (keys_cmp leaf_cmp ls ks)

  mutual
    key_congr : (x y z : Key L) → key_cmp leaf_cmp x y ≡ Equal → key_cmp leaf_cmp x z ≡ key_cmp leaf_cmp y z
    key_congr (leaf a) (leaf b) (leaf c) e = leaf_total.congr a b c e
    key_congr (leaf a) (leaf b) (node p ms) e = refl
    key_congr (leaf a) (node n ls) z e = less_not_equal e
    key_congr (node m ks) (leaf b) z e = greater_not_equal e
    key_congr (node m ks) (node n ls) (leaf c) e = refl
    key_congr (node m ks) (node n ls) (node p ms) e =
        let f = then_equal (nat_cmp m n) (keys_cmp leaf_cmp ks ls) e in
        λ i. ordering_then (nat_cmp_total.congr m n p f.0 i) (keys_congr ks ls ms f.1 i)

    keys_congr : (x y z : Keys L) → keys_cmp leaf_cmp x y ≡ Equal → keys_cmp leaf_cmp x z ≡ keys_cmp leaf_cmp y z
    keys_congr end end z e = refl
    keys_congr end (next l ls) z e = less_not_equal e
    keys_congr (next k ks) end z e = greater_not_equal e
    keys_congr (next k ks) (next l ls) end e = refl
    keys_congr (next k ks) (next l ls) (next m ms) e =
        let f = then_equal (key_cmp leaf_cmp k l) (keys_cmp leaf_cmp ks ls) e in
        λ i. ordering_then (key_congr k l m f.0 i) (keys_congr ks ls ms f.1 i)

  key_right : (x y z : Key L) → key_cmp leaf_cmp y z ≡ Equal → key_cmp leaf_cmp x z ≡ key_cmp leaf_cmp x y
  key_right x y z e =
      key_antisymm x z ∙ ap ordering_reverse (key_congr z y x (back_equal (key_cmp leaf_cmp z y) (key_cmp leaf_cmp y z) (key_antisymm z y) e)) ∙ sym (key_antisymm x y)

  mutual
    key_trans : (x y z : Key L) → key_cmp leaf_cmp x y ≡ Less → key_cmp leaf_cmp y z ≡ Less → key_cmp leaf_cmp x z ≡ Less
    key_trans (leaf a) (leaf b) (leaf c) h k = leaf_total.trans a b c h k
    key_trans (leaf a) (leaf b) (node p ms) h k = refl
    key_trans (leaf a) (node n ls) (leaf c) h k = greater_not_less k
    key_trans (leaf a) (node n ls) (node p ms) h k = refl
    key_trans (node m ks) (leaf b) z h k = greater_not_less h
    key_trans (node m ks) (node n ls) (leaf c) h k = greater_not_less k
    key_trans (node m ks) (node n ls) (node p ms) h k =
        chain (nat_cmp m n) (nat_cmp n p) (nat_cmp m p) (keys_cmp leaf_cmp ks ls) (keys_cmp leaf_cmp ls ms) (keys_cmp leaf_cmp ks ms)
        (nat_cmp_total.trans m n p) (nat_cmp_total.congr m n p) (nat_right m n p) (keys_trans ks ls ms) h k

    keys_trans : (x y z : Keys L) → keys_cmp leaf_cmp x y ≡ Less → keys_cmp leaf_cmp y z ≡ Less → keys_cmp leaf_cmp x z ≡ Less
    keys_trans end end z h k = k
    keys_trans end (next l ls) end h k = greater_not_less k
    keys_trans end (next l ls) (next m ms) h k = refl
    keys_trans (next k ks) end z h g = greater_not_less h
    keys_trans (next k ks) (next l ls) end h g = greater_not_less g
    keys_trans (next k ks) (next l ls) (next m ms) h g =
        chain (key_cmp leaf_cmp k l) (key_cmp leaf_cmp l m) (key_cmp leaf_cmp k m) (keys_cmp leaf_cmp ks ls) (keys_cmp leaf_cmp ls ms) (keys_cmp leaf_cmp ks ms)
        (key_trans k l m) (key_congr k l m) (key_right k l m) (keys_trans ks ls ms) h g

  pub key_total : IsTotalOrder (key_cmp leaf_cmp)
  key_total = record { antisymm = key_antisymm; trans = key_trans; congr = key_congr }

-- ---- mapped keys compare like their mapped leaves

module _ {L M : Type 0} (leaf_cmp : M → M → Ordering) (f : L → M) where
  mutual
    pub mapped_key_cmp : (k l : Key L) → key_cmp leaf_cmp (map_key f k) (map_key f l) ≡ key_cmp (λ a b. leaf_cmp (f a) (f b)) k l
    mapped_key_cmp (leaf a) (leaf b) = refl
    mapped_key_cmp (leaf a) (node n ls) = refl
    mapped_key_cmp (node m ks) (leaf b) = refl
    mapped_key_cmp (node m ks) (node n ls) = ap (ordering_then (nat_cmp m n)) (mapped_keys_cmp ks ls)

    pub mapped_keys_cmp : (ks ls : Keys L) → keys_cmp leaf_cmp (map_keys f ks) (map_keys f ls) ≡ keys_cmp (λ a b. leaf_cmp (f a) (f b)) ks ls
    mapped_keys_cmp end end = refl
    mapped_keys_cmp end (next l ls) = refl
    mapped_keys_cmp (next k ks) end = refl
    mapped_keys_cmp (next k ks) (next l ls) = λ i. ordering_then (mapped_key_cmp k l i) (mapped_keys_cmp ks ls i)
