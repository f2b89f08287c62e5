-- Keys by which values of several cases are compared: a key is a leaf, or a label with keys as its parts.
use Rattle.std.specs.Prelude.{ℕ, List, [], ◌∷◌, Option, Some, None}
use Rattle.std.specs.Ordering.{ordering_then, nat_cmp}
use Rattle.std.specs.declared.cmp.Ordering.{Ordering}
use Rattle.std.specs.declared.cmp.Ordering.TheVariants.{Less, Equal, Greater}

mutual
  pub data Key (L : Type 0) : Type 0 where
    leaf : L → Key L
    node : (label : ℕ) (parts : Keys L) → Key L

  pub data Keys (L : Type 0) : Type 0 where
    end : Keys L
    next : (first : Key L) (others : Keys L) → Keys L

-- leaves compare by `leaf_cmp`; nodes compare by label and then by their parts, where a shorter list is less
module _ {L : Type 0} (leaf_cmp : L → L → Ordering) where
  abbrev mutual
    pub key_cmp : Key L → Key L → Ordering
    key_cmp (leaf a) (leaf b) = leaf_cmp a b
    key_cmp (leaf a) (node n ls) = Less
    key_cmp (node m ks) (leaf b) = Greater
    key_cmp (node m ks) (node n ls) = ordering_then (nat_cmp m n) (keys_cmp ks ls)

    pub keys_cmp : Keys L → Keys L → Ordering
    keys_cmp end end = Equal
    keys_cmp end (next l ls) = Less
    keys_cmp (next k ks) end = Greater
    keys_cmp (next k ks) (next l ls) = ordering_then (key_cmp k l) (keys_cmp ks ls)

-- a key with its leaves mapped by `f`
module _ {L M : Type 0} (f : L → M) where
  abbrev mutual
    pub map_key : Key L → Key M
    map_key (leaf a) = leaf (f a)
    map_key (node n ks) = node n (map_keys ks)

    pub map_keys : Keys L → Keys M
    map_keys end = end
    map_keys (next k ks) = next (map_key k) (map_keys ks)

abbrev pub label : {L : Type 0} → Key L → ℕ
label (leaf a) = 0
label (node n ks) = n

-- a list of keys as a single key
abbrev pub sequence : {L : Type 0} → Keys L → Key L
sequence ks = node 0 ks

-- the keys of the elements of a list
abbrev pub keys_of : {X L : Type 0} → (X → Key L) → List X → Keys L
keys_of key_of [] = end
keys_of key_of (x ∷ xs) = next (key_of x) (keys_of key_of xs)

-- the key of an absent value, which is less than that of any present value
abbrev pub absent_key : {L : Type 0} → Key L
absent_key = node 0 end

abbrev pub present_key : {L : Type 0} → Key L → Key L
present_key k = node 1 (next k end)

-- the key of an optional value
abbrev pub option_key : {L X : Type 0} → (X → Key L) → Option X → Key L
option_key key_of None = absent_key
option_key key_of (Some x) = present_key (key_of x)
