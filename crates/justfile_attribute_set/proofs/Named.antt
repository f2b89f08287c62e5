-- Properties of pairs with and without their comments.
use Rattle.std.proofs.Common.{◌≡◌, ◌∙◌, List, [], ◌∷◌, Bool, true, false, cond, ◌||◌, map, Option, Some, None, refl, sym, ap}
use Rattle.std.specs.List.{find, list_any}
use Rattle.std.specs.Option.{option_map}
use Rattle.justfile_token.specs.declared.name.Name.{Name}
use Rattle.justfile_model.specs.Lists.Distinct.{kept_last}
use Rattle.justfile_model.specs.Lists.Order.{in_order}
use Rattle.justfile_model.proofs.Lists.OrderMaps.{in_order_map}
use Rattle.justfile_attribute.specs.declared.attribute.Attribute.{Attribute}
use Rattle.justfile_attribute_set.specs.AttributeSet.{AttributeSet, entries_with_comments, pairs_of, written_of}
use Rattle.justfile_attribute_set.specs.Pairs.{CommentedName, NamedPair, Pair, commented_cmp, named, pair_cmp, same_attributes, same_commented, commented_name}
use Rattle.justfile_written.specs.Written.{commented, uncommented}
use Rattle.justfile_written.specs.declared.written.Written.{Written}

-- `kept_last` commutes with a function that preserves sameness
module _ {X Y : Type 0} (same : X → X → Bool) (same' : Y → Y → Bool) (f : X → Y) (agree : (x y : X) → same' (f x) (f y) ≡ same x y) where
  any_mapped : (x : X) (xs : List X) → list_any (same' (f x)) (map f xs) ≡ list_any (same x) xs
  any_mapped x [] = refl
  any_mapped x (y ∷ ys) = λ i. agree x y i || any_mapped x ys i

  kept_mapped : (xs : List X) → kept_last same' (map f xs) ≡ map f (kept_last same xs)
  kept_mapped [] = refl
  kept_mapped (x ∷ xs) =
      (λ i. cond (any_mapped x xs i) (kept_mapped xs i) (f x ∷ kept_mapped xs i)) ∙ within (list_any (same x) xs)
    where
      within : (b : Bool) → cond b (map f (kept_last same xs)) (f x ∷ map f (kept_last same xs)) ≡ map f (cond b (kept_last same xs) (x ∷ kept_last same xs))
      within true = refl
      within false = refl

-- and so does `in_order`
ordered_uncommented : (pairs : List NamedPair) → in_order pair_cmp (kept_last same_attributes (map uncommented pairs)) ≡ map uncommented (in_order pair_cmp (kept_last same_attributes pairs))
ordered_uncommented pairs =
    ap (in_order pair_cmp) (kept_mapped same_attributes same_attributes uncommented (λ p q. refl) pairs)
    ∙ in_order_map pair_cmp pair_cmp uncommented (λ p q. refl) (kept_last same_attributes pairs)

ordered_commented : (entries : List CommentedName) → in_order pair_cmp (kept_last same_attributes (map commented entries)) ≡ map commented (in_order commented_cmp (kept_last same_commented entries))
ordered_commented entries =
    ap (in_order pair_cmp) (kept_mapped same_commented same_attributes commented (λ d e. refl) entries)
    ∙ in_order_map commented_cmp pair_cmp commented (λ d e. refl) (kept_last same_commented entries)

named_again : (pairs : List NamedPair) → map named (map uncommented pairs) ≡ pairs
named_again [] = refl
named_again (p ∷ ps) = ap (λ l. p ∷ l) (named_again ps)

commented_again : (entries : List CommentedName) → map commented_name (map commented entries) ≡ entries
commented_again [] = refl
commented_again (e ∷ es) = ap (λ l. e ∷ l) (commented_again es)

-- the pairs of a set that was made without comments
pub pairs_in_order : (set : AttributeSet) (pairs : List NamedPair) → written_of set ≡ in_order pair_cmp (kept_last same_attributes (map uncommented pairs))
    → pairs_of set ≡ in_order pair_cmp (kept_last same_attributes pairs)
pairs_in_order set pairs e =
    ap (map named) (e ∙ ordered_uncommented pairs) ∙ named_again (in_order pair_cmp (kept_last same_attributes pairs))

-- such a set has no comments
pub none_commented : (set : AttributeSet) (pairs : List NamedPair) → written_of set ≡ in_order pair_cmp (kept_last same_attributes (map uncommented pairs))
    → written_of set ≡ map uncommented (pairs_of set)
none_commented set pairs e =
    e ∙ ordered_uncommented pairs ∙ sym (ap (map uncommented) (pairs_in_order set pairs e))

-- the entries of a set that was made with comments
pub entries_in_order : (set : AttributeSet) (entries : List CommentedName)
    → written_of set ≡ in_order pair_cmp (kept_last same_attributes (map commented entries))
    → entries_with_comments set ≡ in_order commented_cmp (kept_last same_commented entries)
entries_in_order set entries e =
    ap (map commented_name) (e ∙ ordered_commented entries) ∙ commented_again (in_order commented_cmp (kept_last same_commented entries))

-- the name of the pair that is found is the one that is found among the names
module _ (test : Attribute → Bool) where
  found_named : (b : Bool) (p : Pair) (o : Option Pair) → option_map named (cond b (Some p) o) ≡ cond b (Some (named p)) (option_map named o)
  found_named true p o = refl
  found_named false p o = refl

  find_named : (pairs : List Pair) → option_map named (find (λ (p : Pair). test p.0) pairs) ≡ find (λ (p : NamedPair). test p.0) (map named pairs)
  find_named [] = refl
  find_named (p ∷ ps) =
      found_named (test p.0) p (find (λ (q : Pair). test q.0) ps) ∙ ap (λ o. cond (test p.0) (Some (named p)) o) (find_named ps)

  name_of : (o : Option Pair) → option_map (λ (p : Pair). p.1.name) o ≡ option_map (λ (p : NamedPair). p.1) (option_map named o)
  name_of None = refl
  name_of (Some p) = refl

  pub name_found : (pairs : List Pair) → option_map (λ (p : Pair). p.1.name) (find (λ (p : Pair). test p.0) pairs)
      ≡ option_map (λ (p : NamedPair). p.1) (find (λ (p : NamedPair). test p.0) (map named pairs))
  name_found pairs = name_of (find (λ (p : Pair). test p.0) pairs) ∙ ap (option_map (λ (p : NamedPair). p.1)) (find_named pairs)
