-- Pairs in the order of their content.
use Rattle.std.proofs.Common.{◌≡◌, ◌∙◌, ◌<◌, List, [], ◌∷◌, length, map, refl, sym, ap, arith}
use Rattle.std.specs.Cmp.{IsTotalOrder, on_total}
use Rattle.std.specs.List.{All}
use Rattle.std.specs.Prelude.{OnOk, Result, Ok, Err}
use Rattle.justfile_model.specs.Trees.ContentKeys.{entry_cmp}
use Rattle.justfile_model.specs.Trees.ContentLeafLaws.{content_total}
use Rattle.justfile_model.specs.Trees.KeyLaws.{key_total}
use Rattle.justfile_model.specs.Lists.Order.{in_order}
use Rattle.justfile_model.proofs.Lists.OrderLaws.{sorted_from_order, sorted_stays}
use Rattle.justfile_model.proofs.Lists.OrderMaps.{in_order_map_where}
use Rattle.justfile_expression.specs.LeafViews.{views_leaves}
use Rattle.justfile_attribute.specs.New.{HasDerivedAttributeFields}
use Rattle.justfile_attribute.specs.Order.{attribute_content_cmp, by_content, content_key}
use Rattle.justfile_attribute.specs.declared.attribute.Attribute.{Attribute}
use Rattle.justfile_attribute.proofs.Ordered.{key_is}
use Rattle.justfile_attribute_set.specs.InOrder.{AreInOrder}
use Rattle.justfile_attribute_set.specs.Pairs.{Pair, leaf_entry_of, pair_cmp}
use Rattle.justfile_written.specs.declared.written.Written.{Written}

pub pair_total : (V : Type 0) → IsTotalOrder (pair_cmp {V = V})
pair_total V = on_total (λ (p : Attribute × V). content_key p.0) (key_total content_total)

pub sorted_in_order : (xs ys : List Pair) → ys ≡ in_order pair_cmp xs → AreInOrder attribute_content_cmp ys
unfolding AreInOrder
sorted_in_order xs ys e = sorted_from_order (pair_total Written) xs ys e

-- fewer than two pairs are in order
pub few_in_order : (xs : List Pair) → length xs < 2 → xs ≡ in_order pair_cmp xs
few_in_order [] few = refl
few_in_order (x ∷ []) few = refl
few_in_order (x ∷ y ∷ xs) few = absurd (omega (arith, few))

pub few_sorted : (xs : List Pair) → length xs < 2 → AreInOrder attribute_content_cmp xs
few_sorted xs few = sorted_in_order xs xs (few_in_order xs few)

-- sorting pairs that are in order changes nothing
pub order_stays : (xs : List Pair) → AreInOrder attribute_content_cmp xs → in_order pair_cmp xs ≡ xs
unfolding AreInOrder
order_stays xs h = sorted_stays (pair_total Written) xs h

-- pairs whose derived fields are right compare as their entries do
entries_compare : (x y : Pair) → HasDerivedAttributeFields x.0 → HasDerivedAttributeFields y.0 → entry_cmp views_leaves (leaf_entry_of x) (leaf_entry_of y) ≡ pair_cmp x y
entries_compare x y h k = λ i. by_content (key_is x.0 h i) (key_is y.0 k i)

-- so sorting such pairs sorts their entries
pub entries_sorted : (xs ys : List Pair) → ys ≡ in_order pair_cmp xs → All (λ (p : Pair). HasDerivedAttributeFields p.0) xs
    → map leaf_entry_of ys ≡ in_order (entry_cmp views_leaves) (map leaf_entry_of xs)
entries_sorted xs ys e h =
    ap (map leaf_entry_of) e
    ∙ sym (in_order_map_where pair_cmp (entry_cmp views_leaves) leaf_entry_of (λ (p : Pair). HasDerivedAttributeFields p.0) entries_compare xs h)

pub on_ok : {A E P Q : Type 0} (r : Result A E) → (P → Q) → OnOk r P → OnOk r Q
on_ok (Ok x) f h = f h
on_ok (Err e) f h = h
