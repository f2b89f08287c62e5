-- Copies of pairs.
use Rattle.std.proofs.Common.{◌≡◌, List, sym, subst}
use Rattle.std.specs.List.{AllZip}
use Rattle.std.specs.List.Sorted.{IsSorted}
use Rattle.justfile_model.specs.Trees.ContentLeaf.{ContentLeaf}
use Rattle.justfile_model.specs.Trees.Key.{Key}
use Rattle.justfile_model.proofs.Lists.OrderMaps.{keys_sorted, sorted_from_keys}
use Rattle.justfile_attribute.specs.Order.{attribute_content_cmp, by_content, content_key}
use Rattle.justfile_attribute_set.specs.Copies.{IsSamePair}
use Rattle.justfile_attribute_set.specs.InOrder.{AreInOrder}
use Rattle.justfile_attribute_set.specs.Pairs.{Pair}
use Rattle.justfile_attribute_set.proofs.CopiedAttributes.{same_maps}
use Rattle.justfile_attribute_set.proofs.CopiedKeys.{same_content}

abbrev pair_key : Pair → Key ContentLeaf
pair_key p = content_key p.0

same_pair : (copy original : Pair) → IsSamePair copy original → pair_key copy ≡ pair_key original
same_pair copy original same = same_content copy.0 original.0 same.0

-- copies are in order if their originals are
pub copies_in_order : (copies originals : List Pair) → AllZip IsSamePair copies originals → AreInOrder attribute_content_cmp originals → AreInOrder attribute_content_cmp copies
unfolding AreInOrder
copies_in_order copies originals same h =
    sorted_from_keys pair_key by_content copies
    (subst (λ l. IsSorted by_content l) (sym (same_maps IsSamePair pair_key same_pair copies originals same)) (keys_sorted pair_key by_content originals h))
