-- Pairs after resolution.
use Rattle.std.proofs.Common.{◌≡◌, ℕ, List, Option, sym, subst}
use Rattle.std.specs.List.{AllZip}
use Rattle.std.specs.List.Sorted.{IsSorted}
use Rattle.justfile_numbers.specs.declared.number.Number.{Number}
use Rattle.justfile_model.specs.Trees.ContentLeaf.{ContentLeaf}
use Rattle.justfile_model.specs.Trees.Key.{Key}
use Rattle.justfile_model.proofs.Lists.OrderMaps.{keys_sorted, sorted_from_keys}
use Rattle.justfile_attribute.specs.Order.{attribute_content_cmp, by_content, content_key}
use Rattle.justfile_attribute.proofs.ResolvedKeys.{kept_content}
use Rattle.justfile_attribute_set.specs.InOrder.{AreInOrder}
use Rattle.justfile_attribute_set.specs.Pairs.{Pair}
use Rattle.justfile_attribute_set.specs.Resolved.{IsResolvedPair}
use Rattle.justfile_attribute_set.proofs.CopiedAttributes.{same_maps}

abbrev pair_key : Pair → Key ContentLeaf
pair_key p = content_key p.0

module _ (numbers : (name : List ℕ) → Option Number) where
  kept_pair : (resolved original : Pair) → IsResolvedPair numbers resolved original → pair_key resolved ≡ pair_key original
  kept_pair resolved original is = kept_content numbers resolved.0 original.0 is.0

  -- resolved pairs are in order if the originals are
  pub resolved_in_order : (resolved originals : List Pair) → AllZip (IsResolvedPair numbers) resolved originals → AreInOrder attribute_content_cmp originals
      → AreInOrder attribute_content_cmp resolved
  unfolding AreInOrder
  resolved_in_order resolved originals is h =
      sorted_from_keys pair_key by_content resolved
      (subst (λ l. IsSorted by_content l) (sym (same_maps (IsResolvedPair numbers) pair_key kept_pair resolved originals is)) (keys_sorted pair_key by_content originals h))
