-- A copy of a value has the same tree as its original.
use Rattle.std.proofs.Common.{◌≡◌, Option, None, Some, ap, refl}
use Rattle.std.specs.Global.{Box}
use Rattle.justfile_token.specs.Copies.{IsSameIfPresent}
use Rattle.justfile_expression.specs.Copies.{IsSameBoxed}
use Rattle.justfile_expression.specs.declared.expression.Expression.{Expression}
use Rattle.justfile_attribute_set.proofs.CopiedTrees.{same_tree}
use Rattle.justfile_parse_header.specs.Tree.{value_tree}

pub same_value : (copy original : Option (Box Expression)) → IsSameIfPresent IsSameBoxed copy original → value_tree copy ≡ value_tree original
same_value None None same = refl
same_value (Some copy) (Some original) same = ap Some (same_tree copy.value original.value same)
same_value None (Some original) same = absurd same
same_value (Some copy) None same = absurd same
