use Rattle.std.proofs.Common.{◌≡◌, drop}
use Rattle.std.specs.List.{list_all}
use Rattle.justfile_model.specs.Printed.Printing.{printable_item}
use Rattle.justfile_item.specs.Item.{item_shape}
use Rattle.justfile_ast.proofs.ast.are_printable.Given as goal

-- the items before the index are printable
abbrev pub invariant-loop-item : goal.invariant-loop-item
invariant-loop-item l = list_all (λ item. printable_item (item_shape item)) l.items ≡ list_all (λ item. printable_item (item_shape item)) (drop l.item-index l.items)
