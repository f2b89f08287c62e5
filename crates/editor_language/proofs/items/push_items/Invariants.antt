use Rattle.std.proofs.Common.{◌≡◌, ◌++◌, map, take}
use Rattle.editor_language.specs.Items.{item_view, moved_view}
use Rattle.editor_language.proofs.items.push_items.Given as goal

abbrev pub invariant-loop-item : goal.invariant-loop-item
invariant-loop-item l =
    map item_view l.items.items ≡ map item_view l.fn.items.items ++ map (λ i. moved_view l.base (item_view i)) (take l.item-index l.known.items.items)
