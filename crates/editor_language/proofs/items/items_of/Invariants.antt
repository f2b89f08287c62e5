use Rattle.std.proofs.Common.{◌≡◌, ◌++◌, drop, map}
use Rattle.editor_language.specs.Items.{all_views, item_view}
use Rattle.editor_language.proofs.items.items_of.Given as goal

abbrev pub invariant-loop-part : goal.invariant-loop-part
invariant-loop-part l = map item_view l.items.items ++ all_views l.start (drop l.part-index l.parts) ≡ all_views 0 l.parts
