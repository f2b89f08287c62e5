use Rattle.std.proofs.Common.{◌≡◌, Some, map, take}
use Rattle.serde_json.specs.View.{items_view}
use Rattle.editor_json.specs.Received.{edit_of, edits_in}
use Rattle.editor_json.proofs.notifications.changes_of.Given as goal

abbrev pub invariant-loop-value : goal.invariant-loop-value
invariant-loop-value l = edits_in (items_view (take l.value-index l.values)) ≡ Some (map edit_of l.changes.items)
