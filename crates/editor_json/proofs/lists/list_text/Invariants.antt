use Rattle.std.proofs.Common.{map, string_bytes, take}
use Rattle.editor_json.proofs.Pieces.{IsOpen}
use Rattle.editor_json.proofs.lists.list_text.Given as goal

abbrev pub invariant-loop-item : goal.invariant-loop-item
invariant-loop-item g l = IsOpen (string_bytes l.list) l.is_later (map (g.T.Written.written l.shared) (take l.item-index l.items))
