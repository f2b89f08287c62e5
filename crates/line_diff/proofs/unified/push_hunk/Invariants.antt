use Rattle.std.proofs.Common.{◌≡◌, ◌++◌, string_bytes, take}
use Rattle.std.specs.List.{flat_map}
use Rattle.line_diff.specs.Hunks.{edit_text}
use Rattle.line_diff.proofs.unified.push_hunk.Given as goal

abbrev pub invariant-loop-edit : goal.invariant-loop-edit
invariant-loop-edit l = string_bytes l.text ≡ string_bytes l.initial.text ++ flat_map edit_text (take l.edit-index l.edits)
