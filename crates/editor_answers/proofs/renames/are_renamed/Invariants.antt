use Rattle.std.proofs.Common.{◌≡◌, drop}
use Rattle.editor_answers.specs.Renames.{are_renamed}
use Rattle.editor_answers.proofs.renames.are_renamed.Given as goal

abbrev pub invariant-loop-index : goal.invariant-loop-index
invariant-loop-index l = are_renamed l.name l.new (drop l.index l.before) (drop l.index l.after) ≡ are_renamed l.name l.new l.before l.after
