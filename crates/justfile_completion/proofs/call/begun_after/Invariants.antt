use Rattle.std.proofs.Common.{◌≡◌, ◌++◌, drop}
use Rattle.justfile_completion.specs.Calls.{begun_after}
use Rattle.justfile_completion.proofs.call.begun_after.Given as goal

abbrev pub invariant-loop-word : goal.invariant-loop-word
invariant-loop-word l = l.found.items ++ begun_after l.before (drop l.word-index l.words) ≡ begun_after l.first l.words
