use Rattle.std.proofs.Common.{◌≡◌, ◌++◌, drop}
use Rattle.justfile_completion.specs.Parameters.{named_after}
use Rattle.justfile_completion.proofs.parameters.named_after.Given as goal

abbrev pub invariant-loop-word : goal.invariant-loop-word
invariant-loop-word l = l.found.items ++ named_after l.before (drop l.word-index l.words) ≡ named_after l.first l.words
