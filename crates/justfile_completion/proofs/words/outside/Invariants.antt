use Rattle.std.proofs.Common.{◌≡◌, ◌++◌, drop}
use Rattle.justfile_completion.specs.Words.{outside}
use Rattle.justfile_completion.proofs.words.outside.Given as goal

abbrev pub invariant-loop-word : goal.invariant-loop-word
invariant-loop-word l = l.found.items ++ outside l.closed (drop l.word-index l.words) ≡ outside 0 l.words
