use Rattle.std.proofs.Common.{◌≡◌, map}
use Rattle.justfile_completion.specs.Completions.{told_of}
use Rattle.justfile_server.specs.Choices.{shown, to_show}
use Rattle.justfile_server.proofs.choices.shown.Given as goal

abbrev pub invariant-loop-text : goal.invariant-loop-text
invariant-loop-text l = map shown l.made.items ≡ map to_show (map told_of l.yielded)
