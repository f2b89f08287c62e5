use Rattle.std.proofs.Common.{◌≡◌, ◌++◌, map, take}
use Rattle.justfile_findings.specs.Suggestions.{texts}
use Rattle.justfile_findings.proofs.known.push_functions.Given as goal

abbrev pub invariant-loop-function : goal.invariant-loop-function
invariant-loop-function l = texts l.names.items ≡ texts l.fn.names.items ++ map (λ f. f.0.now) (take l.function-index l.functions)
