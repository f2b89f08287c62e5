use Rattle.std.proofs.Common.{◌≡◌, ◌++◌, map, take}
use Rattle.justfile_findings.specs.Suggestions.{texts}
use Rattle.justfile_findings.proofs.known.push_constants.Given as goal

abbrev pub invariant-loop-constant : goal.invariant-loop-constant
invariant-loop-constant l = texts l.names.items ≡ texts l.fn.names.items ++ map (λ c. c.now) (take l.constant-index l.constants)
