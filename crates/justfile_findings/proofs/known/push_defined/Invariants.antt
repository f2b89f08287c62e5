use Rattle.std.proofs.Common.{◌≡◌, ◌++◌, option_to_list, take}
use Rattle.std.specs.List.{flat_map}
use Rattle.std.specs.Option.{option_copied}
use Rattle.justfile_findings.specs.Suggestions.{meant, texts}
use Rattle.justfile_findings.proofs.known.push_defined.Given as goal

abbrev pub invariant-loop-definition : goal.invariant-loop-definition
invariant-loop-definition l =
    texts l.names.items ≡ texts l.fn.names.items ++ flat_map (λ d. option_to_list (meant l.problem (option_copied l.used) d)) (take l.definition-index l.definitions)
