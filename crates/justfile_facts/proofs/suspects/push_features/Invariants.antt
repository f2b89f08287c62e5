use Rattle.std.proofs.Common.{◌≡◌, ◌++◌, take}
use Rattle.std.specs.List.{flat_map}
use Rattle.justfile_facts.specs.Suspects.{noted}
use Rattle.justfile_facts.proofs.suspects.push_features.Given as goal

abbrev pub invariant-loop-feature : goal.invariant-loop-feature
invariant-loop-feature l = l.found.items ≡ l.fn.found.items ++ flat_map noted (take l.feature-index l.features)
