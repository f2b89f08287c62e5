use Rattle.std.proofs.Common.{◌≡◌, take}
use Rattle.justfile_facts.specs.Rules.{rules_of}
use Rattle.justfile_facts.proofs.rules.rules.Given as goal

abbrev pub invariant-loop-item : goal.invariant-loop-item
invariant-loop-item l = l.rules ≡ rules_of l.imported (take l.item-index l.items)
