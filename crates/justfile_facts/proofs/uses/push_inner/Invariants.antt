use Rattle.std.proofs.Common.{◌≡◌, ◌++◌, take}
use Rattle.std.specs.List.{flat_map}
use Rattle.justfile_inner_expressions.specs.Pushed.{referents}
use Rattle.justfile_facts.specs.Scopes.{end_at}
use Rattle.justfile_facts.specs.Uses.{expression_uses}
use Rattle.justfile_facts.proofs.uses.push_inner.Given as goal

abbrev pub invariant-loop-index : goal.invariant-loop-index
invariant-loop-index l =
    l.found.items ≡ l.fn.found.items ++ flat_map (expression_uses l.scope.item l.commented (end_at l.scope.defaults l.scope.parameters.now)) (referents (take l.index l.expressions.items))
