use Rattle.std.proofs.Common.{◌≤◌}
use Rattle.justfile_expression.specs.declared.expression.Expression.TheViews.{size-Expression}
use Rattle.justfile_expression.proofs.expression.Expression.+drop.Given as goal

abbrev pub invariant-loop-self : goal.invariant-loop-self
invariant-loop-self l = size-Expression l.self ≤ size-Expression l.initial.self
