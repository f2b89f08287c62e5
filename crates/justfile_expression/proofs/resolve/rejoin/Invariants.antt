use Rattle.std.proofs.Common.{◌≡◌}
use Rattle.justfile_expression.specs.ResolvedSteps.{rejoined}
use Rattle.justfile_expression.specs.declared.expression.Expression.{size-Expression}
use Rattle.justfile_expression.proofs.resolve.rejoin.Given as goal

abbrev pub invariant-loop-parents : goal.invariant-loop-parents
invariant-loop-parents l = rejoined l.parents l.expression ≡ rejoined l.initial.parents l.initial.expression

abbrev pub decreases-loop-parents : goal.decreases-loop-parents
decreases-loop-parents l = size-Expression l.parents
