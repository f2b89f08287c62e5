use Rattle.std.proofs.Common.{take}
use Rattle.justfile_inner_expressions.specs.Pushed.{ArePushed}
use Rattle.justfile_inner_expressions.proofs.has_expressions.push_all.Given as goal

abbrev pub invariant-loop-expression : goal.invariant-loop-expression
invariant-loop-expression l = ArePushed l.found l.initial.found (take l.expression-index l.expressions)
