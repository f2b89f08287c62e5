use Rattle.std.proofs.Common.{take}
use Rattle.std.specs.List.{AllZip}
use Rattle.justfile_expression.specs.Copies.{IsSameExpression}
use Rattle.justfile_attribute.proofs.interpreters.copy_expressions.Given as goal

abbrev pub invariant-loop-expression : goal.invariant-loop-expression
invariant-loop-expression l = AllZip IsSameExpression l.copies.items (take l.expression-index l.expressions)
