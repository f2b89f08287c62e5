use Rattle.justfile_expression.proofs.Conditionals.{not_conditional}
use Rattle.justfile_expression.proofs.children.is_conditional.Goals as goal

pub returns-in_default : goal.returns-in_default
returns-in_default c = not_conditional c.args.expression.now c.in_default.not-Conditional
