use Rattle.std.proofs.Common.{sym}
use Rattle.justfile_expression.proofs.Nodes.{fewer}
use Rattle.justfile_expression.proofs.PartLemmas.{no_part}
use Rattle.justfile_expression.proofs.expression.Expression.child.Goals as goal

pub returns-in-Some-clause-smaller : goal.returns-in-Some-clause-smaller
returns-in-Some-clause-smaller c = fewer c.args.self.now c.args.index _ (sym c.in-Some.ensures.child)

pub returns-in-None-clause-child : goal.returns-in-None-clause-child
returns-in-None-clause-child c = no_part c.args.self.now c.args.index c.child.result c.in-None.is c.child.ensures.child
