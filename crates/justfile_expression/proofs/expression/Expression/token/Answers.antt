use Rattle.std.proofs.Common.{◌∙◌, ap, sym}
use Rattle.justfile_expression.specs.Parts.{token_of}
use Rattle.justfile_expression.proofs.PartLemmas.{start_falls}
use Rattle.justfile_expression.proofs.expression.Expression.token.Goals as goal

pub loop-start-smaller : goal.loop-start-smaller
loop-start-smaller c = start_falls c.in-Expression.expression c.loop-start.start _ c.in-Expression.is c.start_of-start-in-Expression.ensures.smaller

pub loop-start-preserved : goal.loop-start-preserved
loop-start-preserved c = c.start_of-start-in-Expression.ensures.token ∙ sym (ap token_of c.in-Expression.is) ∙ c.loop-start.invariant
