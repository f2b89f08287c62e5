use Rattle.std.proofs.Common.{◌∙◌, sym}
use Rattle.justfile_expression.specs.ResolvedSteps.{rejoined}
use Rattle.justfile_expression.proofs.ResolvedSteps.{join_one}
use Rattle.justfile_expression.proofs.resolve.rejoin.Goals as goal

pub loop-parents-preserved : goal.loop-parents-preserved
loop-parents-preserved c =
    (λ i. rejoined (c.swap.ensures.x_after i) (c.swap.ensures.y_after i))
    ∙ join_one c.loop-parents.parents c.loop-parents.expression c.exchange_right.new.expression c.exchange_right.new.other
    (sym c.has_right.ensures.has_right ∙ c.loop-parents-test.true) c.exchange_right.ensures
    ∙ c.loop-parents.invariant
