use Rattle.std.proofs.Common.{sym, ◌∙◌}
use Rattle.circles.proofs.FlagLemmas.{certified_result}
use Rattle.circles.proofs.circles.in_circles.Goals as goal

pub returns-then-are_certified : goal.returns-then-are_certified
returns-then-are_certified c =
    certified_result _ _ _ _ _ (c.are_certified.ensures c.if-are_certified.true)
    (c.deref-then-are_certified.ensures.value ∙ sym c.deref.ensures.value) c.staying_in_trees.ensures
