use Rattle.std.proofs.Common.{◌++◌, List, [], ◌∷◌, ℕ, sym, subst}
use Rattle.circles.specs.Walks.{Walks}
use Rattle.circles.proofs.WalkLemmas.{walks_more}
use Rattle.circles.proofs.walk.follow.Goals as goal

pub loop-index-preserved : goal.loop-index-preserved
loop-index-preserved c =
    let P : List ℕ → Type 0 = λ l. Walks c.args.edges.now c.args.from c.args.next.now c.remove.new.self l c.end_of-end.result in
    let Q : ℕ → Type 0 = λ n. Walks c.args.edges.now c.args.from c.args.next.now c.remove.new.self (c.loop-index.steps.items ++ c.in-Some.index ∷ []) n in
    subst P (sym c.in_ok-push.ensures.items)
    (subst Q (sym c.end_of-end.ensures)
    (walks_more c.args.edges.now c.args.from c.args.next.now c.loop-index.next c.remove.new.self c.loop-index.steps.items c.loop-index.end c.in-Some.index c.loop-index.invariant (sym c.in-Some.ensures.value)
    c.in-Some.ensures.updates.0))
