use Rattle.std.proofs.Common.{◌≡◌, ℕ, Bool, List, arith, get_or, length, refl, subst}
use Rattle.circles.specs.declared.edge.TheConstants.{NO_EDGE}
use Rattle.circles.specs.Walks.{IsCircleIn, first_flagged, step_from}
use Rattle.circles.proofs.FirstStepLemmas.{first_steps}
use Rattle.circles.proofs.ListedLemmas.{listed_all, listed_more, listed_none}
use Rattle.circles.proofs.first_circles.find_circles.Goals as goal

pub loop-edge-init : goal.loop-edge-init
loop-edge-init c = listed_none _ _ _ c.new-found.ensures.items

pub loop-edge-preserved : goal.loop-edge-preserved
loop-edge-preserved c =
    listed_more c.args.edges.now c.in_ok-next.next c.loop-edge.next c.follow.new.next c.loop-edge.found.items c.loop-edge.edge-index (get_or c.args.edges.now c.loop-edge.edge-index NO_EDGE).from c.in_ok-walked.walked c.loop-edge.invariant refl c.in_ok-walked.ensures c.in_ok-circle_in.field-0 _
    (let P : List ℕ → Type 0 = λ l. IsCircleIn c.args.edges.now l c.in_ok-walked.walked.end c.in_ok-circle_in.field-0 in subst P c.deref-in-loop-edge.ensures.value c.in_ok-circle_in.ensures) c.in_ok-push.ensures

pub returns : goal.returns
returns c = listed_all c.args.edges.now c.in_ok-next.next c.loop-edge.next c.loop-edge.found.items c.loop-edge.edge-index c.loop-edge.invariant (omega (arith, c.loop-edge-test.false)) (first_steps c.args.edges.now c.in_ok-flags.flags.items c.in_ok-next.next c.in_ok-flags.ensures
    (let P : List Bool → Type 0 = λ l. (node : ℕ) → step_from c.in_ok-next.next node ≡ first_flagged c.args.edges.now l (length c.args.edges.now) node in subst P c.deref.ensures.value c.in_ok-next.ensures))
