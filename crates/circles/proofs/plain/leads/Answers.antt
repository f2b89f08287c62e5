use Rattle.std.proofs.Common.{◌<◌, Contains, List, ℕ, arith, length, nat_eq, subst, sym}
use Rattle.std.proofs.lemmas.Bool.Decides.{Decides-eqb}
use Rattle.std.proofs.lemmas.List.{get_or_read}
use Rattle.std.proofs.lemmas.List.Elements.{Decides-contains, contains_decides}
use Rattle.circles.specs.declared.edge.Edge.{Edge}
use Rattle.circles.specs.Passed.{Passes}
use Rattle.circles.proofs.SearchLemmas.{search_all, search_more, search_none}
use Rattle.circles.proofs.plain.leads.Goals as goal

pub nodes-init : goal.nodes-init
nodes-init c = search_none _ _ _ _ c.in_ok-pending.ensures.items c.in_ok-reached.ensures.items

pub nodes-preserved : goal.nodes-preserved
nodes-preserved c =
    let more : c.nodes.passed < length c.nodes.reached.items = omega (arith, c.nodes-test.true, c.len.ensures, c.nodes.reached.ok.0) in
    let P : List Edge → Type 0 = λ l. Passes l c.index-node.result.now c.nodes.reached.items c.pass.new.reached.items c.in_ok-pending-2.pending.items in
    search_more _ _ _ _ _ c.nodes.invariant _ _ _ more (get_or_read _ _ _ more c.index-node.ensures 0)
    (subst P c.deref.ensures.value c.in_ok-pending-2.ensures)

pub returns : goal.returns
returns c =
    let both =
    search_all _ _ _ _ _ c.nodes.invariant c.args.to (omega (arith, c.nodes-test.false, c.len.ensures, c.nodes.reached.ok.0)) in
    let decides = Decides-contains _ _ _ (contains_decides nat_eq Decides-eqb _ _ _ c.contains.ensures.cases) in
    let P : List ℕ → Type 0 = λ l. Contains l c.args.to in (
      λ t. both.0 (subst P c.deref-2.ensures.value (decides.0 t)),
      λ l. decides.1 (subst P (sym c.deref-2.ensures.value) (both.1 l)),
    )
