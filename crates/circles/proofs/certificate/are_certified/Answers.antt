use Rattle.std.proofs.Common.{All, List, subst}
use Rattle.std.proofs.lemmas.List.{take_all}
use Rattle.std.proofs.lemmas.List.Elements.{All-more}
use Rattle.circles.specs.declared.edge.Edge.{Edge}
use Rattle.circles.specs.Certificate.{IsCertified}
use Rattle.circles.proofs.certificate.are_certified.Goals as goal

pub loop-edge-preserved : goal.loop-edge-preserved
loop-edge-preserved c =
    All-more (IsCertified c.args.edges.now c.args.to_roots.now c.args.from_roots.now) c.args.edges.now _ _ c.loop-edge-test.true
    c.loop-edge.invariant (c.is_certified.ensures c.if-not-is_certified.false)

pub returns : goal.returns
returns c _ =
    let P : List Edge → Type 0 = λ l. All (IsCertified c.args.edges.now c.args.to_roots.now c.args.from_roots.now) l in
    subst P (take_all _ _ c.loop-edge-test.false) c.loop-edge.invariant
