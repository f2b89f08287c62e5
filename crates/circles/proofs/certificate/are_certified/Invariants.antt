use Rattle.std.proofs.Common.{All, take}
use Rattle.circles.specs.Certificate.{IsCertified}
use Rattle.circles.proofs.certificate.are_certified.Given as goal

abbrev pub invariant-loop-edge : goal.invariant-loop-edge
invariant-loop-edge l = All (IsCertified l.edges l.to_roots l.from_roots) (take l.edge-index l.edges)
