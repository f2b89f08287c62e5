-- What certified forests show: where the tree doesn't change, an edge is in a circle, and elsewhere it isn't.
use Rattle.std.proofs.Common.{◌≡◌, ◌+◌, ◌<◌, ◌≤◌, ◌↔◌, ℕ, zero, suc, All, List, [], ◌∷◌, length, get_or, refl, sym, subst, ap, inl, inr, arith}
use Rattle.circles.specs.declared.edge.Edge.{Edge}
use Rattle.circles.specs.declared.place.Place.{Place}
use Rattle.circles.specs.Graph.{HasStep, IsChain, Leads}
use Rattle.circles.specs.Circles.{IsInCircle}
use Rattle.circles.specs.Certificate.{ComesFromRoot, GoesToRoot, IsCertified, IsTied, StaysInTree, place_of}
use Rattle.circles.proofs.GraphLemmas.{leads_nowhere, leads_on, leads_through, leads_to_next}

module _ (edges : List Edge) (to_roots from_roots : List Place) (certified : All (IsCertified edges to_roots from_roots) edges) where
  -- what is known of an edge that is among the edges
  known : (k : ℕ) (e : Edge) → k < length edges → get_or edges k e ≡ e → IsCertified edges to_roots from_roots e
  known k e h is = let P : Edge → Type 0 = IsCertified edges to_roots from_roots in subst P is (certified k e h)

  tied_if : (e : Edge) → IsCertified edges to_roots from_roots e → StaysInTree to_roots e → IsTied edges to_roots from_roots e
  tied_if e (inl less) same = absurd (omega (arith, less, same))
  tied_if e (inr tied) same = tied

  rises_at : (e : Edge) → IsCertified edges to_roots from_roots e → (place_of to_roots e.from).tree ≤ (place_of to_roots e.to).tree
  rises_at e (inl less) = omega (arith, less)
  rises_at e (inr tied) = omega (arith, tied.stays)

  step_rises : (x y : ℕ) → HasStep edges x y → (place_of to_roots x).tree ≤ (place_of to_roots y).tree
  step_rises x y (k, e, h, is, (f, t)) =
      omega (arith, rises_at e (known k e h is), ap (λ n. (place_of to_roots n).tree) f, ap (λ n. (place_of to_roots n).tree) t)

  chain_rises : (nodes : List ℕ) (x y : ℕ) → IsChain edges x nodes y → (place_of to_roots x).tree ≤ (place_of to_roots y).tree
  chain_rises [] x y e = omega (arith, ap (λ n. (place_of to_roots n).tree) e)
  chain_rises (n ∷ ns) x y c = omega (arith, step_rises x n c.0, chain_rises ns n y c.1)

  -- along steps towards the root; `n` is more than how many there can be
  goes : (n node : ℕ) → (place_of to_roots node).rank < n → GoesToRoot edges to_roots node → Leads edges node (place_of to_roots node).root
  goes zero node h g = absurd (omega (arith, h))
  goes (suc n) node h (inl e) = let P : ℕ → Type 0 = λ r. Leads edges node r in subst P (sym e) (leads_nowhere edges node)
  goes (suc n) node h (inr (k, e, l, is, (f, stays, nearer))) =
      let tied = tied_if e (known k e l is) stays in
      let rest : Leads edges e.to (place_of to_roots e.to).root = goes n e.to (omega (arith, nearer.rank_less, h)) tied.goes in
      let P : ℕ → Type 0 = λ r. Leads edges e.to r in
      leads_on edges node e.to _ (k, e, l, is, (f, refl)) (subst P nearer.same_root rest)

  comes : (n node : ℕ) → (place_of from_roots node).rank < n → ComesFromRoot edges to_roots from_roots node → Leads edges (place_of from_roots node).root node
  comes zero node h g = absurd (omega (arith, h))
  comes (suc n) node h (inl e) = let P : ℕ → Type 0 = λ r. Leads edges r node in subst P (sym e) (leads_nowhere edges node)
  comes (suc n) node h (inr (k, e, l, is, (t, stays, nearer))) =
      let tied = tied_if e (known k e l is) stays in
      let rest : Leads edges (place_of from_roots e.from).root e.from = comes n e.from (omega (arith, nearer.rank_less, h)) tied.comes in
      let P : ℕ → Type 0 = λ r. Leads edges r e.from in
      leads_to_next edges _ e.from node (subst P nearer.same_root rest) (k, e, l, is, (refl, t))

  tied_circle : (e : Edge) → IsTied edges to_roots from_roots e → IsInCircle edges e
  tied_circle e tied =
      let there = goes ((place_of to_roots e.to).rank + 1) e.to (omega arith) tied.goes in
      let back = comes ((place_of from_roots e.from).rank + 1) e.from (omega arith) tied.comes in
      let P : ℕ → Type 0 = λ r. Leads edges e.to r in
      leads_through edges e.to _ e.from (subst P tied.same_root there) back

  pub circles_stay : (e : Edge) → IsCertified edges to_roots from_roots e → StaysInTree to_roots e ↔ IsInCircle edges e
  circles_stay e known_e = (
    λ stays. tied_circle e (tied_if e known_e stays),
    λ circle. omega (arith, rises_at e known_e, chain_rises circle.nodes e.to e.from circle.chain),
  )
