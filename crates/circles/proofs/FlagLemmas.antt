-- Flags of edges.
use Rattle.std.proofs.Common.{◌≡◌, ◌==◌, Bool, false, All, IfOk, Result, Ok, Err, Vec, List, length, map, get_or, sym, ◌∙◌, subst, ap, eqb-true, eq-eqb}
use Rattle.std.proofs.lemmas.List.{get_or-map, length-map}
use Rattle.circles.specs.declared.edge.Edge.{Edge}
use Rattle.circles.specs.declared.place.Place.{Place}
use Rattle.circles.specs.Certificate.{IsCertified, place_of}
use Rattle.circles.specs.Circles.{AreInCircles}
use Rattle.circles.proofs.CertificateLaws.{circles_stay}

-- flags of certified edges, true where an edge stays in a tree
pub certified_flags : (edges : List Edge) (to_roots from_roots : List Place) (places : List Place) (found : List Bool)
    → All (IsCertified edges to_roots from_roots) edges → places ≡ to_roots
    → found ≡ map (λ (e : Edge). (place_of places e.from).tree == (place_of places e.to).tree) edges → AreInCircles edges found
certified_flags edges to_roots from_roots places found certified same is =
    let flag : Edge → Bool = λ e. (place_of places e.from).tree == (place_of places e.to).tree in
    let P : List Place → Type 0 = λ l. All (IsCertified edges l from_roots) edges in
    let at_places = subst P (sym same) certified in
    record {
      one_each = ap length is ∙ length-map edges flag;
      flags = λ k d h.
          let e = get_or edges k d in
          let at : get_or found k false ≡ flag e = ap (λ (l : List Bool). get_or l k false) is ∙ get_or-map flag edges k d false h in
          let both = circles_stay edges places from_roots at_places e (at_places k d h) in
          (λ t. both.0 (eqb-true _ _ (sym at ∙ t)), λ c. at ∙ eq-eqb _ _ (both.1 c));
    }

pub certified_result : {Z E : Type 0} (r : Result (Vec Bool Z) E) (edges : List Edge) (to_roots from_roots : List Place) (places : List Place)
    → All (IsCertified edges to_roots from_roots) edges → places ≡ to_roots
    → IfOk r (λ v. v.items ≡ map (λ (e : Edge). (place_of places e.from).tree == (place_of places e.to).tree) edges) → IfOk r (λ v. AreInCircles edges v.items)
certified_result (Ok v) edges to_roots from_roots places certified same is = certified_flags edges to_roots from_roots places v.items certified same is
certified_result (Err e) edges to_roots from_roots places certified same is = tt
