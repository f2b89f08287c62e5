-- Where steps lead.
use Rattle.std.proofs.Common.{ℕ, List, [], ◌∷◌, refl, sym, subst}
use Rattle.circles.specs.declared.edge.Edge.{Edge}
use Rattle.circles.specs.Graph.{HasStep, IsChain, Leads}

module _ (edges : List Edge) where
  pub leads_nowhere : (x : ℕ) → Leads edges x x
  leads_nowhere x = record { nodes = []; chain = refl }

  pub leads_on : (x y z : ℕ) → HasStep edges x y → Leads edges y z → Leads edges x z
  leads_on x y z step l = record { nodes = y ∷ l.nodes; chain = (step, l.chain) }

  chain_to_end : (nodes : List ℕ) (x y z : ℕ) → IsChain edges x nodes y → HasStep edges y z → Leads edges x z
  chain_to_end [] x y z e step = leads_on x z z (let P : ℕ → Type 0 = λ n. HasStep edges n z in subst P (sym e) step) (leads_nowhere z)
  chain_to_end (n ∷ ns) x y z c step = leads_on x n z c.0 (chain_to_end ns n y z c.1 step)

  pub leads_to_next : (x y z : ℕ) → Leads edges x y → HasStep edges y z → Leads edges x z
  leads_to_next x y z l step = chain_to_end l.nodes x y z l.chain step

  chain_then : (nodes : List ℕ) (x y z : ℕ) → IsChain edges x nodes y → Leads edges y z → Leads edges x z
  chain_then [] x y z e l = let P : ℕ → Type 0 = λ n. Leads edges n z in subst P (sym e) l
  chain_then (n ∷ ns) x y z c l = leads_on x n z c.0 (chain_then ns n y z c.1 l)

  pub leads_through : (x y z : ℕ) → Leads edges x y → Leads edges y z → Leads edges x z
  leads_through x y z a b = chain_then a.nodes x y z a.chain b
