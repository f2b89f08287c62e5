use Rattle.std.proofs.Common.{◌≡◌, ◌∷◌, List, ℕ, map, take}
use denote.Ref.{Bor}
use Rattle.justfile_token.specs.Name.{name_text}
use Rattle.justfile_problems.specs.declared.facts.Use.{Use}
use Rattle.justfile_problems.proofs.circular.Circle.names.Given as goal

abbrev pub invariant-loop-used : goal.invariant-loop-used
invariant-loop-used l =
    map (λ (n : Bor (List ℕ)). n.now) l.names.items
    ≡ name_text l.self.first.item ∷ name_text l.self.first.name ∷ map (λ (u : Use). name_text u.name) (take l.used-index l.self.others.items)
