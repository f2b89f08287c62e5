-- Texts with another one between each two.
use Rattle.std.proofs.Common.{◌≡◌, ℕ, List, [], ◌∷◌, ◌++◌, ap, refl}
use Rattle.std.specs.List.{flat_map, join_by}
use Rattle.justfile_signatures.specs.Known.{shown}
use Rattle.justfile_signatures.specs.Label.{joined}
use denote.Ref.{Bor}

rest : (between : List ℕ) (texts : List (Bor (List ℕ))) → flat_map (λ (t : Bor (List ℕ)). between ++ t.now) texts ≡ flat_map (λ (t : List ℕ). between ++ t) (shown texts)
rest between [] = refl
rest between (t ∷ texts) = ap (λ l. (between ++ t.now) ++ l) (rest between texts)

pub same_texts : (between : List ℕ) (texts : List (Bor (List ℕ))) → join_by (λ (t : Bor (List ℕ)). t.now) between texts ≡ joined between (shown texts)
same_texts between [] = refl
same_texts between (t ∷ texts) = ap (λ l. t.now ++ l) (rest between texts)
