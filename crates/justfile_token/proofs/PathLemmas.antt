-- Paths and their first names.
use Rattle.std.proofs.Common.{◌≡◌, ℕ, List, ◌∷◌, ◌++◌, map, ap, ◌∙◌}
use Rattle.std.specs.List.{flat_map}
use Rattle.std.proofs.lemmas.List.Folds.{flat_map-map}
use Rattle.justfile_token.specs.Path.{path_text, separated_name}

pub path_text_first : {X : Type 0} (text : X → List ℕ) (xs : List X) (first : X) (rest : List X) → xs ≡ first ∷ rest
    → path_text (map text xs) ≡ text first ++ flat_map (λ x. separated_name (text x)) rest
path_text_first text xs first rest e =
    ap (λ l. path_text (map text l)) e ∙ ap (λ l. text first ++ l) (flat_map-map separated_name text rest)
