-- The parts of paths.
use Rattle.std.proofs.Common.{◌≡◌, ◌∙◌, ℕ, List, [], ◌∷◌, ◌++◌, ap, codes, refl}
use Rattle.std.specs.List.{flat_map, join_by}
use denote.Ref.{Bor}
use Rattle.justfile_files.specs.Path.{plain, shown, text_of}

flat_names : (separator : List ℕ) (names : List (Bor (List ℕ))) → flat_map (λ (n : Bor (List ℕ)). separator ++ n.now) names ≡ flat_map (λ n. separator ++ n) (shown names)
flat_names separator [] = refl
flat_names separator (name ∷ names) = ap (λ l. (separator ++ name.now) ++ l) (flat_names separator names)

joined_names : (separator : List ℕ) (names : List (Bor (List ℕ))) → join_by (λ (n : Bor (List ℕ)). n.now) separator names ≡ join_by (λ n. n) separator (shown names)
joined_names separator [] = refl
joined_names separator (name ∷ names) = ap (λ l. name.now ++ l) (flat_names separator names)

-- a beginning and names
pub text_joined : (front made : List ℕ) (names : List (Bor (List ℕ))) → made ≡ front ++ join_by (λ (n : Bor (List ℕ)). n.now) (codes "/") names → made ≡ text_of (plain front names)
text_joined front made names is = is ∙ ap (λ l. front ++ l) (joined_names (codes "/") names)
