-- Texts that are empty if they are empty together.
use Rattle.std.proofs.Common.{◌≡◌, ℕ, List, [], ◌∷◌, ◌++◌, length, refl}

-- if joined texts are empty, each of them is
pub all_empty : (before marks lexeme after : List ℕ) → before ++ (marks ++ (lexeme ++ after)) ≡ [] → (length before ≡ 0) × (length marks ≡ 0) × (length lexeme ≡ 0) × (length after ≡ 0)
all_empty [] [] [] [] e = (refl, refl, refl, refl)
all_empty [] [] [] (x ∷ after) e = absurd cc
all_empty [] [] (x ∷ lexeme) after e = absurd cc
all_empty [] (x ∷ marks) lexeme after e = absurd cc
all_empty (x ∷ before) marks lexeme after e = absurd cc
