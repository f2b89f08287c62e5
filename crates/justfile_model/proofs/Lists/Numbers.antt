-- Consecutive numbers.
use Rattle.std.proofs.Common.{◌≡◌, ◌<◌, ℕ, zero, suc, ◌+◌, List, [], ◌∷◌, length, slice_index, get_or, ◌∙◌, arith}
use Rattle.justfile_model.specs.Grammars.Files.{NumbersFrom}

-- each is the first one and its index
pub number_at : (first : ℕ) (numbers : List ℕ) → NumbersFrom first numbers → (i : ℕ) → i < length numbers → get_or numbers i 0 ≡ first + i
number_at first [] h i l = absurd (omega arith)
number_at first (n ∷ ns) h zero l = h.0 ∙ omega arith
number_at first (n ∷ ns) h (suc i) l = number_at (first + 1) ns h.1 i (omega arith) ∙ omega arith

pub rise : (first : ℕ) (numbers : List ℕ) → NumbersFrom first numbers → (i j : ℕ) → i < j → j < length numbers → slice_index numbers i < slice_index numbers j
rise first numbers h i j l within =
    let low = number_at first numbers h i (omega arith) in
    let high = number_at first numbers h j within in
    omega (arith, low, high)
