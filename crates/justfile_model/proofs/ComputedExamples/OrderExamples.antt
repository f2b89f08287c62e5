-- Examples of sorted lists of pairs of numbers, by the first numbers, and of lists without duplicates of the first number.
use Rattle.std.proofs.Common.{ℕ, Bool, [], ◌∷◌, ◌==◌, nat_cmp, refl}
use Rattle.std.specs.declared.cmp.Ordering.{Ordering}
use Rattle.justfile_model.specs.Lists.Distinct.{kept_last}
use Rattle.justfile_model.specs.Lists.Order.{in_order}
use Rattle.justfile_model.proofs.ComputedExamples.Tables.{Gives}

abbrev Pair : Type 0
Pair = ℕ × ℕ

abbrev by_first : Pair → Pair → Ordering
by_first p q = nat_cmp p.0 q.0

abbrev same_first : Pair → Pair → Bool
same_first p q = p.0 == q.0

kept_pairs : Gives (kept_last same_first) (
    ([], [])
    -- the last of each stays in its place
    ∷ ((2, 0) ∷ (1, 1) ∷ (2, 2) ∷ (3, 3) ∷ (1, 4) ∷ [], (2, 2) ∷ (3, 3) ∷ (1, 4) ∷ [])
    -- repeats side by side
    ∷ ((1, 0) ∷ (1, 1) ∷ (1, 2) ∷ [], (1, 2) ∷ [])
    ∷ [])
kept_pairs = refl

ordered_pairs : Gives (in_order by_first) (
    ([], [])
    -- ties stay as they stood
    ∷ ((2, 0) ∷ (1, 1) ∷ (2, 2) ∷ (1, 3) ∷ [], (1, 1) ∷ (1, 3) ∷ (2, 0) ∷ (2, 2) ∷ [])
    ∷ ((3, 0) ∷ (2, 1) ∷ (1, 2) ∷ [], (1, 2) ∷ (2, 1) ∷ (3, 0) ∷ [])
    ∷ ((1, 2) ∷ (1, 1) ∷ (2, 0) ∷ [], (1, 2) ∷ (1, 1) ∷ (2, 0) ∷ [])
    ∷ (kept_last same_first ((2, 0) ∷ (1, 1) ∷ (2, 2) ∷ (1, 3) ∷ []), (1, 3) ∷ (2, 2) ∷ [])
    ∷ [])
ordered_pairs = refl
