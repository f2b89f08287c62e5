-- Lines without empty ones at the end.
use Rattle.std.proofs.Common.{◌≡◌, List, [], ◌∷◌, refl, ap, ◌∙◌}
use Rattle.std.specs.Prelude.{◌&&◌}
use Rattle.justfile_model.specs.Printed.Printing.{printable_fragments, printable_body}
use Rattle.justfile_model.specs.Trees.Tree.{Line, line_before, trimmed}
use Rattle.justfile_round_trip.proofs.Canon.{ShapeLine}

-- trimming a trimmed list changes nothing
before_twice : (l : ShapeLine) (ls : List ShapeLine) → trimmed ls ≡ ls → trimmed (line_before l ls) ≡ line_before l ls
before_twice (Line n []) [] h = refl
before_twice (Line n []) (k ∷ ls) h = λ i. line_before (Line n []) (h i)
before_twice (Line n (f ∷ fs)) ls h = λ i. Line n (f ∷ fs) ∷ h i

pub trimmed_twice : (ls : List ShapeLine) → trimmed (trimmed ls) ≡ trimmed ls
trimmed_twice [] = refl
trimmed_twice (l ∷ ls) = before_twice l (trimmed ls) (trimmed_twice ls)

-- an empty line is printable
before_printable : (l : ShapeLine) (ls : List ShapeLine) → printable_body (line_before l ls) ≡ printable_body (l ∷ ls)
before_printable (Line n []) (k ∷ ls) = refl
before_printable _ ls = refl

pub trimmed_printable : (ls : List ShapeLine) → printable_body (trimmed ls) ≡ printable_body ls
trimmed_printable [] = refl
trimmed_printable (Line n fs ∷ ls) = before_printable (Line n fs) (trimmed ls) ∙ ap (λ b. printable_fragments fs && b) (trimmed_printable ls)
