-- Normalizing a shape twice is the same as once. It keeps the literals, the bindings, the recipes, and whether the shape is printable.
use Rattle.std.proofs.Common.{◌≡◌, [], ◌∷◌, ◌+◌, ◌++◌, ◌&&◌, refl, sym, ap, ◌∙◌, arith}
use Rattle.justfile_model.specs.Trees.Tree.{Comment, Newline, OrderedItem, Shape}
use Rattle.justfile_model.specs.Grammars.Files.{entries_literals, item_bindings, item_literals, item_recipes, literals, bindings, recipes}
use Rattle.justfile_model.specs.Printed.NormalShape.{after_newline, normal_rest, normal}
use Rattle.justfile_model.specs.Printed.Printing.{printable_item, printable}

after_twice : (r : Shape) → normal_rest r ≡ r → normal_rest (after_newline r) ≡ after_newline r
after_twice [] h = refl
after_twice (Newline ∷ []) h = refl
after_twice (Newline ∷ Newline ∷ r) h = h
after_twice (Newline ∷ Comment text ∷ r) h = ap after_newline h
after_twice _ h = ap after_newline h

rest_twice : (s : Shape) → normal_rest (normal_rest s) ≡ normal_rest s
rest_twice [] = refl
rest_twice (Newline ∷ s) = after_twice (normal_rest s) (rest_twice s)
rest_twice (i ∷ s) = ap (λ (r : Shape). i ∷ r) (rest_twice s)

normal_of : (r : Shape) → normal_rest r ≡ r → normal r ≡ r
normal_of [] h = refl
normal_of (i ∷ r) h = h

pub normal_twice : (s : Shape) → normal (normal s) ≡ normal s
normal_twice [] = refl
normal_twice (i ∷ s) = normal_of (normal_rest (i ∷ s)) (rest_twice (i ∷ s))

-- what is seen of the items of a shape and of no line end is seen of its normal form
module _ {Z : Type 0} (seen : Shape → Z) (newline : (s : Shape) → seen (Newline ∷ s) ≡ seen s)
    (first : (i : OrderedItem _ _ _) (s r : Shape) → seen s ≡ seen r → seen (i ∷ s) ≡ seen (i ∷ r)) where
  after_seen : (r : Shape) → seen (after_newline r) ≡ seen r
  after_seen (Newline ∷ []) = refl
  after_seen (Newline ∷ Newline ∷ r) = refl
  after_seen r = newline r

  rest_seen : (s : Shape) → seen (normal_rest s) ≡ seen s
  rest_seen [] = newline []
  rest_seen (Newline ∷ s) = after_seen (normal_rest s) ∙ rest_seen s ∙ sym (newline s)
  rest_seen (i ∷ s) = first i (normal_rest s) s (rest_seen s)

  pub normal_seen : (s : Shape) → seen (normal s) ≡ seen s
  normal_seen [] = refl
  normal_seen (i ∷ s) = rest_seen (i ∷ s)

pub normal_literals : (s : Shape) → literals (normal s) ≡ literals s
normal_literals = normal_seen literals (λ s. refl) (λ i s r e. ap (λ l. item_literals entries_literals i ++ l) e)

pub normal_bindings : (s : Shape) → bindings (normal s) ≡ bindings s
normal_bindings = normal_seen bindings (λ s. omega arith) (λ i s r e. ap (λ n. item_bindings i + n) e)

pub normal_recipes : (s : Shape) → recipes (normal s) ≡ recipes s
normal_recipes = normal_seen recipes (λ s. omega arith) (λ i s r e. ap (λ n. item_recipes i + n) e)

pub normal_printable : (s : Shape) → printable (normal s) ≡ printable s
normal_printable = normal_seen printable (λ s. refl) (λ i s r e. ap (λ b. printable_item i && b) e)
