-- After a body in normal form there is nothing, or an item, possibly after line ends.
use Rattle.std.proofs.Common.{◌≡◌, true, [], ◌∷◌, refl}
use Rattle.std.specs.Prelude.{not}
use Rattle.std.proofs.lemmas.Bool.{false_from_ne_true, not_from_false}
use Rattle.justfile_model.specs.Printed.NormalShape.{after_newline, normal_rest}
use Rattle.justfile_model.specs.Trees.Tree as tree
use Rattle.justfile_model.specs.Trees.Tree.{Shape}
use Rattle.justfile_round_trip.proofs.Items.GoodItems.{blank_only, follows_body}

-- the items of a normal shape after a line end, or at the front
record Rest (items : Shape) : Type 0 where
  alone : blank_only items ≡ true → items ≡ tree.Newline ∷ []

abbrev pub following : Shape → Shape
following [] = []
following (i ∷ items) = items

newline_rest : (items : Shape) → Rest items → Rest (after_newline items)
newline_rest (tree.Newline ∷ tree.Newline ∷ items) h = h
newline_rest _ h = record { alone = λ e. cc }

rest_is : (items : Shape) → Rest (normal_rest items)
rest_is (tree.Newline ∷ items) = newline_rest (normal_rest items) (rest_is items)
rest_is _ = record { alone = λ e. cc }

not_alone : (items : Shape) → Rest items → (items ≡ tree.Newline ∷ [] → ⊥) → not (blank_only items) ≡ true
not_alone items h other = not_from_false (blank_only items) (false_from_ne_true (blank_only items) (λ e. other (h.alone e)))

-- after a line end of a normal shape
pub newline_follows : (items : Shape) → follows_body (following (normal_rest (tree.Newline ∷ items))) ≡ true
newline_follows items = by (normal_rest items) (rest_is items)
  where
    by : (r : Shape) → Rest r → follows_body (following (after_newline r)) ≡ true
    by (tree.Newline ∷ tree.Newline ∷ r) h = not_alone (tree.Newline ∷ tree.Newline ∷ r) h (λ e. cc)
    by _ h = refl
