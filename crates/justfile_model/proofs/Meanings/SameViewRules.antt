-- The rules that attributes break with other projections of their leaves, but the same view: the same rules, with the other projections.
use Rattle.std.proofs.Common.{◌≡◌, ◌∙◌, List, ◌++◌, map, Option, Some, None, refl, sym, ap}
use Rattle.std.proofs.lemmas.List.{map-append}
use Rattle.std.specs.Option.{option_map}
use Rattle.justfile_model.specs.Meanings.AttributeRules.{of_some}
use Rattle.justfile_model.specs.Trees.ContentKeys.{kind_of_attribute}
use Rattle.justfile_model.specs.Trees.Tree as tree
use Rattle.justfile_model.specs.Trees.Tree.{Expr, Quoted, Argument, WrittenAttribute, Attribute, Entry, over_expr, over_argument, over_written_attribute, over_quoted, over_attribute, over_entry}

-- one list after the other
pub both_over : {X Y : Type 0} (h : X → Y) (xs ys : List X) (xs' ys' : List Y) → xs' ≡ map h xs → ys' ≡ map h ys → xs' ++ ys' ≡ map h (xs ++ ys)
both_over h xs ys xs' ys' p q = (λ i. p i ++ q i) ∙ sym (map-append h xs ys)

-- the value of an option, if there is one
pub some_over : {X Y Z W : Type 0} (h : X → Y) (k : Z → W) (p : X → List Z) (q : Y → List W) (o : Option X) (o' : Option Y)
    → o' ≡ option_map h o → ((x : X) → q (h x) ≡ map k (p x)) → of_some q o' ≡ map k (of_some p o)
some_over {X = X} h k p q o o' e same = ap (of_some q) e ∙ within o
  where
    within : (o : Option X) → of_some q (option_map h o) ≡ map k (of_some p o)
    within None = refl
    within (Some x) = same x

pub kind_over : {A B C D : Type 0} (f : A → C) (g : B → D) (a : Attribute A B) → kind_of_attribute (over_attribute f g a) ≡ kind_of_attribute a
kind_over f g (tree.Plain kind) = refl
kind_over f g _ = refl
