-- Numbers that count up: as many as bindings, or as many as recipes.
use Rattle.std.proofs.Common.{◌≡◌, ℕ, ◌+◌, List, [], ◌∷◌, ◌++◌, map, length, refl, sym, ap, ◌∙◌, arith}
use Rattle.std.specs.List.{flat_map}
use Rattle.std.proofs.lemmas.List.{length-append, length-map}
use Rattle.justfile_model.specs.Grammars.Files.{NumbersFrom, bindings, item_bindings, item_recipes, recipes}
use Rattle.justfile_item.specs.Item.{function_parameter_number, function_parameter_of, item_numbers, item_of, item_recipe_numbers, parameter_number}
use Rattle.justfile_item.specs.declared.item.Item.{Item}
use Rattle.justfile_item.specs.declared.item.Item.TheVariants as items
use Rattle.justfile_ast.specs.Ast.{binding_numbers, recipe_numbers, tree_of}
use Rattle.justfile_ast.specs.declared.ast.Ast.{Ast}
use Rattle.justfile_recipe_header.specs.Header.{parameter_of}

pub counted_alike : (first : ℕ) (ms ns : List ℕ) → NumbersFrom first ms → NumbersFrom first ns → length ms ≡ length ns → ms ≡ ns
counted_alike first [] [] p q same = refl
counted_alike first [] (n ∷ ns) p q same = absurd (omega (arith, same))
counted_alike first (m ∷ ms) [] p q same = absurd (omega (arith, same))
counted_alike first (m ∷ ms) (n ∷ ns) p q same =
    ap (λ k. k ∷ ms) (p.0 ∙ sym q.0) ∙ ap (λ l. n ∷ l) (counted_alike (first + 1) ms ns p.1 q.1 (omega (arith, same)))

-- an item has as many numbers as bindings
item_count : (i : Item) → length (item_numbers i) ≡ item_bindings (item_of i)
item_count (items.Function f) = length-map f.parameters.items function_parameter_number ∙ sym (length-map f.parameters.items function_parameter_of)
item_count (items.Recipe r) = length-map r.parameters.items parameter_number ∙ sym (length-map r.parameters.items parameter_of)
item_count _ = refl

item_recipe_count : (i : Item) → length (item_recipe_numbers i) ≡ item_recipes (item_of i)
item_recipe_count (items.Recipe r) = refl
item_recipe_count _ = refl

bindings_count : (is : List Item) → length (flat_map item_numbers is) ≡ bindings (map item_of is)
bindings_count [] = refl
bindings_count (i ∷ is) = omega (arith, length-append (item_numbers i) (flat_map item_numbers is), item_count i, bindings_count is)

recipes_count : (is : List Item) → length (flat_map item_recipe_numbers is) ≡ recipes (map item_of is)
recipes_count [] = refl
recipes_count (i ∷ is) = omega (arith, length-append (item_recipe_numbers i) (flat_map item_recipe_numbers is), item_recipe_count i, recipes_count is)

pub same_bindings : (first : ℕ) (a b : Ast) → NumbersFrom first (binding_numbers a) → NumbersFrom first (binding_numbers b)
    → bindings (tree_of a) ≡ bindings (tree_of b) → binding_numbers a ≡ binding_numbers b
same_bindings first a b p q same =
    counted_alike first (binding_numbers a) (binding_numbers b) p q (bindings_count a.items.items ∙ same ∙ sym (bindings_count b.items.items))

pub same_recipes : (first : ℕ) (a b : Ast) → NumbersFrom first (recipe_numbers a) → NumbersFrom first (recipe_numbers b)
    → recipes (tree_of a) ≡ recipes (tree_of b) → recipe_numbers a ≡ recipe_numbers b
same_recipes first a b p q same =
    counted_alike first (recipe_numbers a) (recipe_numbers b) p q (recipes_count a.items.items ∙ same ∙ sym (recipes_count b.items.items))
