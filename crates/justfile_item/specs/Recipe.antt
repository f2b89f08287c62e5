-- The text of a recipe.
use Rattle.std.specs.Prelude.{ℕ, List}
use Rattle.justfile_model.specs.Printed.Printing as printing
use Rattle.justfile_item.specs.Item.{recipe_shape}
use Rattle.justfile_item.specs.declared.recipe.UnresolvedRecipe.{UnresolvedRecipe}

abbrev pub unresolved_recipe_text : UnresolvedRecipe → (indentation : List ℕ) → List ℕ
unresolved_recipe_text r = printing.recipe_text (recipe_shape r)
