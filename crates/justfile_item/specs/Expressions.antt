-- The expressions of an item.
use Rattle.std.specs.Prelude.{List, [], ◌∷◌, ◌++◌}
use Rattle.std.specs.List.{flat_map}
use Rattle.justfile_attribute_set.specs.Expressions.{set_expressions}
use Rattle.justfile_expression.specs.declared.expression.Expression.{Expression}
use Rattle.justfile_line.specs.Expressions.{line_expressions}
use Rattle.justfile_recipe_header.specs.Expressions.{dependency_expressions, parameter_expressions}
use Rattle.justfile_setting.specs.Expressions.{setting_expressions}
use Rattle.justfile_item.specs.declared.item.Item.{Item}
use Rattle.justfile_item.specs.declared.item.Item.TheVariants as items
use Rattle.justfile_item.specs.declared.recipe.UnresolvedRecipe.{UnresolvedRecipe}

-- the expressions of a recipe besides those of its attributes: the defaults of its parameters, the arguments of its dependencies, and the
-- interpolations of its body
abbrev pub recipe_expressions : UnresolvedRecipe → List Expression
recipe_expressions r = flat_map parameter_expressions r.parameters.items ++ flat_map dependency_expressions r.dependencies.items ++ flat_map line_expressions r.body.items

-- the expressions that an item has directly, in the order of printing
abbrev pub item_expressions : Item → List Expression
item_expressions (items.Alias a) = set_expressions a.attributes
item_expressions (items.Assignment a) = set_expressions a.attributes ++ a.value ∷ []
item_expressions (items.Comment text) = []
item_expressions (items.Function f) = set_expressions f.attributes ++ f.body ∷ []
item_expressions (items.Import attributes optional relative) = set_expressions attributes
item_expressions (items.Module attributes doc name optional relative) = set_expressions attributes
item_expressions items.Newline = []
item_expressions (items.Recipe r) = set_expressions r.attributes ++ recipe_expressions r
item_expressions (items.Setting s) = set_expressions s.attributes ++ setting_expressions s.value
item_expressions (items.Unexport attributes name) = set_expressions attributes
