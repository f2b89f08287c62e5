-- The names that an item defines and uses.
use Rattle.std.specs.Prelude.{Bool, true, false, List, [], ◌∷◌, ◌++◌, map}
use Rattle.std.specs.List.{flat_map}
use Rattle.justfile_numbers.specs.declared.number.Number.{Number}
use Rattle.justfile_token.specs.Namepath.{names_in}
use Rattle.justfile_token.specs.declared.name.Name.{Name}
use Rattle.justfile_token.specs.declared.namepath.Namepath.{Namepath}
use Rattle.justfile_expression.specs.declared.expression.Expression.{Expression, And', Assert', Backtick, Call', Comparison', Concatenation', Conditional', FormatString', Group', Join', List', ListConcatenation', Not', Or', StringLiteral, Variable}
use Rattle.justfile_recipe_header.specs.declared.parameter.Parameter.{Parameter}
use Rattle.justfile_recipe_header.specs.declared.unresolved_dependency.UnresolvedDependency.{UnresolvedDependency}
use Rattle.justfile_item.specs.AllExpressions.{all_expressions}
use Rattle.justfile_item.specs.declared.alias.Alias.{Alias}
use Rattle.justfile_item.specs.declared.function_definition.FunctionDefinition.{FunctionDefinition}
use Rattle.justfile_item.specs.declared.item.Item.{Item}
use Rattle.justfile_item.specs.declared.item.Item.TheVariants as items
use Rattle.justfile_item.specs.declared.recipe.UnresolvedRecipe.{UnresolvedRecipe}
use Rattle.justfile_references.specs.declared.reference.Reference.{Reference}
use Rattle.justfile_references.specs.declared.reference.Role.{Role}
use Rattle.justfile_references.specs.declared.reference.Role.TheVariants as roles

-- a name in a role, defined or used
abbrev pub refers : Role → Name → Bool → Reference
refers role name defines = record { role = role; token = name.token; defines = defines }

-- the use of a recipe of the same file: its path is a name alone
abbrev pub single : List Name → List Reference
single [] = []
single (name ∷ []) = refers roles.Recipe name false ∷ []
single (name ∷ other ∷ others) = []

abbrev pub path_names : Namepath → List Reference
path_names path = single (names_in path)

abbrev pub alias_names : Alias Namepath → List Reference
alias_names a = refers roles.Recipe a.name true ∷ path_names a.target

abbrev pub function_parameter : Name × Number → Reference
function_parameter p = refers roles.Parameter p.0 true

abbrev pub function_names : FunctionDefinition → List Reference
function_names f = refers roles.Function f.name true ∷ map function_parameter f.parameters.items

abbrev pub parameter : Parameter → Reference
parameter p = refers roles.Parameter p.name true

abbrev pub dependency_names : UnresolvedDependency → List Reference
dependency_names d = path_names d.recipe

abbrev pub recipe_names : UnresolvedRecipe → List Reference
recipe_names r = refers roles.Recipe r.name true ∷ map parameter r.parameters.items ++ flat_map dependency_names r.dependencies.items

-- the names outside of expressions: what the item defines, and the recipes that it refers to
abbrev pub item_names : Item → List Reference
item_names (items.Alias a) = alias_names a
item_names (items.Assignment a) = refers roles.Variable a.name true ∷ []
item_names (items.Function f) = function_names f
item_names (items.Recipe r) = recipe_names r
item_names _ = []

-- the variable or the function that an expression names itself
abbrev pub expression_uses : Expression → List Reference
expression_uses (And' p lhs q rhs) = []
expression_uses (Assert' p condition message name) = []
expression_uses (Backtick contents token) = []
expression_uses (Call' name n arguments) = refers roles.Function name false ∷ []
expression_uses (Comparison' p lhs operator q rhs token) = []
expression_uses (Concatenation' p lhs operator q rhs) = []
expression_uses (Conditional' p condition q branch otherwise) = []
expression_uses (FormatString' first n expressions) = []
expression_uses (Group' p contents) = []
expression_uses (Join' lhs operator q rhs) = []
expression_uses (List' n row opener) = []
expression_uses (ListConcatenation' p lhs operator q rhs) = []
expression_uses (Not' p operand) = []
expression_uses (Or' p lhs q rhs) = []
expression_uses (StringLiteral literal) = []
expression_uses (Variable name number) = refers roles.Variable name false ∷ []

-- the names that an item defines and uses: those outside of expressions, and those in all expressions, at every depth
abbrev pub item_references : Item → List Reference
item_references i = item_names i ++ flat_map expression_uses (all_expressions i)
