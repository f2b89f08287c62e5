-- The trees of items: the definitions' view of the code's types.
use Rattle.std.specs.Prelude.{ℕ, Bool, true, List, [], ◌∷◌, ◌++◌, map, take, drop, Option, String, string_bytes}
use Rattle.std.specs.Global.{Global}
use Rattle.std.specs.List.{flat_map}
use Rattle.std.specs.Option.{option_copied, option_map}
use Rattle.justfile_token.specs.Namepath.{names_in}
use Rattle.justfile_token.specs.declared.name.Name.{Name}
use Rattle.justfile_token.specs.declared.namepath.Namepath.{Namepath}
use Rattle.justfile_numbers.specs.declared.number.Number.{Number}
use Rattle.justfile_token.specs.declared.string_literal.StringLiteral.{StringLiteral}
use Rattle.justfile_model.specs.Lexing.Tok.{Tok, tok_of}
use Rattle.justfile_model.specs.Trees.Tree as tree
use Rattle.justfile_model.specs.Trees.Tree.{AliasParts, AssignmentParts, FunctionParts, Header, ImportParts, ModuleParts, OrderedItem, Quoted, RecipeParts, SettingParts, item_shape_of, lexeme, nothing, over_alias, over_assignment, over_function, over_header, over_import, over_module, over_recipe, over_setting}
use Rattle.justfile_expression.specs.Expression.{expr_of, expr_cooked, literal_tok}
use Rattle.justfile_expression.specs.declared.expression.Expression.{Expression}
use Rattle.justfile_attribute.specs.Attribute.{quoted_by}
use Rattle.justfile_attribute_set.specs.AttributeSet.{attributes_of, entries_of}
use Rattle.justfile_attribute_set.specs.Attributes.{are_enabled}
use Rattle.justfile_recipe_header.specs.Header.{dependency_cooked, dependency_of, name_of, parameter_cooked, parameter_of}
use Rattle.justfile_recipe_header.specs.declared.parameter.Parameter.{Parameter}
use Rattle.justfile_recipe_header.specs.declared.unresolved_dependency.UnresolvedDependency.{UnresolvedDependency}
use Rattle.justfile_setting.specs.Setting.{keyword_of, setting_cooked, value_of}
use Rattle.justfile_line.specs.Body.{body_line_of, line_cooked}
use Rattle.justfile_item.specs.Attributes.{literal_cooked, optional, attributes_cooked}
use Rattle.justfile_item.specs.declared.alias.Alias.{Alias}
use Rattle.justfile_item.specs.declared.binding.Binding.{Binding}
use Rattle.justfile_item.specs.declared.function_definition.FunctionDefinition.{FunctionDefinition}
use Rattle.justfile_item.specs.declared.item.Item.{Item}
use Rattle.justfile_item.specs.declared.item.Item.TheVariants as items
use Rattle.justfile_item.specs.declared.recipe.UnresolvedRecipe.{UnresolvedRecipe}
use Rattle.justfile_item.specs.declared.set.Set.{Set}

-- the tree of an alias
abbrev pub alias_of : Alias Namepath → AliasParts Tok
alias_of a = record { name = tok_of a.name.token; target = map name_of (names_in a.target) }

-- the tree of an assignment
abbrev pub assignment_of : Binding Expression → AssignmentParts Tok Tok
assignment_of a = tree.assignment_of a.eager a.export (tok_of a.name.token) (expr_of a.value)

-- the token of a function's parameter
abbrev pub function_parameter_of : Name × Number → Tok
function_parameter_of p = tok_of p.0.token

-- the tree of a function
abbrev pub function_of : FunctionDefinition → FunctionParts Tok Tok
function_of f = record { name = tok_of f.name.token; parameters = map function_parameter_of f.parameters.items; body = expr_of f.body }

-- the path of a file as a tree has it
abbrev pub quoted_of : StringLiteral → Quoted Tok
quoted_of = quoted_by expr_of literal_tok tok_of

-- the tree of an import
abbrev pub import_of : (optional : Bool) (relative : StringLiteral) → ImportParts Tok
import_of optional relative = record { optional = optional; path = quoted_of relative }

-- the tree of a module
abbrev pub module_of : (doc : Option (String Global)) (name : Name) (optional : Bool) (relative : Option StringLiteral) → ModuleParts Tok
module_of doc name optional relative = record { doc = option_map string_bytes doc; optional = optional; name = tok_of name.token; path = option_map quoted_of relative }

-- the tree of a setting
abbrev pub setting_of : Set → SettingParts Tok Tok
setting_of s = record { keyword = keyword_of s.value; name = tok_of s.name.token; value = value_of s.value }

-- the dependencies of a recipe before `&&`, or all if there is no `&&`
abbrev pub priors_of : UnresolvedRecipe → List UnresolvedDependency
priors_of r = take r.priors r.dependencies.items

-- the dependencies of a recipe after `&&`
abbrev pub subsequents_of : UnresolvedRecipe → List UnresolvedDependency
subsequents_of r = drop r.priors r.dependencies.items

-- the tree of a recipe's header
abbrev pub header_of : UnresolvedRecipe → Header Tok Tok (Unit {0})
header_of r = record {
  quiet = r.quiet;
  name = tok_of r.name.token;
  parameters = map parameter_of r.parameters.items;
  priors = map dependency_of (priors_of r);
  subsequents = map dependency_of (subsequents_of r);
}

-- the tree of a recipe
abbrev pub recipe_of : UnresolvedRecipe → RecipeParts Tok Tok ℕ (Unit {0})
recipe_of r = record { doc = option_map string_bytes r.doc; header = header_of r; comment = option_copied r.comment; body = map body_line_of r.body.items }

-- the tree of an item
abbrev pub item_of : Item → OrderedItem Tok Tok ℕ
item_of (items.Alias a) = tree.Construct (entries_of a.attributes) (tree.Alias (alias_of a))
item_of (items.Assignment a) = tree.Construct (entries_of a.attributes) (tree.Assignment (assignment_of a))
item_of (items.Comment text) = tree.Comment text.now
item_of (items.Function f) = tree.Construct (entries_of f.attributes) (tree.Function (function_of f))
item_of (items.Import attributes optional relative) = tree.Construct (entries_of attributes) (tree.Import (import_of optional relative))
item_of (items.Module attributes doc name optional relative) = tree.Construct (entries_of attributes) (tree.Module (module_of doc name optional relative))
item_of items.Newline = tree.Newline
item_of (items.Recipe r) = tree.Construct (entries_of r.attributes) (tree.Recipe (recipe_of r))
item_of (items.Setting s) = tree.Construct (entries_of s.attributes) (tree.Setting (setting_of s))
item_of (items.Unexport attributes name) = tree.Construct (entries_of attributes) (tree.Unexport (tok_of name.token))

-- whether an item's attributes enable it on this system
abbrev pub is_item_enabled : Item → Bool
is_item_enabled (items.Alias a) = are_enabled (attributes_of a.attributes)
is_item_enabled (items.Assignment a) = are_enabled (attributes_of a.attributes)
is_item_enabled (items.Comment text) = true
is_item_enabled (items.Function f) = are_enabled (attributes_of f.attributes)
is_item_enabled (items.Import attributes optional relative) = are_enabled (attributes_of attributes)
is_item_enabled (items.Module attributes doc name optional relative) = are_enabled (attributes_of attributes)
is_item_enabled items.Newline = true
is_item_enabled (items.Recipe r) = are_enabled (attributes_of r.attributes)
is_item_enabled (items.Setting s) = are_enabled (attributes_of s.attributes)
is_item_enabled (items.Unexport attributes name) = are_enabled (attributes_of attributes)

-- the shape of an alias: its tree with lexemes in place of tokens
abbrev pub alias_shape : Alias Namepath → AliasParts (List ℕ)
alias_shape a = over_alias {B = Tok} lexeme nothing (alias_of a)

-- the shape of an assignment
abbrev pub assignment_shape : Binding Expression → AssignmentParts (List ℕ) (Unit {0})
assignment_shape a = over_assignment lexeme nothing (assignment_of a)

-- the shape of a function
abbrev pub function_shape : FunctionDefinition → FunctionParts (List ℕ) (Unit {0})
function_shape f = over_function lexeme nothing (function_of f)

-- the shape of an import
abbrev pub import_shape : (optional : Bool) (relative : StringLiteral) → ImportParts (List ℕ)
import_shape optional relative = over_import {B = Tok} lexeme nothing (import_of optional relative)

-- the shape of a module
abbrev pub module_shape : (doc : Option (String Global)) (name : Name) (optional : Bool) (relative : Option StringLiteral) → ModuleParts (List ℕ)
module_shape doc name optional relative = over_module {B = Tok} lexeme nothing (module_of doc name optional relative)

-- the shape of a setting
abbrev pub setting_shape : Set → SettingParts (List ℕ) (Unit {0})
setting_shape s = over_setting lexeme nothing (setting_of s)

-- the shape of a recipe's header
abbrev pub header_shape : UnresolvedRecipe → Header (List ℕ) (Unit {0}) (Unit {0})
header_shape r = over_header lexeme nothing (λ star. star) (header_of r)

-- the shape of a recipe
abbrev pub recipe_shape : UnresolvedRecipe → RecipeParts (List ℕ) (Unit {0}) (Unit {0}) (Unit {0})
recipe_shape r = over_recipe lexeme nothing nothing (λ star. star) (recipe_of r)

-- the shape of an item
abbrev pub item_shape : Item → OrderedItem (List ℕ) (Unit {0}) (Unit {0})
item_shape i = item_shape_of (item_of i)

-- the texts of the literals of a recipe's header, in order
abbrev pub header_cooked : UnresolvedRecipe → List (List ℕ)
header_cooked r = flat_map parameter_cooked r.parameters.items ++ flat_map dependency_cooked (priors_of r) ++ flat_map dependency_cooked (subsequents_of r)

-- the texts of an item's literals, in order
abbrev pub item_cooked : Item → List (List ℕ)
item_cooked (items.Alias a) = attributes_cooked a.attributes
item_cooked (items.Assignment a) = attributes_cooked a.attributes ++ expr_cooked a.value
item_cooked (items.Comment text) = []
item_cooked (items.Function f) = attributes_cooked f.attributes ++ expr_cooked f.body
item_cooked (items.Import attributes _ relative) = attributes_cooked attributes ++ literal_cooked relative
item_cooked (items.Module attributes _ _ _ relative) = attributes_cooked attributes ++ optional literal_cooked relative
item_cooked items.Newline = []
item_cooked (items.Recipe r) = attributes_cooked r.attributes ++ header_cooked r ++ flat_map line_cooked r.body.items
item_cooked (items.Setting s) = attributes_cooked s.attributes ++ setting_cooked s.value
item_cooked (items.Unexport attributes name) = attributes_cooked attributes

-- the number of a parameter
abbrev pub parameter_number : Parameter → ℕ
parameter_number p = p.number.0

-- the number of a function's parameter
abbrev pub function_parameter_number : Name × Number → ℕ
function_parameter_number p = p.1.0

-- the numbers of the bindings in an item, in order; for a recipe or a function, those of its parameters
abbrev pub item_numbers : Item → List ℕ
item_numbers (items.Alias a) = []
item_numbers (items.Assignment a) = a.number.0 ∷ []
item_numbers (items.Comment text) = []
item_numbers (items.Function f) = map function_parameter_number f.parameters.items
item_numbers (items.Import attributes optional relative) = []
item_numbers (items.Module attributes doc name optional relative) = []
item_numbers items.Newline = []
item_numbers (items.Recipe r) = map parameter_number r.parameters.items
item_numbers (items.Setting s) = []
item_numbers (items.Unexport attributes name) = []

-- the number of a recipe, or nothing for other items
abbrev pub item_recipe_numbers : Item → List ℕ
item_recipe_numbers (items.Alias a) = []
item_recipe_numbers (items.Assignment a) = []
item_recipe_numbers (items.Comment text) = []
item_recipe_numbers (items.Function f) = []
item_recipe_numbers (items.Import attributes optional relative) = []
item_recipe_numbers (items.Module attributes doc name optional relative) = []
item_recipe_numbers items.Newline = []
item_recipe_numbers (items.Recipe r) = r.number.0 ∷ []
item_recipe_numbers (items.Setting s) = []
item_recipe_numbers (items.Unexport attributes name) = []
