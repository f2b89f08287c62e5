-- Where an item defines names.
use Rattle.std.specs.Prelude.{◌&&◌, ℕ, Bool, true, false, not, List, [], ◌∷◌, ◌++◌, Option, Some, None, cond, count_by, is_some, length}
use Rattle.std.specs.List.{flat_map, list_any}
use Rattle.justfile_builtins.specs.declared.functions.Arguments.{Arguments}
use Rattle.justfile_model.specs.declared.parameter_kind.ParameterKind.{ParameterKind}
use Rattle.justfile_model.specs.declared.parameter_kind.ParameterKind.TheVariants as parameters
use Rattle.justfile_numbers.specs.declared.number.Number.{Number}
use Rattle.justfile_vocabulary.specs.declared.attribute_kind.AttributeKind.TheVariants as attributes
use Rattle.justfile_vocabulary.specs.declared.item_kind.ItemKind.{ItemKind}
use Rattle.justfile_vocabulary.specs.declared.item_kind.ItemKind.TheVariants as kinds
use Rattle.justfile_vocabulary.specs.declared.keyword.Keyword.{Keyword}
use Rattle.justfile_token.specs.declared.name.Name.{Name}
use Rattle.justfile_problems.specs.declared.facts.Definition.{Definition}
use Rattle.justfile_problems.specs.declared.facts.Space.{Space}
use Rattle.justfile_problems.specs.declared.facts.Space.TheVariants as spaces
use Rattle.justfile_attribute_set.specs.AttributeSet.{attributes_of}
use Rattle.justfile_attribute_set.specs.Attributes.{has_kind}
use Rattle.justfile_recipe_header.specs.Parameter.{is_option, is_required}
use Rattle.justfile_recipe_header.specs.declared.parameter.Parameter.{Parameter}
use Rattle.justfile_setting.specs.Setting.{conflicts}
use Rattle.justfile_item.specs.Item.{is_item_enabled}
use Rattle.justfile_item.specs.declared.function_definition.FunctionDefinition.{FunctionDefinition}
use Rattle.justfile_item.specs.declared.item.Item.{Item}
use Rattle.justfile_item.specs.declared.item.Item.TheVariants as items
use Rattle.justfile_item.specs.declared.recipe.UnresolvedRecipe.{UnresolvedRecipe}
use Rattle.justfile_item.specs.declared.set.Set.{Set}

abbrev pub exactly : ℕ → Arguments
exactly count = record { least = count; most = Some count }

abbrev pub defined : Space → ItemKind → (item name : Name) → Arguments → Definition
defined space kind item name takes = record { space = space; kind = kind; item = item; name = name; takes = takes }

-- the name of an item that takes no arguments
abbrev pub named : Space → ItemKind → Name → Definition
named space kind name = defined space kind name name (exactly 0)

-- a parameter that a call has to pass by its place
abbrev pub is_needed : Parameter → Bool
is_needed p = is_required p && not (is_option p)

abbrev pub is_variadic : ParameterKind → Bool
is_variadic parameters.Singular = false
is_variadic other = true

abbrev pub has_variadic : List Parameter → Bool
has_variadic ps = list_any (λ p. is_variadic p.kind) ps

-- the greatest number of arguments, if there is one
abbrev pub most_of : List Parameter → Option ℕ
most_of ps = cond (has_variadic ps) None (Some (length ps))

-- the numbers of arguments of a recipe. Whether options count isn't known: the least number is without them, the greatest with them
abbrev pub arguments : List Parameter → Arguments
arguments ps = record { least = count_by is_needed ps; most = most_of ps }

-- a parameter, and again if it has a default and isn't an option
abbrev pub parameter_definitions : (recipe : Name) → Parameter → List Definition
parameter_definitions recipe p =
    defined spaces.Parameters kinds.Recipe recipe p.name (exactly 0)
    ∷ cond (is_some p.default && not (is_option p)) (defined spaces.Defaults kinds.Recipe recipe p.name (exactly 0) ∷ []) []

abbrev pub function_parameter : (function : Name) → Name × Number → List Definition
function_parameter function p = defined spaces.Parameters kinds.Function function p.0 (exactly 0) ∷ []

abbrev pub function_definitions : FunctionDefinition → List Definition
function_definitions f =
    defined spaces.Functions kinds.Function f.name f.name (exactly (length f.parameters.items))
    ∷ flat_map (function_parameter f.name) f.parameters.items

abbrev pub recipe_definitions : UnresolvedRecipe → List Definition
recipe_definitions r =
    defined spaces.Commands kinds.Recipe r.name r.name (arguments r.parameters.items)
    ∷ cond (has_kind attributes.Default (attributes_of r.attributes)) (named spaces.DefaultRecipes kinds.Recipe r.name ∷ []) []
    ++ flat_map (parameter_definitions r.name) r.parameters.items

-- a setting again, if it excludes other ones
abbrev pub exclusive : Name → List Keyword → List Definition
exclusive name [] = []
exclusive name (other ∷ others) = named spaces.ExclusiveSettings kinds.Setting name ∷ []

abbrev pub setting_definitions : Set → List Definition
setting_definitions s = named spaces.Settings kinds.Setting s.name ∷ exclusive s.name (conflicts s.value)

-- the set of names of a module: one whose file need not exist may be none
abbrev pub module_space : (optional : Bool) → Space
module_space optional = cond optional spaces.HiddenCommands spaces.Commands

-- what an item defines that is enabled
abbrev pub enabled_definitions : Item → List Definition
enabled_definitions (items.Alias a) = named spaces.Commands kinds.Alias a.name ∷ []
enabled_definitions (items.Assignment a) = named spaces.Variables kinds.Assignment a.name ∷ []
enabled_definitions (items.Comment text) = []
enabled_definitions (items.Function f) = function_definitions f
enabled_definitions (items.Import attributes optional relative) = []
enabled_definitions (items.Module attributes doc name optional relative) = named (module_space optional) kinds.Module name ∷ []
enabled_definitions items.Newline = []
enabled_definitions (items.Recipe r) = recipe_definitions r
enabled_definitions (items.Setting s) = setting_definitions s
enabled_definitions (items.Unexport attributes name) = named spaces.Unexports kinds.Unexport name ∷ []

-- what an item for another system may define
abbrev pub hidden_definitions : Item → List Definition
hidden_definitions (items.Alias a) = named spaces.HiddenCommands kinds.Alias a.name ∷ []
hidden_definitions (items.Assignment a) = named spaces.HiddenVariables kinds.Assignment a.name ∷ []
hidden_definitions (items.Function f) = named spaces.HiddenFunctions kinds.Function f.name ∷ []
hidden_definitions (items.Module attributes doc name optional relative) = named spaces.HiddenCommands kinds.Module name ∷ []
hidden_definitions (items.Recipe r) = named spaces.HiddenCommands kinds.Recipe r.name ∷ []
hidden_definitions other = []

-- what an item defines
abbrev pub item_definitions : Item → List Definition
item_definitions i = cond (is_item_enabled i) (enabled_definitions i) (hidden_definitions i)
