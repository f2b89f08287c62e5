-- Where an item uses names.
use Rattle.std.specs.Prelude.{ℕ, Bool, true, false, List, [], ◌∷◌, ◌++◌, Option, Some, None, cond, length, nat_lt}
use Rattle.std.specs.List.{flat_map, list_any}
use Rattle.justfile_vocabulary.specs.declared.keyword.Keyword.{Keyword}
use Rattle.justfile_token.specs.Namepath.{names_in}
use Rattle.justfile_token.specs.declared.name.Name.{Name}
use Rattle.justfile_token.specs.declared.namepath.Namepath.{Namepath}
use Rattle.justfile_token.specs.declared.token.Token.{Token}
use Rattle.justfile_expression.specs.declared.expression.Expression.{Expression, And', Assert', Backtick, Call', Comparison', Concatenation', Conditional', FormatString', Group', Join', List', ListConcatenation', Not', Or', StringLiteral, Variable, items-the_row-Expression}
use Rattle.justfile_problems.specs.declared.facts.Role.{Role}
use Rattle.justfile_problems.specs.declared.facts.Role.TheVariants as roles
use Rattle.justfile_problems.specs.declared.facts.Use.{Use}
use Rattle.justfile_recipe_header.specs.declared.parameter.Parameter.{Parameter}
use Rattle.justfile_recipe_header.specs.declared.unresolved_dependency.UnresolvedDependency.{UnresolvedDependency}
use Rattle.justfile_setting.specs.Setting.{conflicts, keyword_of}
use Rattle.justfile_item.specs.AllExpressions.{all_expressions}
use Rattle.justfile_item.specs.Item.{is_item_enabled}
use Rattle.justfile_item.specs.declared.item.Item.{Item}
use Rattle.justfile_item.specs.declared.item.Item.TheVariants as items
use Rattle.justfile_item.specs.declared.recipe.UnresolvedRecipe.{UnresolvedRecipe}
use Rattle.justfile_item.specs.declared.set.Set.{Set}
use Rattle.justfile_facts.specs.Definitions.{is_needed}
use Rattle.justfile_references.specs.Defaults.{defaults_of}
use Rattle.justfile_facts.specs.Scopes.{end_at, is_comment}

abbrev pub used : Role → (item name : Name) → (commented : Bool) → Use
used role item name commented = record { role = role; item = item; name = name; commented = commented }

-- the use of an item of the same file: its path is a name alone
abbrev pub single : Role → (item : Name) → List Name → List Use
single role item [] = []
single role item (name ∷ []) = used role item name false ∷ []
single role item (name ∷ other ∷ others) = []

-- a use that isn't in an attribute: these are before the name of the item
abbrev pub behind : Use → List Use
behind u = cond (nat_lt u.name.token.offset u.item.token.offset) [] (u ∷ [])

-- the variable or the function that an expression names itself, where `end` is the end of what is seen at a token
module _ (item : Name) (commented : Bool) (end : Token → Option ℕ) where
  abbrev pub expression_uses : Expression → List Use
  expression_uses (Call' name n arguments) = behind (used (roles.Function (length (items-the_row-Expression _ arguments))) item name commented)
  expression_uses (Variable name number) = behind (used (roles.Variable (end name.token)) item name commented)
  expression_uses (And' p lhs q rhs) = []
  expression_uses (Assert' p condition message name) = []
  expression_uses (Backtick contents token) = []
  expression_uses (Comparison' p lhs operator q rhs token) = []
  expression_uses (Concatenation' p lhs operator q rhs) = []
  expression_uses (Conditional' p condition q branch otherwise) = []
  expression_uses (FormatString' first n expressions) = []
  expression_uses (Group' p contents) = []
  expression_uses (Join' lhs operator q rhs) = []
  expression_uses (List' n row opener) = []
  expression_uses (ListConcatenation' p lhs operator q rhs) = []
  expression_uses (Not' p operand) = []
  expression_uses (Or' p lhs q rhs) = []
  expression_uses (StringLiteral literal) = []

-- an assignment that is exported
abbrev pub export_uses : (export : Bool) → Name → List Use
export_uses export name = cond export (used roles.Export name name false ∷ []) []

abbrev pub dependency_uses : (recipe : Name) → UnresolvedDependency → List Use
dependency_uses recipe d = single (roles.Dependency (length d.arguments.items)) recipe (names_in d.recipe)

abbrev pub parameter_uses : (recipe : Name) → Parameter → List Use
parameter_uses recipe p = cond (is_needed p) (used roles.Required recipe p.name false ∷ []) []

abbrev pub conflict_uses : Set → (other : Keyword) → List Use
conflict_uses s other = used (roles.Exclusive (keyword_of s.value) other) s.name s.name false ∷ []

-- the uses in all expressions of an item, at every depth
abbrev pub inner_uses : Item → (item : Name) → (commented : Bool) → List Parameter → List Use
inner_uses i item commented parameters = flat_map (expression_uses item commented (end_at (defaults_of i) parameters)) (all_expressions i)

abbrev pub recipe_uses : Item → UnresolvedRecipe → List Use
recipe_uses i r =
    flat_map (parameter_uses r.name) r.parameters.items ++ flat_map (dependency_uses r.name) r.dependencies.items
    ++ inner_uses i r.name (list_any is_comment r.body.items) r.parameters.items

-- those of an item whose parameters have no defaults
abbrev pub plain_uses : Item → (item : Name) → List Use
plain_uses i item = inner_uses i item false []

abbrev pub assignment_uses : Item → (export : Bool) → Name → List Use
assignment_uses i export name = export_uses export name ++ plain_uses i name

abbrev pub setting_uses : Item → Set → List Use
setting_uses i s = flat_map (conflict_uses s) (conflicts s.value) ++ plain_uses i s.name

-- where an item uses names that is enabled
abbrev pub enabled_uses : Item → List Use
enabled_uses (items.Alias a) = single roles.Target a.name (names_in a.target)
enabled_uses (items.Assignment a) = assignment_uses (items.Assignment a) a.export a.name
enabled_uses (items.Function f) = plain_uses (items.Function f) f.name
enabled_uses (items.Recipe r) = recipe_uses (items.Recipe r) r
enabled_uses (items.Setting s) = setting_uses (items.Setting s) s
enabled_uses other = []

abbrev pub item_uses : Item → List Use
item_uses i = cond (is_item_enabled i) (enabled_uses i) []
