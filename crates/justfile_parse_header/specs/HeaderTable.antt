-- The reader of the headers in a table, whose trees hold all that the parser's trees hold.
use Rattle.std.specs.Prelude.{ℕ, Bool, true, false, List, [], ◌∷◌, ◌++◌, map, Option, Some, None}
use Rattle.std.specs.Option.{option_map}
use Rattle.justfile_token.specs.declared.token.Token.{Token}
use Rattle.justfile_model.specs.Readers.HeaderReader as headers
use Rattle.justfile_model.specs.Readers.ReaderState.{Counters}
use Rattle.justfile_model.specs.Meanings.RecipeRules.{misplaced_broken, options_broken, parameter_broken, second_broken, stars, undefined_broken}
use Rattle.justfile_model.specs.Meanings.Rules.{Broken}
use Rattle.justfile_model.specs.Trees.Tree as tree
use Rattle.justfile_model.specs.Trees.Tree.{ArgumentRules, Dependency, Expr, Parameter}
use Rattle.justfile_model.specs.declared.parameter_kind.ParameterKind.{ParameterKind}
use Rattle.justfile_parse_base.specs.SharedTable.{view_of}
pub use Rattle.justfile_parse_base.specs.SharedTable.{next_binding_number, path, path_rest}
use Rattle.justfile_parse_expression.specs.TableReader.{Read, State, leaves}
use Rattle.justfile_parse_expression.specs.Significant.{TableToken}
use Rattle.justfile_expression.specs.LeafViews.{views_leaves}
use Rattle.justfile_expression.specs.LeafTree.{Leaf}

abbrev pub Rules : Type 0
Rules = ArgumentRules Leaf Token

abbrev pub LeafParameter : Type 0
LeafParameter = Parameter Leaf Token

abbrev pub LeafDependency : Type 0
LeafDependency = Dependency Leaf Token (Unit {0})

-- an argument of a dependency with its star, while the arguments are read
abbrev pub StarredArgument : Type 0
StarredArgument = tree.DependencyArgument Leaf Token TableToken

abbrev pub LeafHeader : Type 0
LeafHeader = headers.ReadHeader TableToken Leaf Token (Unit {0})

-- ---- dependencies

abbrev pub dependency_argument : (before : List StarredArgument) → State → Read StarredArgument
dependency_argument = headers.dependency_argument leaves

abbrev pub plain_argument : State → Read StarredArgument
plain_argument = headers.plain_argument leaves

abbrev pub starred_argument : (before : List StarredArgument) (star : TableToken) → State → Read StarredArgument
starred_argument = headers.starred_argument leaves

abbrev pub dependency_arguments : List StarredArgument × State → Read (List StarredArgument)
dependency_arguments = headers.dependency_arguments leaves

-- the second element, or the first if one was found before
abbrev pub second_from : {X : Type 0} → (found : Bool) → List X → Option X
second_from found [] = None
second_from false (x ∷ xs) = second_from true xs
second_from true (x ∷ xs) = Some x

-- the rule that a second star breaks
abbrev pub second_star : (before : List StarredArgument) (star : TableToken) → List (Broken Token)
second_star before star = second_broken (map leaves.position (stars before ++ star ∷ []))

-- the rule that a star without its counterpart breaks
abbrev pub misplaced_star : (star : Option TableToken) → List StarredArgument → List (Broken Token)
misplaced_star star arguments = misplaced_broken (option_map leaves.position star) (map leaves.position (stars arguments))

abbrev pub parenthesized : (star : Option TableToken) → State → Read LeafDependency
parenthesized = headers.parenthesized leaves

abbrev pub bare_dependency : State → Read LeafDependency
bare_dependency = headers.bare_dependency leaves

abbrev pub dependency : State → Read LeafDependency
dependency = headers.dependency leaves

abbrev pub begins_dependency : State → Bool
begins_dependency = headers.begins_dependency leaves

abbrev pub dependencies : State → Read (List LeafDependency)
dependencies = headers.dependencies leaves

abbrev pub subsequents : State → Read (List LeafDependency)
subsequents = headers.subsequents leaves

-- ---- parameters

abbrev pub default_value : State → Read (Option (Expr Leaf Token))
default_value = headers.default_value leaves

abbrev pub begins_parameter : State → Bool
begins_parameter = headers.begins_parameter leaves

abbrev pub expect_no_name : State → Read (Unit {0})
expect_no_name = headers.expect_no_name leaves

-- parameters, and the counters after them
abbrev pub Parameters : Type 0
Parameters = List LeafParameter × Counters

-- the rules that a parameter breaks after those in `before`
abbrev pub broken_by : List Rules → (before : List LeafParameter) → LeafParameter → List (Broken Token)
broken_by rules before p = parameter_broken views_leaves rules before p

abbrev pub named_parameter : List Rules → ParameterKind → (export : Bool) → Parameters → State → Read Parameters
named_parameter = headers.named_parameter leaves view_of

abbrev pub parameter : List Rules → ParameterKind → Parameters × State → Read Parameters
parameter = headers.parameter leaves view_of

abbrev pub singulars : List Rules → Parameters × State → Read Parameters
singulars = headers.singulars leaves view_of

abbrev pub variadic : List Rules → ParameterKind → Parameters × State → Read Parameters
variadic = headers.variadic leaves view_of

abbrev pub last_parameter : List Rules → Parameters × State → Read Parameters
last_parameter = headers.last_parameter leaves view_of

abbrev pub parameters : List Rules → Counters → State → Read Parameters
parameters = headers.parameters leaves view_of

-- ---- headers

-- the rules that options of a recipe with the same name break
abbrev pub same_options : (recipe : Token) → List Rules → List (Broken Token)
same_options recipe rules = options_broken views_leaves recipe rules

-- the rule that `arg` attributes break if they name no parameter
abbrev pub undefined : List LeafParameter → List Rules → List (Broken Token)
undefined parameters rules = undefined_broken views_leaves parameters rules

abbrev pub header : List Rules → Counters → State → Read (LeafHeader × Counters)
header = headers.header leaves view_of
