-- The trees of parameters and dependencies, and their texts.
use Rattle.std.specs.Prelude.{ℕ, Bool, true, false, List, [], ◌++◌, map, codes, Option, None, Some}
use Rattle.std.specs.List.{flat_map, list_any}
use Rattle.std.specs.Option.{option_map}
use Rattle.justfile_token.specs.Name.{name_text}
use Rattle.justfile_token.specs.Namepath.{names_in, namepath_text}
use Rattle.justfile_token.specs.Path.{path_text}
use Rattle.justfile_token.specs.declared.name.Name.{Name}
use Rattle.justfile_model.specs.Printed.Printing as printing
use Rattle.justfile_model.specs.Printed.Printing.{fixed_text, if_some}
use Rattle.justfile_model.specs.Lexing.Tok.{Tok, tok_of}
use Rattle.justfile_model.specs.Trees.Tree as tree
use Rattle.justfile_model.specs.Trees.Tree.{over_dependency, over_parameter, lexeme, nothing}
use Rattle.justfile_expression.specs.Expression.{expr_of, expr_cooked}
use Rattle.justfile_expression.specs.Text.{text_of}
use Rattle.justfile_expression.specs.declared.expression.Expression.{Expression}
use Rattle.justfile_recipe_header.specs.declared.parameter.Parameter.{Parameter}
use Rattle.justfile_recipe_header.specs.declared.unresolved_dependency.DependencyArgument.{DependencyArgument}
use Rattle.justfile_recipe_header.specs.declared.unresolved_dependency.UnresolvedDependency.{UnresolvedDependency}

-- the tree of a parameter
abbrev pub parameter_of : Parameter → tree.Parameter Tok Tok
parameter_of p = record { kind = p.kind; export = p.export; name = tok_of p.name.token; default = option_map expr_of p.default }

-- an optional star in a tree, from whether there is one
abbrev pub star_of : (starred : Bool) → Option (Unit {0})
star_of true = Some tt
star_of false = None

-- the tree of an argument
abbrev pub dependency_argument_of : DependencyArgument → tree.DependencyArgument Tok Tok (Unit {0})
dependency_argument_of a = record { star = star_of a.starred; value = expr_of a.expression }

-- whether any of the arguments is starred
abbrev pub is_starred : UnresolvedDependency → Bool
is_starred d = list_any (λ argument. argument.starred) d.arguments.items

-- the token of a name
abbrev pub name_of : Name → Tok
name_of name = tok_of name.token

-- the tree of a dependency
abbrev pub dependency_of : UnresolvedDependency → tree.Dependency Tok Tok (Unit {0})
dependency_of d = record { star = star_of (is_starred d); path = map name_of (names_in d.recipe); arguments = map dependency_argument_of d.arguments.items }

-- the shape of a parameter: its tree with lexemes in place of tokens
abbrev pub parameter_shape : Parameter → tree.Parameter (List ℕ) (Unit {0})
parameter_shape p = over_parameter lexeme nothing (parameter_of p)

-- the shapes of parameters
abbrev pub parameter_shapes : List Parameter → List (tree.Parameter (List ℕ) (Unit {0}))
parameter_shapes parameters = map (over_parameter lexeme nothing) (map parameter_of parameters)

-- the shape of a dependency
abbrev pub dependency_shape : UnresolvedDependency → tree.Dependency (List ℕ) (Unit {0}) (Unit {0})
dependency_shape d = over_dependency lexeme nothing (λ star. star) (dependency_of d)

-- the shapes of dependencies
abbrev pub dependency_shapes : List UnresolvedDependency → List (tree.Dependency (List ℕ) (Unit {0}) (Unit {0}))
dependency_shapes dependencies = map (over_dependency lexeme nothing (λ star. star)) (map dependency_of dependencies)

-- the default of a parameter with `=` before it, or nothing if there is none
abbrev pub default_text : Option Expression → List ℕ
default_text default = if_some (λ e. fixed_text (codes "=") ++ printing.expr_text e) (option_map (tree.over_expr lexeme nothing) (option_map expr_of default))

-- the text of a parameter
abbrev pub parameter_text_of : Parameter → List ℕ
parameter_text_of p = printing.parameter_text (parameter_shape p)

-- the texts of parameters, each after a space
abbrev pub parameters_text : List Parameter → List ℕ
parameters_text parameters = flat_map (λ p. fixed_text (codes " ") ++ printing.parameter_text p) (parameter_shapes parameters)

-- the `*` of a starred argument or dependency
abbrev pub star_text : (starred : Bool) → List ℕ
star_text starred = if_some (λ star. fixed_text (codes "*")) (option_map (λ star. star) (star_of starred))

-- the text of an argument, without the space before it
abbrev pub argument_text : DependencyArgument → List ℕ
argument_text a = star_text a.starred ++ text_of a.expression

-- names with `::` between them
abbrev pub names_text : List Name → List ℕ
names_text names = path_text (map name_text names)

-- a dependency with its arguments, in parentheses
abbrev pub call_text : UnresolvedDependency → List ℕ
call_text d =
    star_text (is_starred d) ++ fixed_text (codes "(") ++ namepath_text d.recipe ++ flat_map (λ a. fixed_text (codes " ") ++ argument_text a) d.arguments.items
    ++ fixed_text (codes ")")

-- the text of a dependency
abbrev pub dependency_text_of : UnresolvedDependency → List ℕ
dependency_text_of d = printing.dependency_text (dependency_shape d)

-- the texts of dependencies, each after a space
abbrev pub dependencies_text : List UnresolvedDependency → List ℕ
dependencies_text dependencies = flat_map (λ d. fixed_text (codes " ") ++ printing.dependency_text d) (dependency_shapes dependencies)

-- the text of the dependencies that run after a recipe, with `&&` before them
abbrev pub subsequents_text_of : List UnresolvedDependency → List ℕ
subsequents_text_of subsequents = printing.subsequents_text (dependency_shapes subsequents)

-- the texts of the literals of an optional expression, in order
abbrev pub default_cooked : Option Expression → List (List ℕ)
default_cooked None = []
default_cooked (Some e) = expr_cooked e

-- the texts of a parameter's literals, in order
abbrev pub parameter_cooked : Parameter → List (List ℕ)
parameter_cooked p = default_cooked p.default

-- the texts of the literals of an argument, in order
abbrev pub argument_cooked : DependencyArgument → List (List ℕ)
argument_cooked a = expr_cooked a.expression

-- the texts of a dependency's literals, in order
abbrev pub dependency_cooked : UnresolvedDependency → List (List ℕ)
dependency_cooked d = flat_map argument_cooked d.arguments.items
