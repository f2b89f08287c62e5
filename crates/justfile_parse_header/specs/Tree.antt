-- The trees of headers, with all that the parser's trees hold except where boxes are.
use Rattle.std.specs.Prelude.{List, map, take, drop, Option, Some, None}
use Rattle.std.specs.Global.{Box}
use Rattle.std.specs.Option.{option_map}
use Rattle.justfile_attribute_set.specs.AttributeSet.{AttributeSet, leaf_entries_of}
use Rattle.justfile_token.specs.Namepath.{names_in}
use Rattle.justfile_token.specs.declared.name.Name.{Name}
use Rattle.justfile_token.specs.declared.namepath.Namepath.{Namepath}
use Rattle.justfile_token.specs.declared.token.Token.{Token}
use Rattle.justfile_recipe_header.specs.declared.unresolved_dependency.DependencyArgument as header_arguments
use Rattle.justfile_recipe_header.specs.Header.{is_starred, star_of}
use Rattle.justfile_recipe_header.specs.declared.unresolved_dependency.UnresolvedDependency.{UnresolvedDependency}
use Rattle.justfile_recipe_header.specs.declared.parameter.Parameter as header_parameters
use Rattle.justfile_model.specs.Meanings.AttributeRules.{arg_rules}
use Rattle.justfile_model.specs.Trees.Tree as tree
use Rattle.justfile_model.specs.Trees.Tree.{Expr}
use Rattle.justfile_parse_header.specs.HeaderTable as reader
use Rattle.justfile_parse_base.specs.Trees.{path_tree}
use Rattle.justfile_parse_header.specs.declared.dependency.ReadArgument.{ReadArgument}
use Rattle.justfile_parse_header.specs.declared.header.Header.{Header}
use Rattle.justfile_expression.specs.LeafTree.{Leaf, Named, leaf_tree_of}
use Rattle.justfile_expression.specs.declared.expression.Expression.{Expression}

-- an expression in a box, which may be absent
abbrev pub value_tree : Option (Box Expression) → Option (Expr Leaf Token)
value_tree value = option_map (λ (e : Box Expression). leaf_tree_of e.value) value

-- ---- dependencies

-- an argument with its star, while the arguments are read
abbrev pub read_argument : ReadArgument → reader.StarredArgument
read_argument a = record { star = a.star; value = leaf_tree_of a.value.value }

abbrev pub argument_tree : header_arguments.DependencyArgument → tree.DependencyArgument Leaf Token (Unit {0})
argument_tree a = record { star = star_of a.starred; value = leaf_tree_of a.expression }

abbrev pub dependency_tree : UnresolvedDependency → reader.LeafDependency
dependency_tree d = record { star = star_of (is_starred d); path = path_tree d.recipe; arguments = map argument_tree d.arguments.items }

-- ---- parameters

-- the name of a parameter, with its number
abbrev pub parameter_name : header_parameters.Parameter → Leaf
parameter_name p = Named p.name.token (Some p.number)

abbrev pub parameter_tree : header_parameters.Parameter → reader.LeafParameter
parameter_tree p = record { kind = p.kind; export = p.export; name = parameter_name p; default = option_map leaf_tree_of p.default }

-- what a construct's `arg` attributes set for parameters
abbrev pub rules_of : AttributeSet → List reader.Rules
rules_of attributes = arg_rules (leaf_entries_of attributes)

-- ---- headers

-- a header, its dependencies split into those before `&&` and those after it
abbrev pub header_tree : Header → reader.LeafHeader
header_tree h = record {
  name = h.name;
  parameters = map parameter_tree h.parameters.items;
  priors = map dependency_tree (take h.priors h.dependencies.items);
  subsequents = map dependency_tree (drop h.priors h.dependencies.items);
}
