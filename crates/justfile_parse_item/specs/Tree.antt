-- The trees of items, with all that the parser's trees hold except where boxes are.
use Rattle.std.specs.Prelude.{ℕ, Bool, List, Option, Some, None, drop, map, string_bytes, take}
use Rattle.std.specs.Option.{option_copied, option_map}
use Rattle.justfile_attribute_set.specs.AttributeSet.{leaf_entries_of}
use Rattle.justfile_token.specs.declared.name.Name.{Name}
use Rattle.justfile_token.specs.declared.namepath.Namepath.{Namepath}
use Rattle.justfile_numbers.specs.declared.number.Number.{Number}
use Rattle.justfile_token.specs.declared.string_literal.StringLiteral as literals
use Rattle.justfile_attribute_set.specs.AttributeSet.{AttributeSet}
use Rattle.justfile_item.specs.declared.alias.Alias.{Alias}
use Rattle.justfile_item.specs.declared.binding.Binding.{Binding}
use Rattle.justfile_item.specs.declared.function_definition.FunctionDefinition.{FunctionDefinition}
use Rattle.justfile_item.specs.declared.item.Item as item
use Rattle.justfile_item.specs.declared.item.Item.TheVariants as items
use Rattle.justfile_item.specs.declared.recipe.UnresolvedRecipe.{UnresolvedRecipe}
use Rattle.justfile_item.specs.declared.set.Set.{Set}
use Rattle.justfile_token.specs.declared.token.Token.{Token}
use Rattle.justfile_model.specs.Trees.Tree as tree
use Rattle.justfile_model.specs.Trees.Tree.{OrderedItem, Quoted, assignment_of}
use Rattle.justfile_attribute_rules.specs.Made.{quoted_leaf}
use Rattle.justfile_parse_item_parts.specs.BodyTrees.{line_tree}
pub use Rattle.justfile_parse_item_parts.specs.Parts.{numbered_leaf}
use Rattle.justfile_parse_header.specs.Tree.{dependency_tree, parameter_tree}
use Rattle.justfile_parse_base.specs.Trees.{name_tree, path_tree}
use Rattle.justfile_setting.specs.LeafSetting.{leaf_value_of}
use Rattle.justfile_setting.specs.Setting.{keyword_of}
use Rattle.justfile_expression.specs.LeafTree.{AssignmentName, RecipeName, Leaf, Assigned, Headed, Literal, Named, leaf_tree_of, literal_of}
use Rattle.justfile_expression.specs.declared.expression.Expression.{Expression}

abbrev pub assignment_name : Binding Expression → AssignmentName
assignment_name a = record { file_depth = a.file_depth; name = a.name.token; number = a.number; prelude = a.prelude }

abbrev pub assignment_tree : Binding Expression → OrderedItem Leaf Token ℕ
assignment_tree a = tree.Construct (leaf_entries_of a.attributes) (tree.Assignment (assignment_of a.eager a.export (Assigned (assignment_name a)) (leaf_tree_of a.value)))

abbrev pub alias_tree : Alias Namepath → OrderedItem Leaf Token ℕ
alias_tree a = tree.Construct (leaf_entries_of a.attributes) (tree.Alias (record { name = name_tree a.name; target = path_tree a.target }))

abbrev pub function_tree : FunctionDefinition → OrderedItem Leaf Token ℕ
function_tree f =
    tree.Construct (leaf_entries_of f.attributes) (tree.Function (record { name = name_tree f.name; parameters = map numbered_leaf f.parameters.items; body = leaf_tree_of f.body }))

abbrev pub import_tree : AttributeSet → (optional : Bool) → literals.StringLiteral → OrderedItem Leaf Token ℕ
import_tree attributes optional relative = tree.Construct (leaf_entries_of attributes) (tree.Import (record { optional = optional; path = quoted_leaf relative }))

abbrev pub module_tree : AttributeSet → (doc : Option (List ℕ)) (name : Name) (optional : Bool) → Option literals.StringLiteral → OrderedItem Leaf Token ℕ
module_tree attributes doc name optional relative =
    tree.Construct (leaf_entries_of attributes) (tree.Module (record { doc = doc; optional = optional; name = name_tree name; path = option_map quoted_leaf relative }))

abbrev pub set_tree : Set → OrderedItem Leaf Token ℕ
set_tree s = tree.Construct (leaf_entries_of s.attributes) (tree.Setting (record { keyword = keyword_of s.value; name = name_tree s.name; value = leaf_value_of s.value }))

abbrev pub unexport_tree : AttributeSet → Name → OrderedItem Leaf Token ℕ
unexport_tree attributes name = tree.Construct (leaf_entries_of attributes) (tree.Unexport (name_tree name))

abbrev pub recipe_name : UnresolvedRecipe → RecipeName
recipe_name r = record { file_depth = r.file_depth; import_offsets = r.import_offsets.items; name = r.name.token; number = r.number }

-- the doc of a recipe, as text
abbrev pub doc_text : UnresolvedRecipe → Option (List ℕ)
doc_text r = option_map string_bytes r.doc

abbrev pub recipe_header : UnresolvedRecipe → tree.Header Leaf Token (Unit {0})
recipe_header r = record {
  quiet = r.quiet;
  name = Headed (recipe_name r);
  parameters = map parameter_tree r.parameters.items;
  priors = map dependency_tree (take r.priors r.dependencies.items);
  subsequents = map dependency_tree (drop r.priors r.dependencies.items);
}

abbrev pub recipe_tree : UnresolvedRecipe → OrderedItem Leaf Token ℕ
recipe_tree r = tree.Construct (leaf_entries_of r.attributes) (tree.Recipe (record { doc = doc_text r; header = recipe_header r; comment = option_copied r.comment; body = map line_tree r.body.items }))

abbrev pub item_tree : item.Item → OrderedItem Leaf Token ℕ
item_tree (items.Alias a) = alias_tree a
item_tree (items.Assignment a) = assignment_tree a
item_tree (items.Comment text) = tree.Comment text.now
item_tree (items.Function f) = function_tree f
item_tree (items.Import attributes optional relative) = import_tree attributes optional relative
item_tree (items.Module attributes doc name optional relative) = module_tree attributes (option_map string_bytes doc) name optional relative
item_tree items.Newline = tree.Newline
item_tree (items.Recipe r) = recipe_tree r
item_tree (items.Setting s) = set_tree s
item_tree (items.Unexport attributes name) = unexport_tree attributes name
