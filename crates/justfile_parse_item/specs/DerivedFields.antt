-- The derived fields of a construct: those that follow from its name, attributes, value and body, and what the tree doesn't show of its
-- attributes.
use Rattle.std.specs.Prelude.{◌≡◌, ◌≤◌, All, IsTrue, ◌||◌, List, codes, length, nat_eq, map}
use Rattle.std.specs.List.{starts_with}
use Rattle.justfile_attribute_set.specs.AttributeSet.{AttributeSet, attributes_of, leaf_entries_of}
use Rattle.justfile_attribute_set.specs.Attributes.{has_kind}
use Rattle.justfile_vocabulary.specs.declared.attribute_kind.AttributeKind.TheVariants as kinds
pub use Rattle.justfile_item.specs.Private.{is_private_item}
use Rattle.justfile_item.specs.declared.binding.Binding.{Binding}
use Rattle.justfile_item.specs.declared.item.Item.{Item}
use Rattle.justfile_item.specs.declared.item.Item.TheVariants.{Alias, Assignment, Comment, Function, Import, Module, Newline, Recipe, Setting, Unexport}
use Rattle.justfile_item.specs.declared.recipe.UnresolvedRecipe.{UnresolvedRecipe}
use Rattle.justfile_item.specs.declared.set.Set.{Set}
use Rattle.justfile_parse_item.specs.ItemTable.{has_shebang, in_content_order}
use Rattle.justfile_parse_item_parts.specs.BodyTrees.{line_tree}
use Rattle.justfile_parse_attribute.specs.AttributeTable.{Entries}
use Rattle.justfile_parse_attribute.specs.DerivedAttributeFields.{HaveDerivedAttributeFields}
pub use Rattle.justfile_parse_attribute.specs.DerivedAttributeFields.{HaveDerivedPairFields}
use Rattle.justfile_parse_header.specs.ArgAttribute.{HaveDerivedParameterFields}
use Rattle.justfile_parse_header.specs.Tree.{rules_of}
use Rattle.justfile_setting.specs.Setting.{HasDerivedSettingFields}
use Rattle.justfile_expression.specs.declared.expression.Expression.{Expression}

-- The derived fields of a construct's attributes are right.
abbrev pub HasDerivedSetAttributes : AttributeSet → Type 0
HasDerivedSetAttributes set = HaveDerivedAttributeFields (attributes_of set)

-- The set has the entries that were read, in the order of their contents, and the derived fields of its attributes are right.
pub record IsSetOf (read : Entries) (set : AttributeSet) : Type 0 where
  pub entries : leaf_entries_of set ≡ in_content_order read
  pub fields : HasDerivedSetAttributes set

pub record HasDerivedAssignmentFields (a : Binding Expression) : Type 0 where
  pub attributes : HasDerivedSetAttributes a.attributes
  pub private : a.private ≡ is_private_item a.name.token a.attributes

-- The derived fields of a recipe are right. It is a script if it has the attribute `script` or its first line begins with `#!`. Its
-- parameters have what its `arg` attributes set. At most all of its dependencies come before `&&`.
pub record HasDerivedRecipeFields (r : UnresolvedRecipe) : Type 0 where
  pub attributes : HasDerivedSetAttributes r.attributes
  pub parameters : HaveDerivedParameterFields (rules_of r.attributes) r.parameters.items
  pub priors : r.priors ≤ length r.dependencies.items
  pub private : r.private ≡ is_private_item r.name.token r.attributes
  pub shebang : r.shebang ≡ has_kind kinds.Script (attributes_of r.attributes) || has_shebang (map line_tree r.body.items)

pub record HasDerivedSetFields (s : Set) : Type 0 where
  pub attributes : HasDerivedSetAttributes s.attributes
  pub value : HasDerivedSettingFields s.value

-- The derived fields of an item are right. A comment begins with `#`.
abbrev pub HasDerivedItemFields : Item → Type 0
HasDerivedItemFields (Alias a) = HasDerivedSetAttributes a.attributes
HasDerivedItemFields (Assignment a) = HasDerivedAssignmentFields a
HasDerivedItemFields (Comment text) = IsTrue (starts_with nat_eq text.now (codes "#"))
HasDerivedItemFields (Function f) = HasDerivedSetAttributes f.attributes
HasDerivedItemFields (Import attributes optional relative) = HasDerivedSetAttributes attributes
HasDerivedItemFields (Module attributes doc name optional relative) = HasDerivedSetAttributes attributes
HasDerivedItemFields Newline = Unit {0}
HasDerivedItemFields (Recipe r) = HasDerivedRecipeFields r
HasDerivedItemFields (Setting s) = HasDerivedSetFields s
HasDerivedItemFields (Unexport attributes name) = HasDerivedSetAttributes attributes

-- The derived fields of all items are right.
unfoldable pub HaveDerivedFields : List Item → Type 0
HaveDerivedFields items = All HasDerivedItemFields items

-- If the derived fields of the old items are right, those of the new ones are.
unfoldable pub KeepsDerivedFields : (old new : List Item) → Type 0
KeepsDerivedFields old new = HaveDerivedFields old → HaveDerivedFields new
