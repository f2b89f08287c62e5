-- What items of several kinds have.
use Rattle.std.specs.Prelude.{ℕ, Bool, false, List, Option, None, Some, String, find, string_bytes}
use Rattle.std.specs.Global.{Global}
use Rattle.std.specs.Option.{option_map}
use Rattle.justfile_vocabulary.specs.declared.attribute_kind.AttributeKind.TheVariants.{Doc}
use Rattle.justfile_vocabulary.specs.declared.item_kind.ItemKind.{ItemKind}
use Rattle.justfile_vocabulary.specs.declared.item_kind.ItemKind.TheVariants as kinds
use Rattle.justfile_token.specs.declared.name.Name.{Name}
use Rattle.justfile_expression.specs.Parts.{string_literal_of}
use Rattle.justfile_expression.specs.declared.expression.Expression.{Expression}
use Rattle.justfile_attribute.specs.declared.attribute.Attribute.{Attribute}
use Rattle.justfile_attribute.specs.declared.attribute.Attribute.TheVariants as attributes
use Rattle.justfile_attribute_set.specs.AttributeSet.{AttributeSet, attributes_of}
use Rattle.justfile_attribute_set.specs.Attributes.{is_of_kind}
use Rattle.justfile_item.specs.Private.{is_private_item}
use Rattle.justfile_item.specs.declared.item.Item.{Item}
use Rattle.justfile_item.specs.declared.item.Item.TheVariants as items

abbrev pub item_kind : Item → ItemKind
item_kind (items.Alias a) = kinds.Alias
item_kind (items.Assignment a) = kinds.Assignment
item_kind (items.Comment text) = kinds.Comment
item_kind (items.Function f) = kinds.Function
item_kind (items.Import attributes optional relative) = kinds.Import
item_kind (items.Module attributes doc name optional relative) = kinds.Module
item_kind items.Newline = kinds.Newline
item_kind (items.Recipe r) = kinds.Recipe
item_kind (items.Setting s) = kinds.Setting
item_kind (items.Unexport attributes name) = kinds.Unexport

-- the name that an item defines, sets or removes
abbrev pub item_name : Item → Option Name
item_name (items.Alias a) = Some a.name
item_name (items.Assignment a) = Some a.name
item_name (items.Comment text) = None
item_name (items.Function f) = Some f.name
item_name (items.Import attributes optional relative) = None
item_name (items.Module attributes doc name optional relative) = Some name
item_name items.Newline = None
item_name (items.Recipe r) = Some r.name
item_name (items.Setting s) = Some s.name
item_name (items.Unexport attributes name) = Some name

-- the text of an expression that is a literal
abbrev pub literal_text_of : Expression → Option (List ℕ)
literal_text_of e = option_map (λ literal. string_bytes literal.cooked) (string_literal_of e)

-- the text of an attribute `doc`
abbrev pub attribute_doc : Attribute → Option (List ℕ)
attribute_doc (attributes.Doc (Some e)) = literal_text_of e.value
attribute_doc _ = None

-- the text of an attribute, if there is one, and otherwise that of a comment
abbrev pub doc_of : Option Attribute → (comment : Option (String Global)) → Option (List ℕ)
doc_of (Some attribute) comment = attribute_doc attribute
doc_of None comment = option_map string_bytes comment

-- the doc of a construct: that of its attribute `doc`, or else its comment
abbrev pub listed_doc : AttributeSet → (comment : Option (String Global)) → Option (List ℕ)
listed_doc set comment = doc_of (find (is_of_kind Doc) (attributes_of set)) comment

-- the doc of an item, which lists show beside it; only modules and recipes have one
abbrev pub item_doc : Item → Option (List ℕ)
item_doc (items.Module attributes doc name optional relative) = listed_doc attributes doc
item_doc (items.Recipe r) = listed_doc r.attributes r.doc
item_doc _ = None

-- whether lists omit an item: by the field of an assignment or a recipe, and by the name and the attributes of an alias, a function or a module
abbrev pub is_item_private : Item → Bool
is_item_private (items.Alias a) = is_private_item a.name.token a.attributes
is_item_private (items.Assignment a) = a.private
is_item_private (items.Comment text) = false
is_item_private (items.Function f) = is_private_item f.name.token f.attributes
is_item_private (items.Import attributes optional relative) = false
is_item_private (items.Module attributes doc name optional relative) = is_private_item name.token attributes
is_item_private items.Newline = false
is_item_private (items.Recipe r) = r.private
is_item_private (items.Setting s) = false
is_item_private (items.Unexport attributes name) = false
