-- The texts of items, from those of their parts.
use Rattle.std.specs.Prelude.{ℕ, Bool, List, [], ◌++◌, map, codes, Option, None, Some}
use Rattle.std.specs.List.{flat_map}
use Rattle.justfile_token.specs.Token.{lexeme_of}
use Rattle.justfile_token.specs.declared.name.Name.{Name}
use Rattle.justfile_token.specs.declared.namepath.Namepath.{Namepath}
use Rattle.justfile_numbers.specs.declared.number.Number.{Number}
use Rattle.justfile_token.specs.declared.string_literal.StringLiteral.{StringLiteral}
use Rattle.justfile_model.specs.Printed.Printing as printing
use Rattle.justfile_model.specs.Printed.Printing.{fixed_text}
use Rattle.justfile_model.specs.Lexing.Tok.{Tok}
use Rattle.justfile_model.specs.Trees.Tree.{lexeme, nothing, over_quoted, over_setting_value}
use Rattle.justfile_attribute_set.specs.AttributeSet.{AttributeSet}
use Rattle.justfile_setting.specs.Setting.{value_of}
use Rattle.justfile_setting.specs.declared.setting.Setting.{Setting}
use Rattle.justfile_item.specs.Doc.{doc_text_of}
use Rattle.justfile_item.specs.Item.{alias_shape, assignment_shape, function_parameter_of, function_shape, import_shape, module_shape, quoted_of, recipe_shape, setting_shape}
use Rattle.justfile_item.specs.declared.alias.Alias.{Alias}
use Rattle.justfile_item.specs.declared.function_definition.FunctionDefinition.{FunctionDefinition}
use Rattle.justfile_item.specs.declared.item.Item.{Item}
use Rattle.justfile_item.specs.declared.item.Item.TheVariants as items
use Rattle.justfile_item.specs.declared.set.Set.{Set}

abbrev pub alias_text_of : Alias Namepath → List ℕ
alias_text_of a = printing.alias_text (alias_shape a)

-- the names of a function's parameters, each after a comma and a space
abbrev pub later_names_text : List (Name × Number) → List ℕ
later_names_text parameters = flat_map (λ p. fixed_text (codes ", ") ++ lexeme_of p.0.token) parameters

-- the names of a function's parameters, with a comma and a space between them
abbrev pub parameter_names_text : List (Name × Number) → List ℕ
parameter_names_text parameters = printing.names_text (map lexeme (map function_parameter_of parameters))

abbrev pub function_text_of : FunctionDefinition → List ℕ
function_text_of f = printing.function_text (function_shape f)

-- the path of a file
abbrev pub path_text_of : StringLiteral → List ℕ
path_text_of relative = printing.file_path_text (over_quoted {B = Tok} lexeme nothing (quoted_of relative))

abbrev pub import_text_of : (optional : Bool) (relative : StringLiteral) → List ℕ
import_text_of optional relative = printing.import_text (import_shape optional relative)

-- a path after a space, if there is one
abbrev pub later_path_text : Option StringLiteral → List ℕ
later_path_text None = []
later_path_text (Some relative) = fixed_text (codes " ") ++ path_text_of relative

abbrev pub module_text_of : (name : Name) (optional : Bool) (relative : Option StringLiteral) → List ℕ
module_text_of name optional relative = printing.module_text (module_shape None name optional relative)

-- `:=` and the value of a setting, or nothing if it is the default value
abbrev pub later_value_text : Setting → List ℕ
later_value_text s = printing.setting_value_text (over_setting_value lexeme nothing (value_of s))

abbrev pub setting_text_of : Set → List ℕ
setting_text_of s = printing.setting_text (setting_shape s)

abbrev pub unexport_text_of : Name → List ℕ
unexport_text_of name = fixed_text (codes "unexport ") ++ lexeme_of name.token

-- the attributes of a construct
abbrev pub item_attributes : Item → Option AttributeSet
item_attributes (items.Alias a) = Some a.attributes
item_attributes (items.Assignment a) = Some a.attributes
item_attributes (items.Comment text) = None
item_attributes (items.Function f) = Some f.attributes
item_attributes (items.Import attributes optional relative) = Some attributes
item_attributes (items.Module attributes doc name optional relative) = Some attributes
item_attributes items.Newline = None
item_attributes (items.Recipe r) = Some r.attributes
item_attributes (items.Setting s) = Some s.attributes
item_attributes (items.Unexport attributes name) = Some attributes

-- the printed doc of an item, as a comment on a line of its own; only modules and recipes have one
abbrev pub item_doc_text : Item → List ℕ
item_doc_text (items.Module attributes doc name optional relative) = doc_text_of attributes doc
item_doc_text (items.Recipe r) = doc_text_of r.attributes r.doc
item_doc_text _ = []

-- the text of an item without its doc and its attributes
abbrev pub bare_text : Item → (indentation : List ℕ) → List ℕ
bare_text (items.Alias a) indentation = alias_text_of a
bare_text (items.Assignment a) indentation = printing.assignment_text (assignment_shape a)
bare_text (items.Comment text) indentation = text.now
bare_text (items.Function f) indentation = function_text_of f
bare_text (items.Import attributes optional relative) indentation = import_text_of optional relative
bare_text (items.Module attributes doc name optional relative) indentation = module_text_of name optional relative
bare_text items.Newline indentation = []
bare_text (items.Recipe r) indentation = printing.recipe_text (recipe_shape r) indentation
bare_text (items.Setting s) indentation = setting_text_of s
bare_text (items.Unexport attributes name) indentation = unexport_text_of name
