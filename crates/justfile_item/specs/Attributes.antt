-- The trees of the attributes of a construct, and their texts.
use Rattle.std.specs.Prelude.{ℕ, List, [], ◌∷◌, ◌++◌, map, Option, Some, None, string_bytes}
use Rattle.std.specs.Global.{Box}
use Rattle.std.specs.List.{flat_map}
use Rattle.justfile_token.specs.declared.name.Name.{Name}
use Rattle.justfile_token.specs.declared.string_literal.StringLiteral.{StringLiteral}
use Rattle.justfile_model.specs.Printed.Printing.{entries_text, entry_text}
use Rattle.justfile_model.specs.Trees.Tree.{Entry, lexeme, nothing, over_entry}
use Rattle.justfile_attribute.specs.Form as forms
use Rattle.justfile_attribute.specs.Form.{Form, form_of}
use Rattle.justfile_attribute.specs.declared.attribute.Attribute.{Attribute}
use Rattle.justfile_attribute.specs.declared.interpreter.Interpreter.{Interpreter}
use Rattle.justfile_attribute_set.specs.AttributeSet.{AttributeSet, attributes_of, entries_of, written_of}
use Rattle.justfile_attribute_set.specs.Pairs.{Pair, entry_of}
use Rattle.justfile_expression.specs.Expression.{expr_cooked}
use Rattle.justfile_expression.specs.declared.expression.Expression.{Expression}

-- the shapes of attributes: their entries with lexemes in place of tokens
abbrev pub entry_shapes : AttributeSet → List (Entry (List ℕ) (Unit {0}))
entry_shapes set = map (over_entry lexeme nothing) (entries_of set)

-- an attribute in brackets and its comment, on a line of its own
abbrev pub attribute_line : Pair → List ℕ
attribute_line p = entry_text (over_entry lexeme nothing (entry_of p))

-- the lines of attributes
abbrev pub lines_text : List Pair → List ℕ
lines_text pairs = entries_text (map (over_entry lexeme nothing) (map entry_of pairs))

-- the lines of the attributes of a set
abbrev pub attributes_text : AttributeSet → List ℕ
attributes_text set = lines_text (written_of set)

-- the texts of an optional part, or none if it is absent
abbrev pub optional : {X : Type 0} → (X → List (List ℕ)) → Option X → List (List ℕ)
optional cooked None = []
optional cooked (Some x) = cooked x

abbrev pub literal_cooked : StringLiteral → List (List ℕ)
literal_cooked l = string_bytes l.cooked ∷ []

-- the text of the literal that names an option; a key without a value has none
abbrev pub option_cooked : (key : Option Name) → Option StringLiteral → List (List ℕ)
option_cooked (Some key) literal = []
option_cooked None literal = optional literal_cooked literal

-- the texts of the literals of an expression in a box
abbrev pub boxed_cooked : Box Expression → List (List ℕ)
boxed_cooked e = expr_cooked e.value

abbrev pub property_cooked : Name × Box Expression → List (List ℕ)
property_cooked p = boxed_cooked p.1

abbrev pub script_cooked : Interpreter StringLiteral → List (List ℕ)
script_cooked i = literal_cooked i.command ++ flat_map literal_cooked i.arguments.items

abbrev pub form_cooked : Form → List (List ℕ)
form_cooked forms.Plain = []
form_cooked (forms.Optional value) = optional boxed_cooked value
form_cooked (forms.Single value) = boxed_cooked value
form_cooked (forms.Literal literal) = literal_cooked literal
form_cooked (forms.Literals literals) = flat_map literal_cooked literals
form_cooked (forms.Env key value) = boxed_cooked key ++ boxed_cooked value
form_cooked (forms.Signals signals) = []
form_cooked (forms.Cache extra inputs outputs) = optional boxed_cooked extra ++ optional boxed_cooked inputs ++ optional boxed_cooked outputs
form_cooked (forms.Script interpreter) = optional script_cooked interpreter
form_cooked (forms.Arg flag help help_property long long_key max max_key min min_key multiple name pattern short short_key value) =
    literal_cooked name ++ option_cooked long_key long ++ option_cooked short_key short ++ optional property_cooked pattern ++ optional boxed_cooked value
    ++ optional property_cooked help_property

-- the texts of an attribute's literals, in the order of printing
abbrev pub attribute_cooked : Attribute → List (List ℕ)
attribute_cooked a = form_cooked (form_of a)

-- the texts of the literals of a set's attributes, in order
abbrev pub attributes_cooked : AttributeSet → List (List ℕ)
attributes_cooked set = flat_map attribute_cooked (attributes_of set)
