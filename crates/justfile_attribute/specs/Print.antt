-- The printed arguments of an attribute. A slot is one possible argument: its text, or none if it is absent. The slots are in the order of
-- printing.
use Rattle.std.specs.Prelude.{ℕ, Bool, true, false, List, [], ◌∷◌, ◌++◌, map, Option, Some, None, is_some, ◌||◌, codes}
use Rattle.std.specs.Fmt.{decimal}
use Rattle.std.specs.Global.{Box}
use Rattle.std.specs.Option.{option_map}
use Rattle.justfile_vocabulary.specs.Signal.{signal_name}
use Rattle.justfile_token.specs.StringLiteral.{literal_text}
use Rattle.justfile_token.specs.declared.name.Name.{Name}
use Rattle.justfile_vocabulary.specs.declared.signal.Signal.{Signal}
use Rattle.justfile_token.specs.declared.string_literal.StringLiteral.{StringLiteral}
use Rattle.justfile_token.specs.declared.token.Token.{Token}
use Rattle.justfile_model.specs.Printed.Printing.{fixed_text}
use Rattle.justfile_expression.specs.Text.{text_of}
use Rattle.justfile_expression.specs.declared.expression.Expression.{Expression}
use Rattle.justfile_attribute.specs.Form as forms
use Rattle.justfile_attribute.specs.Form.{Form, form_of}
use Rattle.justfile_attribute.specs.declared.attribute.Attribute.{Attribute}
use Rattle.justfile_attribute.specs.declared.interpreter.Interpreter.{Interpreter}
use Rattle.justfile_attribute.specs.declared.part.Part.{Part}
use Rattle.justfile_attribute.specs.declared.part.Value.{Value}
use Rattle.justfile_attribute.specs.declared.part.Value.TheVariants as values

-- ---- parts of the code

-- a number in single quotes
abbrev pub quoted_number : ℕ → List ℕ
quoted_number n = fixed_text (codes "'") ++ decimal n ++ fixed_text (codes "'")

abbrev pub value_text : Value → List ℕ
value_text values.Nothing = []
value_text (values.Expression e) = text_of e.now
value_text (values.Literal l) = literal_text l.now
value_text (values.Number n) = quoted_number n

-- a piece with the value after it
abbrev pub with_value : (piece : List ℕ) → Value → List ℕ
with_value piece values.Nothing = piece
with_value piece (values.Expression e) = piece ++ text_of e.now
with_value piece (values.Literal l) = piece ++ literal_text l.now
with_value piece (values.Number n) = piece ++ quoted_number n

abbrev pub part_text : Part → List ℕ
part_text p = with_value p.piece.now p.value

-- a slot as the code returns it
abbrev pub slot_text : Option Part → Option (List ℕ)
slot_text = option_map part_text

abbrev pub slot_of : Option (Option Part) → Option (Option (List ℕ))
slot_of = option_map slot_text

-- ---- slots

abbrev pub Slots : Type 0
Slots = List (Option (List ℕ))

abbrev pub positional : Expression → Option (List ℕ)
positional e = Some (text_of e)

abbrev pub literal_slot : StringLiteral → Option (List ℕ)
literal_slot l = Some (literal_text l)

-- a signal in double quotes
abbrev pub signal_text : Signal → List ℕ
signal_text s = codes "\"" ++ signal_name s ++ codes "\""

abbrev pub signal_slot : Signal → Option (List ℕ)
signal_slot s = Some (signal_text s)

abbrev pub value_slot : (keyed : List ℕ) → Option (Box Expression) → Option (List ℕ)
value_slot keyed None = None
value_slot keyed (Some e) = Some (keyed ++ text_of e.value)

abbrev pub property_slot : (keyed : List ℕ) → Option (Name × Box Expression) → Option (List ℕ)
property_slot keyed None = None
property_slot keyed (Some p) = Some (keyed ++ text_of p.1.value)

abbrev pub number_slot : (keyed : List ℕ) → Option ℕ → Option (List ℕ)
number_slot keyed None = None
number_slot keyed (Some n) = Some (keyed ++ quoted_number n)

abbrev pub flag_slot : (bare : List ℕ) → Option Token → Option (List ℕ)
flag_slot bare None = None
flag_slot bare (Some t) = Some bare

-- a key without a value, or a key with its literal
abbrev pub option_slot : (bare keyed : List ℕ) → Option Name → Option StringLiteral → Option (List ℕ)
option_slot bare keyed (Some key) literal = Some bare
option_slot bare keyed None (Some literal) = Some (keyed ++ literal_text literal)
option_slot bare keyed None None = None

abbrev pub single_slots : Option (Box Expression) → Slots
single_slots None = []
single_slots (Some e) = positional e.value ∷ []

abbrev pub script_slots : Option (Interpreter StringLiteral) → Slots
script_slots None = []
script_slots (Some i) = literal_slot i.command ∷ map literal_slot i.arguments.items

abbrev pub cache_slots : (extra inputs outputs : Option (Box Expression)) → Slots
cache_slots extra inputs outputs = value_slot (codes "extra=") extra ∷ value_slot (codes "inputs=") inputs ∷ value_slot (codes "outputs=") outputs ∷ []

abbrev pub form_slots : Form → Slots
form_slots forms.Plain = []
form_slots (forms.Optional value) = single_slots value
form_slots (forms.Single value) = positional value.value ∷ []
form_slots (forms.Literal literal) = literal_slot literal ∷ []
form_slots (forms.Literals literals) = map literal_slot literals
form_slots (forms.Env key value) = positional key.value ∷ positional value.value ∷ []
form_slots (forms.Signals signals) = map signal_slot signals
form_slots (forms.Cache extra inputs outputs) = cache_slots extra inputs outputs
form_slots (forms.Script interpreter) = script_slots interpreter
form_slots (forms.Arg flag help property long long_key max max_key min min_key multiple name pattern short short_key value) =
    literal_slot name ∷ option_slot (codes "long") (codes "long=") long_key long ∷ option_slot (codes "short") (codes "short=") short_key short
    ∷ property_slot (codes "pattern=") pattern ∷ value_slot (codes "value=") value ∷ flag_slot (codes "flag") flag ∷ flag_slot (codes "multiple") multiple
    ∷ number_slot (codes "min=") min ∷ number_slot (codes "max=") max ∷ property_slot (codes "help=") property ∷ []

-- the slots of an attribute
abbrev pub slots : Attribute → Slots
slots a = form_slots (form_of a)

-- ---- the printed text

-- what is written before an argument
abbrev pub opening : (begun : Bool) → List ℕ
opening false = fixed_text (codes "(")
opening true = fixed_text (codes ", ")

abbrev pub closing : (begun : Bool) → List ℕ
closing false = []
closing true = fixed_text (codes ")")

-- a slot's text with what is written before it, or nothing if the argument is absent
abbrev pub slot_piece : (begun : Bool) → Option (List ℕ) → List ℕ
slot_piece begun None = []
slot_piece begun (Some text) = opening begun ++ text

-- the texts of the slots in parentheses, or what is left of them if an argument was already printed
abbrev pub slots_text : (begun : Bool) → Slots → List ℕ
slots_text begun [] = closing begun
slots_text begun (slot ∷ slots) = slot_piece begun slot ++ slots_text (begun || is_some slot) slots
