-- The expressions of an attribute.
use Rattle.std.specs.Prelude.{List, [], ◌∷◌, ◌++◌, Option, None, Some}
use Rattle.std.specs.Global.{Box}
use Rattle.justfile_token.specs.declared.name.Name.{Name}
use Rattle.justfile_inner_expressions.specs.Pushed.{optional_expressions}
use Rattle.justfile_expression.specs.declared.expression.Expression.{Expression}
use Rattle.justfile_attribute.specs.Form as forms
use Rattle.justfile_attribute.specs.Form.{Form, form_of}
use Rattle.justfile_attribute.specs.declared.attribute.Attribute.{Attribute}

-- the value of an optional key, as a list
abbrev pub property_expressions : Option (Name × Box Expression) → List Expression
property_expressions None = []
property_expressions (Some p) = p.1.value ∷ []

abbrev pub form_expressions : Form → List Expression
form_expressions forms.Plain = []
form_expressions (forms.Optional value) = optional_expressions value
form_expressions (forms.Single value) = value.value ∷ []
form_expressions (forms.Literal literal) = []
form_expressions (forms.Literals literals) = []
form_expressions (forms.Env name value) = name.value ∷ value.value ∷ []
form_expressions (forms.Signals signals) = []
form_expressions (forms.Cache extra inputs outputs) = optional_expressions extra ++ optional_expressions inputs ++ optional_expressions outputs
form_expressions (forms.Script interpreter) = []
form_expressions (forms.Arg flag help help_property long long_key max max_key min min_key multiple name pattern short short_key value) =
    property_expressions pattern ++ optional_expressions value ++ property_expressions help_property

-- the expressions that an attribute has directly, in the order of printing
abbrev pub attribute_expressions : Attribute → List Expression
attribute_expressions a = form_expressions (form_of a)
