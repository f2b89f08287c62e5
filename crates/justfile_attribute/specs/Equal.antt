-- Equality of attributes.
use Rattle.std.specs.Prelude.{◌&&◌, Bool, false, true}
use Rattle.std.specs.Cmp.Lexicographic.{pointwise}
use Rattle.std.specs.Global.{Box}
use Rattle.std.specs.Option.{option_eq}
use Rattle.std.specs.Bool.{nat_eq}
use Rattle.std.specs.String.{string_eq}
use Rattle.justfile_token.specs.declared.name.Name.{Name}
use Rattle.justfile_vocabulary.specs.contracts.signal.SignalPartialEq.TheImpl as signals
use Rattle.justfile_vocabulary.specs.declared.signal.Signal.{Signal}
use Rattle.justfile_model.specs.Meanings.AttributeKinds.{same_attribute}
use Rattle.justfile_expression.specs.Equal.{boxed_eq, literal_eq, name_eq, token_eq}
use Rattle.justfile_expression.specs.declared.expression.Expression.{Expression}
use Rattle.justfile_attribute.specs.InterpreterOrder.{interpreter_eq}
use Rattle.justfile_attribute.specs.Form as forms
use Rattle.justfile_attribute.specs.Form.{Form, case_kind, form_of}
use Rattle.justfile_attribute.specs.declared.attribute.Attribute.{Attribute}

abbrev pub signal_eq : Signal → Signal → Bool
signal_eq = signals.eq-value.it

-- equality of keys with their values
abbrev pub property_eq : Name × Box Expression → Name × Box Expression → Bool
property_eq p q = name_eq p.0 q.0 && boxed_eq p.1 q.1

-- equality of what attributes hold, positions included
abbrev pub form_eq : Form → Form → Bool
form_eq forms.Plain forms.Plain = true
form_eq (forms.Optional x) (forms.Optional y) = option_eq boxed_eq x y
form_eq (forms.Single x) (forms.Single y) = boxed_eq x y
form_eq (forms.Literal x) (forms.Literal y) = literal_eq x y
form_eq (forms.Literals x) (forms.Literals y) = pointwise literal_eq x y
form_eq (forms.Env name value) (forms.Env name' value') = boxed_eq name name' && boxed_eq value value'
form_eq (forms.Signals x) (forms.Signals y) = pointwise signal_eq x y
form_eq (forms.Cache extra inputs outputs) (forms.Cache extra' inputs' outputs') =
    option_eq boxed_eq extra extra' && (option_eq boxed_eq inputs inputs' && option_eq boxed_eq outputs outputs')
form_eq (forms.Script x) (forms.Script y) = option_eq (interpreter_eq literal_eq) x y
form_eq (forms.Arg flag help property long long_key max max_key min min_key multiple name pattern short short_key value)
    (forms.Arg flag' help' property' long' long_key' max' max_key' min' min_key' multiple' name' pattern' short' short_key' value') =
    option_eq token_eq flag flag' && (option_eq string_eq help help' && (option_eq property_eq property property' && (option_eq literal_eq long long'
    && (option_eq name_eq long_key long_key' && (option_eq nat_eq max max' && (option_eq name_eq max_key max_key' && (option_eq nat_eq min min'
    && (option_eq name_eq min_key min_key' && (option_eq token_eq multiple multiple' && (literal_eq name name' && (option_eq property_eq pattern pattern'
    && (option_eq literal_eq short short' && (option_eq name_eq short_key short_key' && option_eq boxed_eq value value')))))))))))))
form_eq _ _ = false

-- equality of attributes: the same case, and all fields are equal, positions included
abbrev pub attribute_eq : Attribute → Attribute → Bool
attribute_eq a b = same_attribute (case_kind a) (case_kind b) && form_eq (form_of a) (form_of b)
