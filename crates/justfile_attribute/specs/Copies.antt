-- Copies of attributes.
use Rattle.std.specs.Prelude.{◌≡◌, Option, Some, None}
use Rattle.std.specs.Global.{Box}
use Rattle.std.specs.List.{AllZip}
use Rattle.justfile_token.specs.StringLiteral.{IsSameLiteral}
use Rattle.justfile_token.specs.declared.name.Name.{Name}
use Rattle.justfile_token.specs.declared.string_literal.StringLiteral.{StringLiteral}
use Rattle.justfile_token.specs.Copies.{IsSameIfPresent, IsSameText}
use Rattle.justfile_expression.specs.Copies.{IsSameBoxed}
use Rattle.justfile_expression.specs.declared.expression.Expression.{Expression}
use Rattle.justfile_attribute.specs.Form as forms
use Rattle.justfile_attribute.specs.Form.{Form, case_kind, form_of}
use Rattle.justfile_attribute.specs.declared.attribute.Attribute.{Attribute}
use Rattle.justfile_attribute.specs.declared.interpreter.Interpreter.{Interpreter}

-- a copy of a key with its value
abbrev pub IsSameProperty : (copy original : Name × Box Expression) → Type 0
IsSameProperty copy original = (copy.0 ≡ original.0) × IsSameBoxed copy.1 original.1

-- an optional value, out of its box
abbrev pub unboxed : {X : Type 0} → Option (Box X) → Option X
unboxed None = None
unboxed (Some x) = Some x.value

-- a copy of an interpreter: its command and its arguments are copies
pub record IsSameInterpreter (copy original : Interpreter StringLiteral) : Type 0 where
  pub command : IsSameLiteral copy.command original.command
  pub arguments : AllZip IsSameLiteral copy.arguments.items original.arguments.items

-- a copy of what an attribute holds
abbrev pub IsSameForm : (copy original : Form) → Type 0
IsSameForm forms.Plain forms.Plain = Unit {0}
IsSameForm (forms.Optional copy) (forms.Optional original) = IsSameIfPresent IsSameBoxed copy original
IsSameForm (forms.Single copy) (forms.Single original) = IsSameBoxed copy original
IsSameForm (forms.Literal copy) (forms.Literal original) = IsSameLiteral copy original
IsSameForm (forms.Literals copy) (forms.Literals original) = AllZip IsSameLiteral copy original
IsSameForm (forms.Env name value) (forms.Env name' value') = IsSameBoxed name name' × IsSameBoxed value value'
IsSameForm (forms.Signals copy) (forms.Signals original) = copy ≡ original
IsSameForm (forms.Cache extra inputs outputs) (forms.Cache extra' inputs' outputs') =
    IsSameIfPresent IsSameBoxed extra extra' × IsSameIfPresent IsSameBoxed inputs inputs' × IsSameIfPresent IsSameBoxed outputs outputs'
IsSameForm (forms.Script copy) (forms.Script original) = IsSameIfPresent IsSameInterpreter copy original
IsSameForm (forms.Arg flag help property long long_key max max_key min min_key multiple name pattern short short_key value)
    (forms.Arg flag' help' property' long' long_key' max' max_key' min' min_key' multiple' name' pattern' short' short_key' value') =
    (flag ≡ flag') × IsSameIfPresent IsSameText help help' × IsSameIfPresent IsSameProperty property property' × IsSameIfPresent IsSameLiteral long long'
    × (long_key ≡ long_key') × (max ≡ max') × (max_key ≡ max_key') × (min ≡ min')
    × (min_key ≡ min_key') × (multiple ≡ multiple') × IsSameLiteral name name' × IsSameIfPresent IsSameProperty pattern pattern'
    × IsSameIfPresent IsSameLiteral short short' × (short_key ≡ short_key') × IsSameIfPresent IsSameBoxed value value'
IsSameForm _ _ = ⊥

-- a copy of an attribute: the same kind, and all fields are the same
pub record IsSameAttribute (copy original : Attribute) : Type 0 where
  pub kind : case_kind copy ≡ case_kind original
  pub fields : IsSameForm (form_of copy) (form_of original)
