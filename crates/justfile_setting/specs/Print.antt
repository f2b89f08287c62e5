-- The text of a setting, which is that of its value.
use Rattle.std.specs.Prelude.{ℕ, Bool, true, false, List, ◌++◌, codes}
use Rattle.std.specs.List.{flat_map}
use Rattle.justfile_attribute.specs.declared.interpreter.Interpreter.{Interpreter}
use Rattle.justfile_token.specs.StringLiteral.{literal_text}
use Rattle.justfile_model.specs.Printed.Printing.{expr_text, exprs_text, fixed_text}
use Rattle.justfile_model.specs.Trees.Tree as tree
use Rattle.justfile_model.specs.Trees.Tree.{SettingValue, more}
use Rattle.justfile_expression.specs.Text.{text_of}
use Rattle.justfile_expression.specs.declared.expression.Expression.{Expression}
use Rattle.justfile_setting.specs.Setting.{value_shape}
use Rattle.justfile_setting.specs.declared.setting.Setting.{Setting}
use Rattle.justfile_setting.specs.declared.value.Value.{Value}
use Rattle.justfile_setting.specs.declared.value.Value.TheVariants as values

abbrev pub truth_text : Bool → List ℕ
truth_text true = fixed_text (codes "true")
truth_text false = fixed_text (codes "false")

-- a value as it is written after `:=`
abbrev pub value_text : SettingValue (List ℕ) (Unit {0}) → List ℕ
value_text (tree.Truth value) = truth_text value
value_text (tree.Value value) = expr_text value
value_text (tree.Interpreter command arguments) = fixed_text (codes "[") ++ exprs_text (more command arguments) ++ fixed_text (codes "]")

-- the text of a setting
abbrev pub setting_output : Setting → List ℕ
setting_output s = value_text (value_shape s)

-- ---- the code's values

-- arguments, each after a comma and a space
abbrev pub later_texts : List Expression → List ℕ
later_texts arguments = flat_map (λ e. fixed_text (codes ", ") ++ text_of e) arguments

abbrev pub interpreter_text : Interpreter Expression → List ℕ
interpreter_text i = fixed_text (codes "[") ++ text_of i.command ++ later_texts i.arguments.items ++ fixed_text (codes "]")

abbrev pub value_text_of : Value → List ℕ
value_text_of (values.Truth value) = truth_text value.now
value_text_of (values.Expression e) = text_of e.now
value_text_of (values.Literal l) = literal_text l.now
value_text_of (values.Interpreter i) = interpreter_text i.now
