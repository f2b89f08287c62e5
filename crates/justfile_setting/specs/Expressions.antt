-- The expressions of a setting.
use Rattle.std.specs.Prelude.{List, [], ◌∷◌}
use Rattle.justfile_attribute.specs.declared.interpreter.Interpreter.{Interpreter}
use Rattle.justfile_expression.specs.declared.expression.Expression.{Expression}
use Rattle.justfile_setting.specs.Setting.{Content, ExpressionContent, InterpreterContent, content_of}
use Rattle.justfile_setting.specs.declared.setting.Setting.{Setting}

-- the command of an interpreter and its arguments
abbrev pub interpreter_expressions : Interpreter Expression → List Expression
interpreter_expressions interpreter = interpreter.command ∷ interpreter.arguments.items

-- the expressions that are written directly, in order
abbrev pub content_expressions : Content → List Expression
content_expressions (ExpressionContent value) = value ∷ []
content_expressions (InterpreterContent command) = interpreter_expressions command
content_expressions _ = []

-- the expressions that a setting has directly, in the order of printing
abbrev pub setting_expressions : Setting → List Expression
setting_expressions s = content_expressions (content_of s)
