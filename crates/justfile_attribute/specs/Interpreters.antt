-- Interpreters with texts and with expressions: the default one, and copies.
use Rattle.std.specs.Prelude.{◌≡◌, [], ◌∷◌, String, codes, map, string_bytes}
use Rattle.std.specs.Global.{Global}
use Rattle.std.specs.List.{AllZip}
use Rattle.justfile_token.specs.Copies.{IsSameText}
use Rattle.justfile_attribute.specs.declared.interpreter.Interpreter.{Interpreter}
use Rattle.justfile_expression.specs.Copies.{IsSameExpression}
use Rattle.justfile_expression.specs.declared.expression.Expression.{Expression}

-- the interpreter of scripts if none is set: `sh -eu`
pub record IsDefault (interpreter : Interpreter (String Global)) : Type 0 where
  pub command : string_bytes interpreter.command ≡ codes "sh"
  pub arguments : map string_bytes interpreter.arguments.items ≡ codes "-eu" ∷ []

-- a copy with the same texts
pub record IsSameTextInterpreter (copy original : Interpreter (String Global)) : Type 0 where
  pub command : IsSameText copy.command original.command
  pub arguments : AllZip IsSameText copy.arguments.items original.arguments.items

-- a copy with the same expressions
pub record IsSameExpressionInterpreter (copy original : Interpreter Expression) : Type 0 where
  pub command : IsSameExpression copy.command original.command
  pub arguments : AllZip IsSameExpression copy.arguments.items original.arguments.items
