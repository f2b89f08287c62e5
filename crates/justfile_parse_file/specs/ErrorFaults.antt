-- The fault of a file that can't be parsed.
use Rattle.std.specs.Prelude.{◌≡◌, List, Option}
use Rattle.justfile_token.specs.declared.fault.Fault.{Fault}
use Rattle.justfile_token.specs.declared.fault.Fault.TheVariants as faults
use Rattle.justfile_parse_file.specs.MethodResults.{IsFaultOfExpression}
use Rattle.justfile_parse_expression.specs.Significant.{TableToken}
use Rattle.justfile_parse_base.specs.declared.parse_error.ParseError.{ParseError}
use Rattle.justfile_parse_base.specs.declared.parse_error.ParseError.TheVariants as errors

-- The fault is that of the parse error: at the next token, for a literal, or with the error of a broken rule.
abbrev pub IsFaultOfError : List TableToken → (next : Option TableToken) → ParseError → Fault → Type 0
IsFaultOfError table_tokens next (errors.Expression cause) fault = IsFaultOfExpression table_tokens next cause fault
IsFaultOfError table_tokens next (errors.Compile error) (faults.Compile e) = e ≡ error.value
IsFaultOfError table_tokens next (errors.Compile error) _ = ⊥
