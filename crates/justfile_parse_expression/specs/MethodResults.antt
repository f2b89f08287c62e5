-- A method of the parser returns what the definitions read.
use Rattle.std.specs.Borrow.{Bor}
use Rattle.std.specs.Prelude.{◌≡◌, [], Option, Some, None, Result, Ok, Err}
use Rattle.justfile_token.specs.declared.compile_error.CompileError.{CompileError}
use Rattle.justfile_token.specs.declared.fault.Fault.{Fault}
use Rattle.justfile_token.specs.declared.fault.Fault.TheVariants as faults
use Rattle.justfile_parse_expression.specs.Fault.{literal_fault}
use Rattle.justfile_model.specs.Readers.ReaderState as state
use Rattle.justfile_model.specs.Readers.ReaderState.{refused}
use Rattle.justfile_parse_expression.specs.TableReader as table
use Rattle.justfile_parse_expression.specs.TableReader.{Read, State}
use Rattle.justfile_parse_expression.specs.Significant.{TableToken}
use Rattle.justfile_parse_expression.specs.declared.expression_error.SyntaxError.{SyntaxError}
use Rattle.justfile_parse_expression.specs.declared.expression_error.SyntaxError.TheVariants.{Unexpected, TooDeep}
use Rattle.justfile_parse_expression.specs.declared.expression_error.ExpressionError.{ExpressionError}
use Rattle.justfile_parse_expression.specs.declared.expression_error.ExpressionError.TheVariants as causes

-- the read error of a literal, from its compile error
unfoldable pub literal_read_error : CompileError → table.ReadError
literal_read_error error = state.NotCooked (literal_fault error.kind) error.token

-- the read error at the next token
abbrev pub read_error_at : SyntaxError → State → table.ReadError
read_error_at Unexpected s = refused state.Unexpected s
read_error_at TooDeep s = refused state.TooDeep s

-- The error is that of the definitions: the next token or a literal is refused; or numbers ran out, and `IsShort` holds. Running out of
-- memory implies nothing.
abbrev pub IsExpressionError : {Y : Type 0} → ExpressionError → State → (IsShort : Type 0) → Result Y table.ReadError → Type 0
IsExpressionError (causes.Refused refusal) s IsShort found = found ≡ Err (read_error_at refusal s)
IsExpressionError (causes.Literal refused) s IsShort found = found ≡ Err (literal_read_error refused.value.error)
IsExpressionError causes.Memory s IsShort found = Unit {0}
IsExpressionError causes.Numbers s IsShort found = IsShort

-- What was returned, mapped by `view`, and the state after it are what the definitions read; an error is theirs.
abbrev pub Reads : {X Y : Type 0} → (X → Y) → Result X ExpressionError → State → Read Y → Type 0
Reads view (Ok x) s found = found ≡ Ok (view x, s)
Reads view (Err cause) s found = IsExpressionError cause s ⊥ found

-- The next token, if one is left, and the state after it.
abbrev pub Peeks : Option (Bor TableToken) → (here next : State) → Type 0
Peeks (Some table_token) here next = here ≡ state.with_next table_token.now next
Peeks None here next = here.left ≡ []

-- What was taken, and the state after it, are what the definitions take; nothing was taken if they take nothing.
abbrev pub Takes : {X : Type 0} → Option X → State → Option (X × State) → Type 0
Takes (Some x) s found = found ≡ Some (x, s)
Takes None s found = found ≡ None

-- `Takes` of a token of the table
abbrev pub TakesTableToken : Option (Bor TableToken) → State → Option (TableToken × State) → Type 0
TakesTableToken (Some table_token) s found = found ≡ Some (table_token.now, s)
TakesTableToken None s found = found ≡ None

-- `Holds` applies to what was returned, or memory ran out.
abbrev pub UnlessMemory : {X : Type 0} → Result X ExpressionError → (X → Type 0) → Type 0
UnlessMemory (Ok x) Holds = Holds x
UnlessMemory (Err cause) Holds = cause ≡ causes.Memory

-- the expression error is that of the fault of a literal, or memory or numbers ran out
abbrev pub IsErrorOfLiteral : ExpressionError → Fault → Type 0
IsErrorOfLiteral (causes.Literal refused) (faults.Compile error) = refused.value.error ≡ error
IsErrorOfLiteral causes.Memory (faults.Compile error) = Unit {0}
IsErrorOfLiteral causes.Memory faults.Memory = Unit {0}
IsErrorOfLiteral causes.Numbers faults.Numbers = Unit {0}
IsErrorOfLiteral _ _ = ⊥
