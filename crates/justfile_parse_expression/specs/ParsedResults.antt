-- What a method of the parser returns, from the parser before it to the parser after it.
use Rattle.std.specs.Prelude.{ℕ, List, Result}
use Rattle.justfile_parse_expression.specs.MethodResults.{Reads}
use Rattle.justfile_parse_expression.specs.TableReader.{Read, State}
use Rattle.justfile_parse_expression.specs.View.{state_of}
use Rattle.justfile_parse_expression.specs.declared.expression_error.ExpressionError.{ExpressionError}
use Rattle.justfile_parse_expression.specs.declared.parser_state.ParserState.{ParserState}

-- What was returned, mapped by `view`, and the parser after it are what `read` reads from the parser before it; an error is that of `read`.
abbrev pub Parses : {X Y E : Type 0} (answer : E → List ℕ → Result (List ℕ) (List ℕ)) → (X → Y) → Result X ExpressionError
    → (old new : ParserState E) → (read : State → Read Y) → Type 0
Parses answer view result old new read = Reads view result (state_of answer new) (read (state_of answer old))
