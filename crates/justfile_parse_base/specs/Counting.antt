-- The results of functions that take numbers from the numerator.
use Rattle.std.specs.Prelude.{◌≡◌, ℕ, ◌≤◌, ◌+◌, List, Result, Ok, Err, map}
use Rattle.justfile_numbers.specs.Numerator.{bindings_of, constants_of, recipes_of}
use Rattle.justfile_numbers.specs.declared.numerator.Numerator.{Numerator}
use Rattle.justfile_model.specs.Readers.ReaderState as reading
use Rattle.justfile_model.specs.Readers.ReaderState.{Counters}
use Rattle.justfile_model.specs.Lexing.SignificantTokens.{identifiers}
use Rattle.justfile_parse_base.specs.ParseErrors.{IsParseError}
use Rattle.justfile_parse_base.specs.declared.parse_error.ParseError.{ParseError}
use Rattle.justfile_parse_expression.specs.MethodResults.{IsExpressionError}
use Rattle.justfile_parse_expression.specs.Significant.{significant_of}
use Rattle.justfile_parse_expression.specs.TableReader.{Read, State}
use Rattle.justfile_parse_expression.specs.View.{state_of}
use Rattle.justfile_parse_expression.specs.declared.expression_error.ExpressionError.{ExpressionError}
use Rattle.justfile_parse_expression.specs.declared.parser_state.ParserState.{ParserState}

-- the counters of a numerator
abbrev pub counters_of : Numerator → Counters
counters_of n = record { bindings = bindings_of n; constants = constants_of n; recipes = recipes_of n }

-- What was returned, and the state and the counters after it, are what the definitions read; an error is theirs.
abbrev pub ReadsCountedExpression : {X Y : Type 0} → (X → Y) → Result X ExpressionError → Numerator → State → Read (Y × Counters) → Type 0
ReadsCountedExpression view (Ok x) n s found = found ≡ Ok ((view x, counters_of n), s)
ReadsCountedExpression view (Err cause) n s found = IsExpressionError cause s (found ≡ Err (reading.NoNumber (counters_of n))) found

-- The same for a function that can find that a rule is broken.
abbrev pub ReadsCounted : {X Y : Type 0} → (X → Y) → Result X ParseError → Numerator → State → Read (Y × Counters) → Type 0
ReadsCounted view (Ok x) n s found = found ≡ Ok ((view x, counters_of n), s)
ReadsCounted view (Err error) n s found = IsParseError error s (found ≡ Err (reading.NoNumber (counters_of n))) found

-- What was returned and the parser after it are what `read` reads from the parser before it, with the counters of the numerator after it.
abbrev pub ParsesCounted : {X Y E : Type 0} (answer : E → List ℕ → Result (List ℕ) (List ℕ)) → (X → Y) → Result X ParseError → Numerator
    → (old new : ParserState E) → (read : State → Read (Y × Counters)) → Type 0
ParsesCounted answer view result n old new read = ReadsCounted view result n (state_of answer new) (read (state_of answer old))

-- how many identifiers are left
abbrev pub identifiers_left : State → ℕ
identifiers_left s = identifiers (map significant_of s.left)

-- how many identifiers are left after success; none after an error
abbrev pub identifiers_left_after : {X : Type 0} → Result X ParseError → State → ℕ
identifiers_left_after (Ok x) s = identifiers_left s
identifiers_left_after (Err error) s = 0

-- the same after a header, whose name is an identifier too
abbrev pub identifiers_left_after_header : {X : Type 0} → Result X ParseError → State → ℕ
identifiers_left_after_header (Ok x) s = identifiers_left s + 1
identifiers_left_after_header (Err error) s = 0

-- Only bindings were given numbers, and each has an identifier of its own among those that were taken.
pub record TookBindingNumbers (old new : Numerator) (before following : ℕ) : Type 0 where
  pub least : bindings_of old ≤ bindings_of new
  pub most : bindings_of new + following ≤ bindings_of old + before
  pub recipes : recipes_of new ≡ recipes_of old
  pub constants : constants_of new ≡ constants_of old
