-- Where reading stops, and with which error.
use Rattle.std.proofs.Common.{◌≡◌, Ok, Err, refl}
use Rattle.justfile_attribute_rules.specs.Made.{IsFaultOfRule, IsRefusedBy}
use Rattle.justfile_token.specs.declared.compile_error.CompileError.{CompileError}
use Rattle.justfile_token.specs.declared.fault.Fault.{Fault}
use Rattle.justfile_token.specs.declared.fault.Fault.TheVariants as faults
use Rattle.justfile_token.specs.declared.token.Token.{Token}
use Rattle.justfile_model.specs.Readers.ReaderState as reading
use Rattle.justfile_model.specs.Readers.ReaderState.{◌>>=◌}
use Rattle.justfile_model.specs.Meanings.Rules.{Broken, Rule}
use Rattle.justfile_parse_base.specs.ParseErrors.{IsParseError, IsErrorOfFault, IsErrorOfRead, IsFaultOfRead}
use Rattle.justfile_parse_base.specs.declared.parse_error.ParseError.{ParseError}
use Rattle.justfile_parse_base.specs.declared.parse_error.ParseError.TheVariants.{Expression, Compile}
use Rattle.justfile_parse_expression.specs.TableReader.{Read, ReadError, State}
use Rattle.justfile_parse_expression.specs.declared.expression_error.ExpressionError.TheVariants as causes

-- a rule that is broken first is broken
pub broken_first : {X Y : Type 0} (found : Read X) (next : X × State → Read Y) (e : CompileError) → IsErrorOfRead found e → IsErrorOfRead (found >>= next) e
broken_first (Ok x) next e h = absurd h
broken_first (Err (reading.Unexpected t)) next e h = absurd h
broken_first (Err (reading.TooDeep t)) next e h = absurd h
broken_first (Err (reading.NotCooked fault t)) next e h = absurd h
broken_first (Err (reading.BreaksRule broken)) next e h = h
broken_first (Err (reading.Extraneous count opener)) next e h = h
broken_first (Err (reading.AfterVariadic name)) next e h = h
broken_first (Err (reading.UnknownSetting name)) next e h = h
broken_first (Err (reading.ExpectedKeyword expected t)) next e h = h
broken_first (Err (reading.NoNumber counters)) next e h = absurd h

-- reading stops where its first part stops
pub fails_first : {X Y : Type 0} (failure : ParseError) (s : State) (found : Read X) (next : X × State → Read Y) → IsParseError failure s ⊥ found → IsParseError failure s ⊥ (found >>= next)
fails_first (Compile error) s found next h = broken_first found next error.value h
fails_first (Expression (causes.Refused refusal)) s found next h = rw h refl
fails_first (Expression (causes.Literal refused)) s found next h = rw h refl
fails_first (Expression causes.Memory) s found next h = tt
fails_first (Expression causes.Numbers) s found next h = absurd h

-- the error of a refusal doesn't depend on what would have been read
of_any : (Y : Type 0) (refusal : ReadError) (e : CompileError) → IsErrorOfRead {Y = Unit {0}} (Err refusal) e → IsErrorOfRead {Y = Y} (Err refusal) e
of_any Y (reading.Unexpected t) e h = absurd h
of_any Y (reading.TooDeep t) e h = absurd h
of_any Y (reading.NotCooked fault t) e h = absurd h
of_any Y (reading.BreaksRule broken) e h = h
of_any Y (reading.Extraneous count opener) e h = h
of_any Y (reading.AfterVariadic name) e h = h
of_any Y (reading.UnknownSetting name) e h = h
of_any Y (reading.ExpectedKeyword expected t) e h = h
of_any Y (reading.NoNumber counters) e h = absurd h

-- reading stops with the parse error for a fault that tells why
pub fails_with : (Y : Type 0) (refusal : ReadError) (fault : Fault) (failure : ParseError) (s : State) → IsErrorOfFault failure fault → IsFaultOfRead refusal fault
    → IsParseError {Y = Y} failure s ⊥ (Err refusal)
fails_with Y refusal (faults.Compile e) (Compile error) s h k = rw h (of_any Y refusal e k)
fails_with Y refusal faults.Memory (Compile error) s h k = absurd h
fails_with Y refusal faults.Numbers (Compile error) s h k = absurd h
fails_with Y refusal fault (Expression causes.Memory) s h k = tt
fails_with Y refusal (faults.Compile e) (Expression causes.Numbers) s h k = absurd h
fails_with Y refusal faults.Memory (Expression causes.Numbers) s h k = absurd h
fails_with Y refusal faults.Numbers (Expression causes.Numbers) s h k = absurd k
fails_with Y refusal (faults.Compile e) (Expression (causes.Refused r)) s h k = absurd h
fails_with Y refusal faults.Memory (Expression (causes.Refused r)) s h k = absurd h
fails_with Y refusal faults.Numbers (Expression (causes.Refused r)) s h k = absurd h
fails_with Y refusal (faults.Compile e) (Expression (causes.Literal r)) s h k = absurd h
fails_with Y refusal faults.Memory (Expression (causes.Literal r)) s h k = absurd h
fails_with Y refusal faults.Numbers (Expression (causes.Literal r)) s h k = absurd h

tells_broken : (X : Type 0) (broken : Broken Token) (fault : Fault) → IsRefusedBy {Y = X} (Err broken) fault → IsFaultOfRead (reading.BreaksRule broken) fault
tells_broken X broken (faults.Compile e) k = k
tells_broken X broken faults.Memory k = tt
tells_broken X broken faults.Numbers k = absurd k

-- reading stops where a rule is broken
pub fails_broken : (X Y : Type 0) (broken : Broken Token) (fault : Fault) (failure : ParseError) (s : State) → IsErrorOfFault failure fault → IsRefusedBy {Y = X} (Err broken) fault
    → IsParseError {Y = Y} failure s ⊥ (Err (reading.BreaksRule broken))
fails_broken X Y broken fault failure s h k = fails_with Y (reading.BreaksRule broken) fault failure s h (tells_broken X broken fault k)

-- the same for a rule and the token at which it is broken
pub fails_for : (Y : Type 0) (rule : Rule Token) (token : Token) (fault : Fault) (failure : ParseError) (s : State)
    → IsErrorOfFault failure fault → IsFaultOfRule rule token fault
    → IsParseError {Y = Y} failure s ⊥ (Err (reading.BreaksRule (record { rule = rule; token = token })))
fails_for Y rule token fault failure s h k = fails_broken (Unit {0}) Y (record { rule = rule; token = token }) fault failure s h k
