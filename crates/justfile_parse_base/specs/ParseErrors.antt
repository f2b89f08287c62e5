-- The results of methods that can find that a rule is broken: those of attributes, of headers and of items.
use Rattle.std.specs.Prelude.{◌≡◌, ℕ, List, Result, Ok, Err}
use Rattle.justfile_token.specs.declared.compile_error.CompileError.{CompileError}
use Rattle.justfile_token.specs.declared.fault.Fault.{Fault}
use Rattle.justfile_token.specs.declared.fault.Fault.TheVariants as faults
use Rattle.justfile_attribute_rules.specs.RuleErrors.{IsErrorOfRule}
use Rattle.justfile_token.specs.Token.{lexeme_of}
use Rattle.justfile_vocabulary.specs.declared.keyword.Keyword.{Keyword}
use Rattle.justfile_token.specs.declared.token.Token.{Token}
use Rattle.justfile_model.specs.Readers.HeaderReader.{obeying}
use Rattle.justfile_model.specs.Readers.ReaderState as reading
use Rattle.justfile_model.specs.Meanings.Rules.{Broken}
use Rattle.justfile_parse_expression.specs.MethodResults.{IsExpressionError}
use Rattle.justfile_parse_expression.specs.View.{state_of}
use Rattle.justfile_parse_expression.specs.declared.parser_state.ParserState.{ParserState}
use Rattle.justfile_parse_expression.specs.TableReader as table
use Rattle.justfile_parse_expression.specs.TableReader.{Read, State}
use Rattle.justfile_parse_base.specs.declared.parse_error.ParseError.{ParseError}
use Rattle.justfile_parse_base.specs.declared.parse_error.ParseError.TheVariants as errors
use Rattle.justfile_parse_expression.specs.declared.expression_error.ExpressionError.TheVariants as causes
use Rattle.justfile_token.specs.declared.compile_error_kind.CompileErrorKind.{CompileErrorKind}
use Rattle.justfile_token.specs.declared.compile_error_kind.CompileErrorKind.TheVariants as kinds

-- The kind tells how many attributes come before a blank line or a comment.
abbrev pub IsExtraneous : ℕ → CompileErrorKind → Type 0
IsExtraneous count (kinds.ExtraneousAttributes count') = count' ≡ count
IsExtraneous count kind = ⊥

-- The kind names what follows a variadic parameter.
abbrev pub IsAfterVariadic : (name : Token) → CompileErrorKind → Type 0
IsAfterVariadic name (kinds.ParameterFollowsVariadicParameter parameter) = parameter.now ≡ lexeme_of name
IsAfterVariadic name kind = ⊥

-- The kind names an unknown setting.
abbrev pub IsUnknownSetting : (name : Token) → CompileErrorKind → Type 0
IsUnknownSetting name (kinds.UnknownSetting setting) = setting.now ≡ lexeme_of name
IsUnknownSetting name kind = ⊥

-- The kind tells which keywords are allowed in place of this token.
abbrev pub IsExpectedKeyword : List Keyword → (found : Token) → CompileErrorKind → Type 0
IsExpectedKeyword expected found (kinds.ExpectedKeyword expected' found') = (expected'.items ≡ expected) × (found' ≡ found)
IsExpectedKeyword expected found kind = ⊥

-- Nothing is read because a rule is broken, no construct follows the attributes, a name follows a variadic parameter, a setting is unknown,
-- or a word isn't one of the allowed ones; and the error tells which.
abbrev pub IsErrorOfRead : {Y : Type 0} → Result Y table.ReadError → CompileError → Type 0
IsErrorOfRead (Err (reading.BreaksRule broken)) e = IsErrorOfRule broken e
IsErrorOfRead (Err (reading.Extraneous count opener)) e = IsExtraneous count e.kind × (e.token ≡ opener)
IsErrorOfRead (Err (reading.AfterVariadic name)) e = IsAfterVariadic name e.kind × (e.token ≡ name)
IsErrorOfRead (Err (reading.UnknownSetting name)) e = IsUnknownSetting name e.kind × (e.token ≡ name)
IsErrorOfRead (Err (reading.ExpectedKeyword expected found)) e = IsExpectedKeyword expected found e.kind × (e.token ≡ found)
IsErrorOfRead _ e = ⊥

-- The fault tells why the tokens are refused, or memory ran out.
abbrev pub IsFaultOfRead : table.ReadError → Fault → Type 0
IsFaultOfRead refusal (faults.Compile e) = IsErrorOfRead {Y = Unit {0}} (Err refusal) e
IsFaultOfRead refusal faults.Memory = Unit {0}
IsFaultOfRead refusal faults.Numbers = ⊥

-- The error is that of the definitions: the tokens can't be read, or a rule is broken; if numbers ran out, `IsShort` holds.
abbrev pub IsParseError : {Y : Type 0} → ParseError → State → (IsShort : Type 0) → Result Y table.ReadError → Type 0
IsParseError (errors.Expression cause) s IsShort found = IsExpressionError cause s IsShort found
IsParseError (errors.Compile error) s IsShort found = IsErrorOfRead found error.value

-- What was returned, mapped by `view`, and the state after it are what the definitions read; an error is theirs.
abbrev pub ReadsRuled : {X Y : Type 0} → (X → Y) → Result X ParseError → State → Read Y → Type 0
ReadsRuled view (Ok x) s found = found ≡ Ok (view x, s)
ReadsRuled view (Err error) s found = IsParseError error s ⊥ found

-- What was returned, mapped by `view`, and the parser after it are what `read` reads from the parser before it; an error is that of `read`.
abbrev pub ParsesRuled : {X Y E : Type 0} (answer : E → List ℕ → Result (List ℕ) (List ℕ)) → (X → Y) → Result X ParseError
    → (old new : ParserState E) → (read : State → Read Y) → Type 0
ParsesRuled answer view result old new read = ReadsRuled view result (state_of answer new) (read (state_of answer old))

-- Nothing is returned if none of these rules is broken, and else the error for the first.
abbrev pub ChecksRules : {X : Type 0} → List (Broken Token) → Result X ParseError → Type 0
ChecksRules rules result = (s : State) → ReadsRuled (λ _. tt) result s (obeying rules s)

-- the parse error for a fault; it is `Memory` if there is no memory for the box of a compile error
abbrev pub IsErrorOfFault : ParseError → Fault → Type 0
IsErrorOfFault (errors.Compile error) (faults.Compile e) = error.value ≡ e
IsErrorOfFault (errors.Expression causes.Memory) (faults.Compile e) = Unit {0}
IsErrorOfFault (errors.Expression causes.Memory) faults.Memory = Unit {0}
IsErrorOfFault (errors.Expression causes.Numbers) faults.Numbers = Unit {0}
IsErrorOfFault _ _ = ⊥

-- the fault of a name after a variadic parameter
abbrev pub IsAfterVariadicFault : (name : Token) → Fault → Type 0
IsAfterVariadicFault name (faults.Compile e) = IsAfterVariadic name e.kind × (e.token ≡ name)
IsAfterVariadicFault name _ = ⊥
