-- What follows a variadic parameter.
use Rattle.std.proofs.Common.{◌≡◌, Some, Err}
use Rattle.justfile_token.specs.declared.fault.Fault.{Fault}
use Rattle.justfile_token.specs.declared.fault.Fault.TheVariants as faults
use Rattle.justfile_token.specs.declared.token.Token.{Token}
use Rattle.justfile_vocabulary.specs.declared.token_kind.TokenKind.TheVariants as kinds
use Rattle.justfile_model.specs.Readers.HeaderReader as headers
use Rattle.justfile_model.specs.Readers.ReaderState as reading
use Rattle.justfile_parse_base.proofs.RuleSteps.{fails_with}
use Rattle.justfile_parse_base.specs.ParseErrors.{IsParseError, IsErrorOfFault, IsAfterVariadicFault, IsFaultOfRead}
use Rattle.justfile_parse_base.specs.declared.parse_error.ParseError.{ParseError}
use Rattle.justfile_parse_expression.specs.TableReader.{State, accept, leaves}
use Rattle.justfile_parse_expression.specs.Significant.{TableToken}
use Rattle.justfile_parse_header.specs.HeaderTable.{expect_no_name}

tells_after : (name : Token) (fault : Fault) → IsAfterVariadicFault name fault → IsFaultOfRead (reading.AfterVariadic name) fault
tells_after name (faults.Compile e) k = k
tells_after name faults.Memory k = absurd k
tells_after name faults.Numbers k = absurd k

-- a name follows
pub name_follows : (s : State) (name : TableToken) (next : State) (error : ParseError) (fault : Fault) → accept kinds.Identifier s ≡ Some (name, next)
    → IsErrorOfFault error fault → IsAfterVariadicFault name.0 fault → IsParseError error s ⊥ (expect_no_name s)
unfolding headers.expect_no_name leaves
name_follows s name next error fault found h k = rw found (fails_with (Unit {0} × State) (reading.AfterVariadic name.0) fault error s h (tells_after name.0 fault k))
