-- What a reader takes, the parser has no longer.
use Rattle.std.proofs.Common.{◌≡◌, ◌<◌, ℕ, List, Result, Ok, arith}
use Rattle.justfile_model.proofs.Readers.ReadingSteps.{Goes, past}
use Rattle.justfile_parse_expression.specs.TableReader.{Read}
use Rattle.justfile_parse_expression.specs.View.{tokens_left, state_of}
use Rattle.justfile_parse_expression.specs.declared.parser_state.ParserState.{ParserState}
use Rattle.justfile_parse_expression.proofs.Rest.{left_is}

-- a reader that takes at least one token leaves the parser fewer
pub shrinks : {X Y : Type 0} (answer : X → List ℕ → Result (List ℕ) (List ℕ)) (old new : ParserState X) (found : Read Y) (y : Y)
    → Goes (state_of answer old) found → found ≡ Ok (y, state_of answer new) → tokens_left new < tokens_left old
shrinks answer old new found y goes is = omega (arith, (past (state_of answer old) found (y, state_of answer new) goes is).0, left_is answer old, left_is answer new)
