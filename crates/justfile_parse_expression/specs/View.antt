-- The parser as the definitions see it: a state of the reader.
use Rattle.std.specs.Prelude.{◌≡◌, ℕ, ◌<◌, ◌-◌, List, Option, Some, None, drop, length, Result}
use Rattle.justfile_token.specs.declared.token.Token.{Token}
use Rattle.justfile_vocabulary.specs.declared.list_feature.ListFeature.{ListFeature}
use Rattle.justfile_parse_expression.specs.Conditions.{conditions_of}
use Rattle.justfile_parse_expression.specs.TableReader.{Run, State}
use Rattle.justfile_parse_expression.specs.declared.parser_state.ParserState.{ParserState}

unfoldable pub state_at : Run → (depth n : ℕ) → List (ListFeature × Token) → State
state_at run depth n features = record { run = run; depth = depth; left = drop n run.table; noted = features }

module _ {X : Type 0} (answer : X → List ℕ → Result (List ℕ) (List ℕ)) where
  abbrev pub run_of : ParserState X → Run
  run_of p = record { conditions = conditions_of answer p.expander.now p.current p.limit; table = p.tokens.now; file_depth = p.file_depth; import_offsets = p.import_offsets.now }

  -- the state of the parser if token `n` of the table were next
  abbrev pub state_from : ParserState X → ℕ → State
  state_from p n = state_at (run_of p) p.depth n p.list_features.items

  unfoldable pub state_of : ParserState X → State
  state_of p = state_from p p.next

-- how many tokens of the table are left
unfoldable pub tokens_left : {X : Type 0} → ParserState X → ℕ
tokens_left p = length p.tokens.now - p.next

-- If something was taken, fewer tokens are left. If nothing was, the parser is unchanged.
abbrev pub Moves : {X Y : Type 0} → Option Y → (old new : ParserState X) → Type 0
Moves (Some y) old new = tokens_left new < tokens_left old
Moves None old new = new ≡ old
