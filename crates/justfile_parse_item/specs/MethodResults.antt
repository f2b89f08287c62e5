-- The methods of the parser of items return what the definitions read.
use Rattle.std.specs.Prelude.{◌≡◌, ℕ, ◌≤◌, ◌+◌, List, None, Result}
use Rattle.justfile_numbers.specs.Numerator.{bindings_of, constants_of, recipes_of}
use Rattle.justfile_numbers.specs.declared.numerator.Numerator.{Numerator}
use Rattle.justfile_vocabulary.specs.declared.token_kind.TokenKind.TheVariants as kinds
use Rattle.justfile_token.specs.declared.token.Token.{Token}
use Rattle.justfile_model.specs.Trees.Tree.{OrderedItem}
use Rattle.justfile_model.specs.Readers.ReaderState.{Counters}
use Rattle.justfile_parse_item.specs.ItemTable.{ReadItem}
use Rattle.justfile_parse_base.specs.ParseErrors.{ParsesRuled}
use Rattle.justfile_parse_base.specs.declared.parse_error.ParseError.{ParseError}
use Rattle.justfile_parse_expression.specs.TableReader.{State, accept}
use Rattle.justfile_parse_expression.specs.declared.parser_state.ParserState.{ParserState}
use Rattle.justfile_expression.specs.LeafTree.{Leaf}

-- Only bindings and recipes were given numbers, together at most `most`.
pub record CountersMoved (old new : Numerator) (most : ℕ) : Type 0 where
  pub least : bindings_of old ≤ bindings_of new
  pub recipes_least : recipes_of old ≤ recipes_of new
  pub most_is : bindings_of new + recipes_of new ≤ bindings_of old + recipes_of old + most
  pub constants : constants_of new ≡ constants_of old

-- No expression is open, and no line end comes next: an item begins here.
pub record IsAtItem (s : State) : Type 0 where
  pub closed : s.depth ≡ 0
  pub item : accept kinds.Eol s ≡ None

-- For a construct that takes no number: what was returned and the parser after it are what `read` reads from the parser before it, with
-- any counters.
unfoldable pub ParsesUncounted : {X E : Type 0} (answer : E → List ℕ → Result (List ℕ) (List ℕ)) → (X → OrderedItem Leaf Token ℕ)
    → Result X ParseError → (old new : ParserState E) → (read : Counters → State → ReadItem) → Type 0
ParsesUncounted answer view result old new read = (n : Counters) → ParsesRuled answer (λ x. (view x, n)) result old new (read n)
