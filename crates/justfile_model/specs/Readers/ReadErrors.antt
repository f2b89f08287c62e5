-- The errors that can be reported for tokens that derive a written tree by the grammar alone.
use Rattle.std.specs.Prelude.{◌≡◌, ◌⊎◌, ℕ, List, ◌∷◌, ◌++◌, map, Option, Err}
use Rattle.std.specs.List.{Contains}
use Rattle.justfile_model.specs.Lexing.Tok.{Tok}
use Rattle.justfile_model.specs.Lexing.SignificantTokens.{SignificantToken}
use Rattle.justfile_model.specs.Trees.Tree.{WrittenTree, lexeme}
use Rattle.justfile_model.specs.Grammars.Conditions.{Conditions}
use Rattle.justfile_model.specs.LiteralTexts.Literals.{Literal, over_literal, token_of, LiteralFault, Expansions, cooked_text, AreCookedTexts}
use Rattle.justfile_model.specs.Grammars.Files.{all_literals, broken}
use Rattle.justfile_model.specs.Readers.ReaderState.{BreaksRule, TooDeep, NotCooked}
use Rattle.justfile_model.specs.Meanings.Rules.{Broken}
use Rattle.justfile_model.specs.Trees.LeafView.{views_tokens}
use Rattle.justfile_model.specs.Readers.TreeReader.{ReadError}

-- The error is the fault of the first literal without a text, at its token.
pub record LacksText (expander : Expansions) (all : List (Literal Tok)) (r : ReadError) : Type 0 where
  pub before : List (Literal Tok)
  pub literal : Literal Tok
  pub others : List (Literal Tok)
  pub all_is : all ≡ before ++ literal ∷ others
  pub cooked : List (List ℕ)
  pub cooks : AreCookedTexts expander (map (over_literal lexeme) before) cooked
  pub fault : LiteralFault
  pub no_text : cooked_text expander (over_literal lexeme literal) ≡ Err fault
  pub refusal_is : r ≡ NotCooked fault (token_of literal)

-- The error is that expressions are nested too deeply, at one of these tokens.
pub record IsTooDeep (Hit : Option SignificantToken → Type 0) (r : ReadError) : Type 0 where
  pub token : Option SignificantToken
  pub hit : Hit token
  pub refusal_is : r ≡ TooDeep token

-- The error is one of the rules that the tree breaks; the definition doesn't say which one.
pub record IsBroken (conditions : Conditions) (written : WrittenTree) (r : ReadError) : Type 0 where
  pub rule : Broken Tok
  pub among : Contains (broken conditions.current (views_tokens conditions.expander) written) rule
  pub refusal_is : r ≡ BreaksRule rule

-- one of these three, where the depth limit doesn't apply to expressions that begin at some tokens
abbrev pub IsDue : Conditions → (Hit : Option SignificantToken → Type 0) → WrittenTree → ReadError → Type 0
IsDue conditions Hit written r = LacksText conditions.expander (all_literals written) r ⊎ IsTooDeep Hit r ⊎ IsBroken conditions written r
