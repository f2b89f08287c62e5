-- The compile errors for read errors.
use Rattle.std.specs.Prelude.{◌≡◌, Bool, IsTrue, List, [], ◌∷◌, ◌++◌, Option, Some, None, Err}
use Rattle.justfile_attribute_rules.specs.RuleErrors.{IsErrorOfRule}
use Rattle.justfile_token.specs.declared.compile_error.CompileError.{CompileError}
use Rattle.justfile_token.specs.declared.compile_error_kind.CompileErrorKind.{CompileErrorKind}
use Rattle.justfile_token.specs.declared.compile_error_kind.CompileErrorKind.TheVariants as kinds
use Rattle.justfile_token.specs.declared.token.Token.{Token}
use Rattle.justfile_literal.specs.Literal.{IsKindOf}
use Rattle.justfile_model.specs.Grammars.Conditions.{Conditions}
use Rattle.justfile_model.specs.Grammars.Expressions.{PastLimitAt}
use Rattle.justfile_model.specs.Grammars.Features.{ConstructFeatures}
use Rattle.justfile_model.specs.Grammars.Files.{FileTree, to_tokens}
use Rattle.justfile_model.specs.Grammars.Grammar.{File}
use Rattle.justfile_model.specs.Readers.ReaderState as reading
use Rattle.justfile_model.specs.Readers.ReadErrors.{IsDue}
use Rattle.justfile_model.specs.Meanings.Rules.{Broken, over_broken}
use Rattle.justfile_model.specs.Lexing.SignificantTokens.{SignificantToken}
use Rattle.justfile_model.specs.Lexing.Tok.{Tok, tok_of}
use Rattle.justfile_model.specs.Trees.Tree.{WrittenTree}
use Rattle.justfile_model.specs.Readers.TreeReader.{ReadError, tree_of_tokens}
use Rattle.justfile_parse_base.specs.ParseErrors.{IsAfterVariadic, IsExpectedKeyword, IsExtraneous, IsUnknownSetting}

-- the token is `t`, or the last of the tokens if there is none
abbrev pub IsAt : List SignificantToken → Option SignificantToken → Token → Type 0
IsAt tokens (Some t) token = tok_of token ≡ t.tok
IsAt tokens None token = (before : List SignificantToken) × (last : SignificantToken) × (tokens ≡ before ++ last ∷ []) × (tok_of token ≡ last.tok)

-- The kind is that of a token that no rule of the grammar allows. It leaves open which kinds of tokens are expected instead.
abbrev pub IsUnexpected : CompileErrorKind → Token → Type 0
IsUnexpected (kinds.UnexpectedToken expected found) token = found ≡ token.kind
IsUnexpected _ token = ⊥

-- The error is that of a broken rule, over tokens as the definitions see them.
pub record IsErrorOfBroken (broken : Broken Tok) (e : CompileError) : Type 0 where
  pub rule : Broken Token
  pub error : IsErrorOfRule rule e
  pub same : over_broken tok_of rule ≡ broken

-- The error has the kind and the token of the read error for these tokens. Running out of numbers isn't an error of the tokens.
abbrev pub IsErrorOf : List SignificantToken → ReadError → CompileError → Type 0
IsErrorOf tokens (reading.Unexpected at) e = IsUnexpected e.kind e.token × IsAt tokens at e.token
IsErrorOf tokens (reading.TooDeep at) e = (e.kind ≡ kinds.ParsingRecursionDepthExceeded) × IsAt tokens at e.token
IsErrorOf tokens (reading.NotCooked fault t) e = IsKindOf fault e.kind × (tok_of e.token ≡ t)
IsErrorOf tokens (reading.BreaksRule rule) e = IsErrorOfBroken rule e
IsErrorOf tokens (reading.Extraneous count opener) e = IsExtraneous count e.kind × (tok_of e.token ≡ opener)
IsErrorOf tokens (reading.AfterVariadic name) e = IsAfterVariadic e.token e.kind × (tok_of e.token ≡ name)
IsErrorOf tokens (reading.UnknownSetting name) e = IsUnknownSetting e.token e.kind × (tok_of e.token ≡ name)
IsErrorOf tokens (reading.ExpectedKeyword expected found) e = IsExpectedKeyword expected e.token e.kind × (tok_of e.token ≡ found)
IsErrorOf tokens (reading.NoNumber counters) e = ⊥

-- The error is the one for which the tokens are refused. If the grammar alone derives a tree, then it is that of the first literal without
-- a text or of the first broken rule, or the limit of depth is exceeded. In the last case, for any set of tokens at which all expressions
-- entered at the limit begin, the error is at one of them.
pub record IsRefused (conditions : Conditions) (tokens : List SignificantToken) (e : CompileError) : Type 0 where
  pub refusal : ReadError
  pub read : tree_of_tokens conditions tokens ≡ Err refusal
  pub error : IsErrorOf tokens refusal e
  pub breaks : (written : WrittenTree) (features : List (ConstructFeatures Tok)) → FileTree tokens written features → IsDue conditions (λ at. Unit {0}) written refusal
  pub breaks_at : (written : WrittenTree) (features : List (ConstructFeatures Tok)) (Hit : Option SignificantToken → Bool)
      → File to_tokens (PastLimitAt conditions.limit (λ at. IsTrue (Hit at))) written features tokens → IsDue conditions (λ at. IsTrue (Hit at)) written refusal

-- The error is that the limit of depth is exceeded. For any set of tokens at which all expressions entered at the limit begin, it is at one
-- of them.
pub record IsTooDeepError (conditions : Conditions) (tokens : List SignificantToken) (written : WrittenTree) (e : CompileError) : Type 0 where
  pub kind_is : e.kind ≡ kinds.ParsingRecursionDepthExceeded
  pub at_one : (features : List (ConstructFeatures Tok)) (Hit : Option SignificantToken → Bool)
      → File to_tokens (PastLimitAt conditions.limit (λ at. IsTrue (Hit at))) written features tokens
      → (at : Option SignificantToken) × IsTrue (Hit at) × IsAt tokens at e.token
