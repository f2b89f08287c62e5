-- What parsing returns.
use Rattle.std.specs.Prelude.{◌≡◌, ℕ, ◌⊎◌, ◌+◌, List, map, All, None}
use Rattle.std.specs.Str.{IsUtf8}
use Rattle.justfile_token.specs.CompileErrorKind.{internal_message, tokens_in}
use Rattle.justfile_token.specs.declared.compile_error.CompileError.{CompileError}
use Rattle.justfile_numbers.specs.Numerator.{bindings_of, recipes_of}
use Rattle.justfile_token.specs.declared.fault.Fault.{Fault}
use Rattle.justfile_token.specs.declared.fault.Fault.TheVariants as faults
use Rattle.justfile_numbers.specs.declared.numerator.Numerator.{Numerator}
use Rattle.justfile_token.specs.declared.token.Token.{Token}
use Rattle.justfile_round_trip.specs.RoundTrip.{TextDerives}
use Rattle.justfile_ast.specs.Ast.{tree_of, features_of, cooked_texts, binding_numbers, recipe_numbers}
use Rattle.justfile_ast.specs.declared.ast.Ast.{Ast}
use Rattle.justfile_model.specs.Lexing.LexResult.{IsFrom, IsLexicalError}
use Rattle.justfile_model.specs.Grammars.Conditions.{Conditions, with_limit}
use Rattle.justfile_model.specs.Grammars.Features.{Noted}
use Rattle.justfile_model.specs.Grammars.Files.{FileDerives, NumbersFrom, NumbersSuffice, bindings, recipes, literals}
use Rattle.justfile_model.specs.Lexing.Lexed.{Lexed}
use Rattle.justfile_model.specs.LiteralTexts.Literals.{over_literal, Expansions, AreCookedTexts}
use Rattle.justfile_model.specs.Lexing.SignificantTokens.{significant_tokens}
use Rattle.justfile_model.specs.Lexing.Tok.{Tok, tok_of}
use Rattle.justfile_model.specs.Trees.Tree.{Tree, lexeme}
use Rattle.justfile_model.specs.Meanings.UnstableFeatures.{unstable_features}
use Rattle.justfile_vocabulary.specs.declared.list_feature.ListFeature.{ListFeature}
use Rattle.justfile_parse_file.specs.Errors.{IsRefused, IsTooDeepError}
pub use Rattle.justfile_parse_docs.specs.ParsedItems.{IsFilledItem, IsFilledLiteral, IsFilledSetting, IsInTable}
pub use Rattle.justfile_parse_docs.specs.ParsedItems.{CountersMoved}
use Rattle.justfile_parse_file.specs.WantsNumber.{WantsNumber}

-- The tokens are those of one text, and have one source.
pub record IsOneLex (tokens : List Token) : Type 0 where
  pub text : List ℕ
  pub utf8 : IsUtf8 text
  pub lexed : Lexed text (map tok_of tokens)
  pub source : All (λ t. t.src.now ≡ text) tokens

-- What a file has besides its tree: the texts of its literals, the numbers of its bindings and recipes, which begin with the numerator's
-- next, and the derived values of its items. Its uses of features are at tokens that `IsToken` allows, and it uses the unstable features
-- that its tree uses.
pub record IsFilled (expander : Expansions) (IsToken : Token → Type 0) (file_depth : ℕ) (import_offsets : List ℕ) (old new : Numerator) (ast : Ast) : Type 0 where
  pub cooks : AreCookedTexts expander (map (over_literal lexeme) (literals (tree_of ast))) (cooked_texts ast)
  pub numbered : NumbersFrom (bindings_of old) (binding_numbers ast)
  pub recipes_numbered : NumbersFrom (recipes_of old) (recipe_numbers ast)
  pub counted : bindings_of new ≡ bindings_of old + bindings (tree_of ast)
  pub recipes_counted : recipes_of new ≡ recipes_of old + recipes (tree_of ast)
  pub given : All (IsFilledItem expander IsToken file_depth import_offsets) ast.items.items
  pub noted : All (λ (x : ListFeature × Token). IsToken x.1) ast.list_features.items
  pub unstable : ast.unstable_features.keys ≡ unstable_features (tree_of ast)

-- The file's tokens derive its tree and its features.
pub record IsParsed (conditions : Conditions) (tokens : List Tok) (IsToken : Token → Type 0) (file_depth : ℕ) (import_offsets : List ℕ) (old new : Numerator) (ast : Ast) : Type 0 where
  pub derives : FileDerives conditions (significant_tokens tokens) (tree_of ast) (features_of ast)
  pub filled : IsFilled conditions.expander IsToken file_depth import_offsets old new ast

-- The tokens derive no tree. The error is the one for which they are refused, is at one of the tokens, holds only tokens among them, and
-- isn't an internal error. If a tree derives under another limit, the error is that this limit is exceeded.
pub record IsCompileError (conditions : Conditions) (tokens : List Tok) (IsToken : Token → Type 0) (e : CompileError) : Type 0 where
  pub derives_none : (tree : Tree) (features : List (Noted Tok)) → FileDerives conditions (significant_tokens tokens) tree features → ⊥
  pub among : IsToken e.token
  pub held : All IsToken (tokens_in e.kind)
  pub not_internal : internal_message e.kind ≡ None
  pub refused : IsRefused conditions (significant_tokens tokens) e
  pub deep : (limit : ℕ) (tree : Tree) (features : List (Noted Tok)) (d : FileDerives (with_limit limit conditions) (significant_tokens tokens) tree features)
      → IsTooDeepError conditions (significant_tokens tokens) d.written e

-- Why the tokens aren't a file. `Numbers`: a number was needed, its counter had reached its maximum, and the numbers suffice for no tree
-- that derives under any limit. `Memory` implies nothing.
abbrev pub IsUnparsed : Conditions → List Tok → (Token → Type 0) → Numerator → Numerator → Fault → Type 0
IsUnparsed conditions tokens IsToken old new (faults.Compile e) = IsCompileError conditions tokens IsToken e
IsUnparsed conditions tokens IsToken old new faults.Memory = Unit {0}
IsUnparsed conditions tokens IsToken old new faults.Numbers =
    WantsNumber conditions (significant_tokens tokens) old new
    × ((limit : ℕ) (tree : Tree) (features : List (Noted Tok)) → FileDerives (with_limit limit conditions) (significant_tokens tokens) tree features
    → NumbersSuffice (bindings_of old) (recipes_of old) tree → ⊥)

-- The text derives the file's tree and its features.
pub record IsParsedText (conditions : Conditions) (path src : List ℕ) (file_depth : ℕ) (import_offsets : List ℕ) (old new : Numerator) (ast : Ast) : Type 0 where
  pub derives : TextDerives conditions src (tree_of ast) (features_of ast)
  pub filled : IsFilled conditions.expander (IsFrom path src) file_depth import_offsets old new ast

-- The text has tokens, and the error is the one for which they are refused.
pub record IsTextRejected (conditions : Conditions) (src : List ℕ) (e : CompileError) : Type 0 where
  pub tokens : List Tok
  pub lexed : Lexed src tokens
  pub refused : IsRefused conditions (significant_tokens tokens) e

-- The text derives no tree. The error is at a part of the text and isn't an internal error: it is the fault of lexing, which leaves the
-- numerator unchanged, or the one for which the tokens are refused. The tokens in it have this path and this source. If the text derives a
-- tree under another limit, the error is that this limit is exceeded.
pub record IsTreeless (conditions : Conditions) (path src : List ℕ) (old new : Numerator) (e : CompileError) : Type 0 where
  pub derives_none : (tree : Tree) (features : List (Noted Tok)) → TextDerives conditions src tree features → ⊥
  pub from : IsFrom path src e.token
  pub held : All (IsFrom path src) (tokens_in e.kind)
  pub not_internal : internal_message e.kind ≡ None
  pub cause : (IsLexicalError path src e × (new ≡ old)) ⊎ IsTextRejected conditions src e
  pub deep : (limit : ℕ) (tree : Tree) (features : List (Noted Tok)) (d : TextDerives (with_limit limit conditions) src tree features)
      → IsTooDeepError conditions (significant_tokens d.tokens) d.file.written e

-- A number is needed in the text's tokens, and its counter, as it is in the new numerator, has reached its maximum.
pub record TextWantsNumber (conditions : Conditions) (src : List ℕ) (old new : Numerator) : Type 0 where
  pub tokens : List Tok
  pub lexed : Lexed src tokens
  pub wants : WantsNumber conditions (significant_tokens tokens) old new

-- Why a text has no tree. `Numbers`: a number was needed, its counter had reached its maximum, and the numbers suffice for no tree that
-- derives under any limit. `Memory` implies nothing.
abbrev pub HasNoTree : Conditions → (path src : List ℕ) → Numerator → Numerator → Fault → Type 0
HasNoTree conditions path src old new (faults.Compile e) = IsTreeless conditions path src old new e
HasNoTree conditions path src old new faults.Memory = Unit {0}
HasNoTree conditions path src old new faults.Numbers =
    TextWantsNumber conditions src old new
    × ((limit : ℕ) (tree : Tree) (features : List (Noted Tok)) → TextDerives (with_limit limit conditions) src tree features
    → NumbersSuffice (bindings_of old) (recipes_of old) tree → ⊥)
