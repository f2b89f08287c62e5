-- The grammar of the parts of items other than recipe headers: paths of files, parameters of functions, values of settings.
use Rattle.std.specs.Prelude.{ℕ, true, false, List, [], ◌∷◌, Option, codes}
use Rattle.justfile_vocabulary.specs.declared.token_kind.TokenKind.TheVariants as kinds
use Rattle.justfile_model.specs.Grammars.Expressions.{Tokens, IsKind, IsWord, NotNext, Expression, Sequence}
use Rattle.justfile_model.specs.Grammars.Features.{Noted}
use Rattle.justfile_model.specs.Grammars.Settings.{ExpressionForm, InterpreterForm, PlainForm, SettingForm, TruthForm}
use Rattle.justfile_model.specs.Lexing.SignificantTokens.{SignificantToken}
use Rattle.justfile_model.specs.Lexing.Tok.{Tok}
use Rattle.justfile_model.specs.Trees.Tree as tree
use Rattle.justfile_model.specs.Trees.Tree.{Expr, Exprs, Quoted, SettingValue}

-- the next token is a comment, a line end or the end of the file
pub data EndsLine : Tokens → Type 0 where
  at_comment : {token : SignificantToken} {rest : Tokens} → IsKind kinds.Comment token → EndsLine (token ∷ rest)
  at_line_end : {token : SignificantToken} {rest : Tokens} → IsKind kinds.Eol token → EndsLine (token ∷ rest)
  at_file_end : {token : SignificantToken} {rest : Tokens} → IsKind kinds.Eof token → EndsLine (token ∷ rest)

-- the next tokens aren't a name and a string
abbrev pub NotNamedString : Tokens → Type 0
NotNamedString (name ∷ string ∷ tokens) = IsKind kinds.Identifier name → IsKind kinds.StringToken string → ⊥
NotNamedString tokens = Unit {0}

-- the next token isn't a string, and the next two aren't a name and a string
pub record NoPath (rest : Tokens) : Type 0 where
  pub unmarked : NotNext kinds.StringToken rest
  pub marked : NotNamedString rest

module _ {A : Type 0} (leaf : Tok → A) where
  -- the path of a file: a string with the optional mark `x`
  pub data FilePath : Quoted A → Tokens → Tokens → Type 0 where
    plain : {token : SignificantToken} {rest : Tokens} → IsKind kinds.StringToken token
        → FilePath (record { expanded = false; token = leaf token.tok }) (token ∷ rest) rest
    expanded : {mark token : SignificantToken} {rest : Tokens} → IsWord (codes "x") mark → IsKind kinds.StringToken token
        → FilePath (record { expanded = true; token = leaf token.tok }) (mark ∷ token ∷ rest) rest

  -- names separated by commas, up to and including the closing parenthesis, with an optional trailing comma
  pub data Names : List A → Tokens → Tokens → Type 0 where
    none : {closer : SignificantToken} {rest : Tokens} → IsKind kinds.ParenR closer
        → Names [] (closer ∷ rest) rest
    last : {name closer : SignificantToken} {rest : Tokens} → IsKind kinds.Identifier name → IsKind kinds.ParenR closer
        → Names (leaf name.tok ∷ []) (name ∷ closer ∷ rest) rest
    more : {names : List A} {name comma : SignificantToken} {tokens rest : Tokens} → IsKind kinds.Identifier name → IsKind kinds.Comma comma
        → Names names tokens rest
        → Names (leaf name.tok ∷ names) (name ∷ comma ∷ tokens) rest

module _ {A B : Type 0} (leaf : Tok → A) (position : Tok → B) (MayEnter : ℕ → Option SignificantToken → Type 0) where
  -- the value of a setting of this form, after the setting's name
  pub data ValueOf : SettingForm → SettingValue A B → List (Noted B) → Tokens → Tokens → Type 0 where
    bare : {rest : Tokens} → EndsLine rest
        → ValueOf TruthForm (tree.Truth true) [] rest rest
    yes : {operator word : SignificantToken} {rest : Tokens} → IsKind kinds.ColonEquals operator → IsWord (codes "true") word
        → ValueOf TruthForm (tree.Truth true) [] (operator ∷ word ∷ rest) rest
    no : {operator word : SignificantToken} {rest : Tokens} → IsKind kinds.ColonEquals operator → IsWord (codes "false") word
        → ValueOf TruthForm (tree.Truth false) [] (operator ∷ word ∷ rest) rest
    expression : {e : Expr A B} {fs : List (Noted B)} {operator : SignificantToken} {tokens rest : Tokens} → IsKind kinds.ColonEquals operator
        → Expression leaf position MayEnter false 0 e fs tokens rest
        → ValueOf ExpressionForm (tree.Value e) fs (operator ∷ tokens) rest
    -- A separate rule states that the expression is a plain literal.
    plain : {e : Expr A B} {fs : List (Noted B)} {operator : SignificantToken} {tokens rest : Tokens} → IsKind kinds.ColonEquals operator
        → Expression leaf position MayEnter false 0 e fs tokens rest
        → ValueOf PlainForm (tree.Value e) fs (operator ∷ tokens) rest
    interpreter : {e : Expr A B} {es : Exprs A B} {fs : List (Noted B)} {operator opener : SignificantToken} {tokens rest : Tokens}
        → IsKind kinds.ColonEquals operator → IsKind kinds.BracketL opener → Sequence leaf position MayEnter kinds.BracketR 0 (tree.more e es) fs tokens rest
        → ValueOf InterpreterForm (tree.Interpreter e es) fs (operator ∷ opener ∷ tokens) rest
