-- The grammar of attributes: which significant tokens are which written attributes. `Grammar` is the same for items.
use Rattle.std.specs.Prelude.{◌≡◌, ℕ, Bool, true, false, List, [], ◌∷◌, ◌++◌, Option, Some, None, codes}
use Rattle.std.specs.Str.{trim_end}
use Rattle.justfile_vocabulary.specs.declared.token_kind.TokenKind.TheVariants as kinds
use Rattle.justfile_model.specs.Meanings.AttributeKinds.{name_takes_keys}
use Rattle.justfile_model.specs.Grammars.Expressions.{Tokens, IsKind, NotNext, IsMarked, Expression}
use Rattle.justfile_model.specs.Grammars.Features.{Noted}
use Rattle.justfile_model.specs.Lexing.SignificantTokens.{SignificantToken}
use Rattle.justfile_model.specs.Lexing.Tok.{Tok}
use Rattle.justfile_model.specs.Trees.Tree as tree
use Rattle.justfile_model.specs.Trees.Tree.{Argument, Expr, WrittenAttribute, bare_attribute, commented_line}

-- The next token is a name, and doesn't mark a string after it.
abbrev pub IsKey : Tokens → Type 0
IsKey [] = ⊥
IsKey (t ∷ []) = IsKind kinds.Identifier t
IsKey (t ∷ u ∷ ts) = IsKind kinds.Identifier t × (IsMarked (codes "x") kinds.StringToken t u → ⊥)

module _ {A B : Type 0} (leaf : Tok → A) (position : Tok → B) (MayEnter : ℕ → Option SignificantToken → Type 0) where
  -- An argument of an attribute. If the attribute takes keys, a name at the start of an argument is a key.
  pub data ArgumentOf : (keys : Bool) → Argument A B → List (Noted B) → Tokens → Tokens → Type 0 where
    positional : {keys : Bool} {e : Expr A B} {fs : List (Noted B)} {first : SignificantToken} {tokens rest : Tokens}
        → (keys ≡ true → IsKey (first ∷ tokens) → ⊥) → Expression leaf position MayEnter false 0 e fs (first ∷ tokens) rest
        → ArgumentOf keys (tree.Positional (position first.tok) e) fs (first ∷ tokens) rest
    bare : {key : SignificantToken} {rest : Tokens} → IsKey (key ∷ rest) → NotNext kinds.Equals rest
        → ArgumentOf true (tree.Bare (leaf key.tok)) [] (key ∷ rest) rest
    keyed : {e : Expr A B} {fs : List (Noted B)} {key equals : SignificantToken} {tokens rest : Tokens} → IsKind kinds.Identifier key
        → IsKind kinds.Equals equals → Expression leaf position MayEnter false 0 e fs tokens rest
        → ArgumentOf true (tree.Keyed (leaf key.tok) e) fs (key ∷ equals ∷ tokens) rest

  -- Arguments up to and including the closing parenthesis. A trailing comma is allowed.
  pub data Arguments : (keys : Bool) → List (Argument A B) → List (Noted B) → Tokens → Tokens → Type 0 where
    none : {keys : Bool} {closer : SignificantToken} {rest : Tokens} → IsKind kinds.ParenR closer
        → Arguments keys [] [] (closer ∷ rest) rest
    last : {keys : Bool} {a : Argument A B} {fs : List (Noted B)} {closer : SignificantToken} {tokens rest : Tokens} → ArgumentOf keys a fs tokens (closer ∷ rest)
        → IsKind kinds.ParenR closer
        → Arguments keys (a ∷ []) fs tokens rest
    more : {keys : Bool} {a : Argument A B} {others : List (Argument A B)} {fs gs : List (Noted B)} {comma : SignificantToken} {tokens next rest : Tokens}
        → ArgumentOf keys a fs tokens (comma ∷ next) → IsKind kinds.Comma comma → Arguments keys others gs next rest
        → Arguments keys (a ∷ others) (fs ++ gs) tokens rest

  -- An attribute without its comment: a name, a name with a colon and an expression, or a name with arguments in parentheses.
  pub data AttributeOf : WrittenAttribute A B → List (Noted B) → Tokens → Tokens → Type 0 where
    plain : {name : SignificantToken} {rest : Tokens} → IsKind kinds.Identifier name → NotNext kinds.Colon rest → NotNext kinds.ParenL rest
        → AttributeOf (bare_attribute (leaf name.tok) []) [] (name ∷ rest) rest
    short : {e : Expr A B} {fs : List (Noted B)} {name colon first : SignificantToken} {tokens rest : Tokens} → IsKind kinds.Identifier name
        → IsKind kinds.Colon colon → Expression leaf position MayEnter false 0 e fs (first ∷ tokens) rest
        → AttributeOf (bare_attribute (leaf name.tok) (tree.Positional (position first.tok) e ∷ [])) fs (name ∷ colon ∷ first ∷ tokens) rest
    long : {arguments : List (Argument A B)} {fs : List (Noted B)} {name opener : SignificantToken} {tokens rest : Tokens} → IsKind kinds.Identifier name
        → IsKind kinds.ParenL opener → Arguments (name_takes_keys name.tok.lexeme) arguments fs tokens rest
        → AttributeOf (bare_attribute (leaf name.tok) arguments) fs (name ∷ opener ∷ tokens) rest

  -- Attributes separated by commas, up to and including the closing bracket.
  pub data Bracketed : List (WrittenAttribute A B) → List (Noted B) → Tokens → Tokens → Type 0 where
    last : {w : WrittenAttribute A B} {fs : List (Noted B)} {closer : SignificantToken} {tokens rest : Tokens} → AttributeOf w fs tokens (closer ∷ rest)
        → IsKind kinds.BracketR closer
        → Bracketed (w ∷ []) fs tokens rest
    more : {w : WrittenAttribute A B} {ws : List (WrittenAttribute A B)} {fs gs : List (Noted B)} {comma : SignificantToken} {tokens next rest : Tokens}
        → AttributeOf w fs tokens (comma ∷ next) → IsKind kinds.Comma comma → Bracketed ws gs next rest
        → Bracketed (w ∷ ws) (fs ++ gs) tokens rest

  -- The end of a line of attributes, with an optional comment. The comment's text has no trailing whitespace.
  pub data AttributesEnd : (comment : Option (List ℕ)) → Tokens → Tokens → Type 0 where
    bare : {newline : SignificantToken} {rest : Tokens} → IsKind kinds.Eol newline
        → AttributesEnd None (newline ∷ rest) rest
    commented : {comment newline : SignificantToken} {rest : Tokens} → IsKind kinds.Comment comment → IsKind kinds.Eol newline
        → AttributesEnd (Some (trim_end comment.tok.lexeme)) (comment ∷ newline ∷ rest) rest

  -- The lines of attributes before a construct. The comment at the end of a line belongs to the last attribute of the line.
  pub data AttributeLines : List (WrittenAttribute A B) → List (Noted B) → Tokens → Tokens → Type 0 where
    none : {rest : Tokens} → NotNext kinds.BracketL rest
        → AttributeLines [] [] rest rest
    line : {ws others : List (WrittenAttribute A B)} {fs gs : List (Noted B)} {comment : Option (List ℕ)} {opener : SignificantToken} {tokens end next rest : Tokens}
        → IsKind kinds.BracketL opener → Bracketed ws fs tokens end → AttributesEnd comment end next → AttributeLines others gs next rest
        → AttributeLines (commented_line comment ws ++ others) (fs ++ gs) (opener ∷ tokens) rest
