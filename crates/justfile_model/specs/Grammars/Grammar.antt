-- The grammar of files: which significant tokens are which items. `Relation projection MayEnter item features tokens rest` means that
-- `tokens` are the item followed by `rest`. `projection` maps tokens to what the tree has of them, and `MayEnter` says at which depth,
-- before which token, an expression can begin. The features are those of the expressions, and for files those of each construct. The trees
-- are written trees: no rules are checked other than those of form.
use Rattle.std.specs.Prelude.{◌≡◌, ℕ, false, true, List, [], ◌∷◌, ◌++◌, Option, Some, None, codes}
use Rattle.std.specs.Str.{trim_end}
use Rattle.justfile_vocabulary.specs.Keyword.{keyword_text}
use Rattle.justfile_vocabulary.specs.declared.keyword.Keyword.{Keyword}
use Rattle.justfile_vocabulary.specs.declared.token_kind.TokenKind.TheVariants as kinds
use Rattle.justfile_model.specs.Grammars.AttributeLines.{AttributeLines}
use Rattle.justfile_model.specs.Lexing.Tok.{Tok}
use Rattle.justfile_model.specs.Lexing.SignificantTokens.{SignificantToken}
use Rattle.justfile_model.specs.Trees.Tree as tree
use Rattle.justfile_model.specs.Trees.Tree.{Expr, Fragment, BodyLine, Line, Quoted, WrittenAttribute, WrittenItem, SettingValue, Content, Construct, Header, assignment_of, bare_module, bare_recipe, trimmed}
use Rattle.justfile_model.specs.Grammars.Features.{ConstructFeatures, Noted}
use Rattle.justfile_model.specs.Grammars.Headers.{HeaderOf, PathOf}
use Rattle.justfile_model.specs.Grammars.Expressions.{IsKind, IsWord, Expression}
use Rattle.justfile_model.specs.Grammars.ItemParts.{EndsLine, FilePath, Names, NoPath, ValueOf}
use Rattle.justfile_model.specs.Grammars.Settings.{SettingForm, setting_form}

-- the projections of tokens to what a tree has of them
pub record TokenProjection (A B C S : Type 0) : Type 0 where
  -- of a name, a literal or a text
  pub leaf : Tok → A
  -- of an operator, a keyword or a delimiter, and of a token at which a feature is noted
  pub position : Tok → B
  -- of the first token of a body line
  pub number : Tok → C
  -- of the star of a dependency
  pub star : Tok → S

module _ {A B : Type 0} (leaf : Tok → A) (position : Tok → B) (MayEnter : ℕ → Option SignificantToken → Type 0) where
  -- the rest of a body line: fragments, and the `Eol` at its end; the last line of a body can end without one, before the `Dedent`
  pub data LineRest : List (Fragment A B) → List (Noted B) → List SignificantToken → List SignificantToken → Type 0 where
    line_ends : {token : SignificantToken} {rest : List SignificantToken} → IsKind kinds.Eol token
        → LineRest [] [] (token ∷ rest) rest
    body_ends : {token : SignificantToken} {rest : List SignificantToken} → IsKind kinds.Dedent token
        → LineRest [] [] (token ∷ rest) (token ∷ rest)
    text : {fragments : List (Fragment A B)} {fs : List (Noted B)} {token : SignificantToken} {tokens rest : List SignificantToken} → IsKind kinds.Text token
        → LineRest fragments fs tokens rest
        → LineRest (tree.Text (leaf token.tok) ∷ fragments) fs (token ∷ tokens) rest
    interpolation : {e : Expr A B} {fragments : List (Fragment A B)} {es fs : List (Noted B)} {start end : SignificantToken} {tokens others rest : List SignificantToken}
        → IsKind kinds.InterpolationStart start → Expression leaf position MayEnter false 0 e es tokens (end ∷ others) → IsKind kinds.InterpolationEnd end
        → LineRest fragments fs others rest
        → LineRest (tree.Interpolation e ∷ fragments) (es ++ fs) (start ∷ tokens) rest

-- The tokens between the header of a recipe and its body: an optional comment, the line end, and the indent. The comment's text has no
-- trailing whitespace.
pub data BeforeBody : (comment : Option (List ℕ)) → List SignificantToken → List SignificantToken → Type 0 where
  at_once : {newline indent : SignificantToken} {rest : List SignificantToken} → IsKind kinds.Eol newline → IsKind kinds.Indent indent
      → BeforeBody None (newline ∷ indent ∷ rest) rest
  commented : {comment newline indent : SignificantToken} {rest : List SignificantToken} → IsKind kinds.Comment comment → IsKind kinds.Eol newline
      → IsKind kinds.Indent indent
      → BeforeBody (Some (trim_end comment.tok.lexeme)) (comment ∷ newline ∷ indent ∷ rest) rest

abbrev pub NotEmpty : {X : Type 0} → List X → Type 0
NotEmpty [] = ⊥
NotEmpty (x ∷ xs) = Unit {0}

module _ {A B C S : Type 0} (projection : TokenProjection A B C S) (MayEnter : ℕ → Option SignificantToken → Type 0) where
  -- the lines of a body, and the `Dedent` at its end
  pub data BodyLines : List (BodyLine A B C) → List (Noted B) → List SignificantToken → List SignificantToken → Type 0 where
    no_line : {token : SignificantToken} {rest : List SignificantToken} → IsKind kinds.Dedent token
        → BodyLines [] [] (token ∷ rest) rest
    empty_line : {lines : List (BodyLine A B C)} {fs : List (Noted B)} {token : SignificantToken} {tokens rest : List SignificantToken} → IsKind kinds.Eol token
        → BodyLines lines fs tokens rest
        → BodyLines (Line (projection.number token.tok) [] ∷ lines) fs (token ∷ tokens) rest
    some_line : {f : Fragment A B} {fragments : List (Fragment A B)} {lines : List (BodyLine A B C)} {fs gs : List (Noted B)} {first : SignificantToken}
        {tokens between rest : List SignificantToken} → LineRest projection.leaf projection.position MayEnter (f ∷ fragments) fs (first ∷ tokens) between
        → BodyLines lines gs between rest
        → BodyLines (Line (projection.number first.tok) (f ∷ fragments) ∷ lines) (fs ++ gs) (first ∷ tokens) rest

  -- A construct on one line. A keyword at the start of a construct can also be a name, as in `alias := x`. The tokens after it decide: a header
  -- of a recipe never continues like a construct that begins with a keyword.
  pub data OnLine : Content A B C S → List (Noted B) → List SignificantToken → List SignificantToken → Type 0 where
    alias : {names : List A} {word name operator : SignificantToken} {tokens rest : List SignificantToken} → IsWord (codes "alias") word
        → IsKind kinds.Identifier name → IsKind kinds.ColonEquals operator → PathOf projection.leaf names tokens rest
        → OnLine (tree.Alias (record { name = projection.leaf name.tok; target = names })) [] (word ∷ name ∷ operator ∷ tokens) rest
    assignment : {e : Expr A B} {fs : List (Noted B)} {name operator : SignificantToken} {tokens rest : List SignificantToken} → IsKind kinds.Identifier name
        → IsKind kinds.ColonEquals operator → Expression projection.leaf projection.position MayEnter false 0 e fs tokens rest
        → OnLine (tree.Assignment (assignment_of false false (projection.leaf name.tok) e)) fs (name ∷ operator ∷ tokens) rest
    eager : {e : Expr A B} {fs : List (Noted B)} {word name operator : SignificantToken} {tokens rest : List SignificantToken} → IsWord (codes "eager") word
        → IsKind kinds.Identifier name → IsKind kinds.ColonEquals operator → Expression projection.leaf projection.position MayEnter false 0 e fs tokens rest
        → OnLine (tree.Assignment (assignment_of true false (projection.leaf name.tok) e)) fs (word ∷ name ∷ operator ∷ tokens) rest
    export : {e : Expr A B} {fs : List (Noted B)} {word name operator : SignificantToken} {tokens rest : List SignificantToken} → IsWord (codes "export") word
        → IsKind kinds.Identifier name → IsKind kinds.ColonEquals operator → Expression projection.leaf projection.position MayEnter false 0 e fs tokens rest
        → OnLine (tree.Assignment (assignment_of false true (projection.leaf name.tok) e)) fs (word ∷ name ∷ operator ∷ tokens) rest
    function : {names : List A} {e : Expr A B} {fs : List (Noted B)} {name opener operator : SignificantToken} {tokens next rest : List SignificantToken}
        → IsKind kinds.Identifier name → IsKind kinds.ParenL opener → Names projection.leaf names tokens (operator ∷ next) → IsKind kinds.ColonEquals operator
        → Expression projection.leaf projection.position MayEnter false 0 e fs next rest
        → OnLine (tree.Function (record { name = projection.leaf name.tok; parameters = names; body = e })) fs (name ∷ opener ∷ tokens) rest
    import : {path : Quoted A} {word : SignificantToken} {tokens rest : List SignificantToken} → IsWord (codes "import") word
        → FilePath projection.leaf path tokens rest
        → OnLine (tree.Import (record { optional = false; path = path })) [] (word ∷ tokens) rest
    optional_import : {path : Quoted A} {word question_mark : SignificantToken} {tokens rest : List SignificantToken} → IsWord (codes "import") word
        → IsKind kinds.QuestionMark question_mark → FilePath projection.leaf path tokens rest
        → OnLine (tree.Import (record { optional = true; path = path })) [] (word ∷ question_mark ∷ tokens) rest
    module_alone : {word name : SignificantToken} {rest : List SignificantToken} → IsWord (codes "mod") word → IsKind kinds.Identifier name → EndsLine rest
        → OnLine (tree.Module (bare_module false (projection.leaf name.tok) None)) [] (word ∷ name ∷ rest) rest
    module_at : {path : Quoted A} {word name : SignificantToken} {tokens rest : List SignificantToken} → IsWord (codes "mod") word
        → IsKind kinds.Identifier name → FilePath projection.leaf path tokens rest
        → OnLine (tree.Module (bare_module false (projection.leaf name.tok) (Some path))) [] (word ∷ name ∷ tokens) rest
    optional_module_alone : {word question_mark name : SignificantToken} {rest : List SignificantToken} → IsWord (codes "mod") word → IsKind kinds.QuestionMark question_mark
        → IsKind kinds.Identifier name → NoPath rest
        → OnLine (tree.Module (bare_module true (projection.leaf name.tok) None)) [] (word ∷ question_mark ∷ name ∷ rest) rest
    optional_module_at : {path : Quoted A} {word question_mark name : SignificantToken} {tokens rest : List SignificantToken} → IsWord (codes "mod") word
        → IsKind kinds.QuestionMark question_mark → IsKind kinds.Identifier name → FilePath projection.leaf path tokens rest
        → OnLine (tree.Module (bare_module true (projection.leaf name.tok) (Some path))) [] (word ∷ question_mark ∷ name ∷ tokens) rest
    setting : {keyword : Keyword} {form : SettingForm} {value : SettingValue A B} {fs : List (Noted B)} {word name : SignificantToken}
        {tokens rest : List SignificantToken} → IsWord (codes "set") word → IsWord (keyword_text keyword) name → setting_form keyword ≡ Some form
        → ValueOf projection.leaf projection.position MayEnter form value fs tokens rest
        → OnLine (tree.Setting (record { keyword = keyword; name = projection.leaf name.tok; value = value })) fs (word ∷ name ∷ tokens) rest
    unexport : {word name : SignificantToken} {rest : List SignificantToken} → IsWord (codes "unexport") word → IsKind kinds.Identifier name → EndsLine rest
        → OnLine (tree.Unexport (projection.leaf name.tok)) [] (word ∷ name ∷ rest) rest
    header : {h : Header A B S} {fs : List (Noted B)} {tokens rest : List SignificantToken} → HeaderOf projection.leaf projection.position projection.star MayEnter h fs tokens rest
        → OnLine (tree.Recipe (bare_recipe h None [])) fs tokens rest

  -- A recipe with a body: a header, and lines. Empty lines at the end of the body are dropped, and at least one line remains. A comment between
  -- the header and the body belongs to the recipe.
  pub data Block : Content A B C S → List (Noted B) → List SignificantToken → List SignificantToken → Type 0 where
    recipe : {h : Header A B S} {lines : List (BodyLine A B C)} {fs gs : List (Noted B)} {comment : Option (List ℕ)}
        {tokens next body rest : List SignificantToken} → HeaderOf projection.leaf projection.position projection.star MayEnter h fs tokens next → BeforeBody comment next body
        → BodyLines lines gs body rest → NotEmpty (trimmed lines)
        → Block (tree.Recipe (bare_recipe h comment (trimmed lines))) (fs ++ gs) tokens rest

  mutual
    -- items from the start of a line to the end of the file
    pub data Items : List (WrittenItem A B C S) → List (ConstructFeatures B) → List SignificantToken → Type 0 where
      end : {token : SignificantToken} → IsKind kinds.Eof token
          → Items [] [] (token ∷ [])
      blank : {items : List (WrittenItem A B C S)} {fs : List (ConstructFeatures B)} {token : SignificantToken} {rest : List SignificantToken} → IsKind kinds.Eol token
          → Items items fs rest
          → Items (tree.Newline ∷ items) fs (token ∷ rest)
      comment : {items : List (WrittenItem A B C S)} {fs : List (ConstructFeatures B)} {token : SignificantToken} {rest : List SignificantToken} → IsKind kinds.Comment token
          → ItemRest items fs rest
          → Items (tree.Comment (trim_end token.tok.lexeme) ∷ items) fs (token ∷ rest)
      on_line : {ws : List (WrittenAttribute A B)} {c : Content A B C S} {items : List (WrittenItem A B C S)} {gs cs : List (Noted B)} {fs : List (ConstructFeatures B)}
          {tokens header rest : List SignificantToken} → AttributeLines projection.leaf projection.position MayEnter ws gs tokens header → OnLine c cs header rest
          → ItemRest items fs rest
          → Items (Construct ws c ∷ items) (record { attributes = gs; content = cs } ∷ fs) tokens
      -- A body ends at the start of a line, so the line end after the recipe is added.
      block : {ws : List (WrittenAttribute A B)} {c : Content A B C S} {items : List (WrittenItem A B C S)} {gs cs : List (Noted B)} {fs : List (ConstructFeatures B)}
          {tokens header rest : List SignificantToken} → AttributeLines projection.leaf projection.position MayEnter ws gs tokens header → Block c cs header rest
          → Items items fs rest
          → Items (Construct ws c ∷ tree.Newline ∷ items) (record { attributes = gs; content = cs } ∷ fs) tokens

    -- the rest of a line after an item: an optional comment, which is an item of its own, and the line end
    pub data ItemRest : List (WrittenItem A B C S) → List (ConstructFeatures B) → List SignificantToken → Type 0 where
      trailing : {items : List (WrittenItem A B C S)} {fs : List (ConstructFeatures B)} {token : SignificantToken} {rest : List SignificantToken} → IsKind kinds.Comment token
          → LineEnd items fs rest
          → ItemRest (tree.Comment (trim_end token.tok.lexeme) ∷ items) fs (token ∷ rest)
      bare : {items : List (WrittenItem A B C S)} {fs : List (ConstructFeatures B)} {tokens : List SignificantToken} → LineEnd items fs tokens
          → ItemRest items fs tokens

    -- the end of the line or of the file
    pub data LineEnd : List (WrittenItem A B C S) → List (ConstructFeatures B) → List SignificantToken → Type 0 where
      line_end : {items : List (WrittenItem A B C S)} {fs : List (ConstructFeatures B)} {token : SignificantToken} {rest : List SignificantToken} → IsKind kinds.Eol token
          → Items items fs rest
          → LineEnd (tree.Newline ∷ items) fs (token ∷ rest)
      file_end : {token : SignificantToken} → IsKind kinds.Eof token
          → LineEnd [] [] (token ∷ [])

  -- a file, which can begin with a byte order mark
  pub data File : List (WrittenItem A B C S) → List (ConstructFeatures B) → List SignificantToken → Type 0 where
    with_byte_order_mark : {items : List (WrittenItem A B C S)} {fs : List (ConstructFeatures B)} {token : SignificantToken} {rest : List SignificantToken} → IsKind kinds.ByteOrderMark token
        → Items items fs rest
        → File items fs (token ∷ rest)
    without_byte_order_mark : {items : List (WrittenItem A B C S)} {fs : List (ConstructFeatures B)} {tokens : List SignificantToken} → Items items fs tokens
        → File items fs tokens
