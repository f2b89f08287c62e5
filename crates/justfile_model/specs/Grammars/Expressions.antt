-- The grammar of expressions: which significant tokens are which tree. `Rule leaf position MayEnter depth tree features tokens rest` means
-- that `tokens` are the tree followed by `rest`. `leaf` and `position` are the projections of tokens to the tree; `depth` is the number of
-- expressions around this one, and `MayEnter` says at which depth, before which token, an expression can begin. The features are those that
-- require the setting `lists`, in source order.
use Rattle.std.specs.Prelude.{◌≡◌, ◌≢◌, ℕ, ◌+◌, ◌<◌, Bool, true, false, List, [], ◌∷◌, ◌++◌, Option, Some, None, codes}
use Rattle.justfile_vocabulary.specs.declared.token_kind.TokenKind.{TokenKind}
use Rattle.justfile_vocabulary.specs.declared.token_kind.TokenKind.TheVariants as kinds
use Rattle.justfile_model.specs.declared.conditional_operator.ConditionalOperator.{ConditionalOperator}
use Rattle.justfile_model.specs.declared.conditional_operator.ConditionalOperator.TheVariants.{Equality, Inequality, RegexMatch, RegexMismatch}
use Rattle.justfile_vocabulary.specs.declared.list_feature.ListFeature.TheVariants as features
use Rattle.justfile_model.specs.Lexing.Tok.{Tok}
use Rattle.justfile_model.specs.Lexing.SignificantTokens.{SignificantToken}
use Rattle.justfile_model.specs.Trees.Tree as tree
use Rattle.justfile_model.specs.Trees.Tree.{Expr, Exprs, Parts}
use Rattle.justfile_model.specs.Grammars.Features.{Noted, noted, compared, uncompared, called}

abbrev pub Tokens : Type 0
Tokens = List SignificantToken

-- the next token, if there is one
abbrev pub front : {T : Type 0} → List T → Option T
front [] = None
front (t ∷ ts) = Some t

abbrev pub IsKind : TokenKind → SignificantToken → Type 0
IsKind kind t = t.tok.kind ≡ kind

-- the next token, if there is one, is of another kind
abbrev pub NotNext : TokenKind → Tokens → Type 0
NotNext kind [] = Unit {0}
NotNext kind (t ∷ ts) = t.tok.kind ≢ kind

-- the token is an identifier with this text
pub record IsWord (word : List ℕ) (t : SignificantToken) : Type 0 where
  pub is_name : IsKind kinds.Identifier t
  pub spelled : t.tok.lexeme ≡ word

-- the next token isn't this word
abbrev pub NotWord : List ℕ → Tokens → Type 0
NotWord word [] = Unit {0}
NotWord word (t ∷ ts) = IsWord word t → ⊥

-- The string directly follows the name that marks it.
pub record IsMarked (word : List ℕ) (kind : TokenKind) (mark token : SignificantToken) : Type 0 where
  pub marks : IsWord word mark
  pub is_string : IsKind kind token
  pub glued : token.glued ≡ true

abbrev pub NotMarked : List ℕ → TokenKind → SignificantToken → Tokens → Type 0
NotMarked word kind mark [] = Unit {0}
NotMarked word kind mark (t ∷ ts) = IsMarked word kind mark t → ⊥

-- The name doesn't mark the token after it.
pub record Unmarked (name : SignificantToken) (rest : Tokens) : Type 0 where
  pub expanded : NotMarked (codes "x") kinds.StringToken name rest
  pub literal : NotMarked (codes "f") kinds.StringToken name rest
  pub format : NotMarked (codes "f") kinds.FormatStringStart name rest

abbrev pub operator_kind : ConditionalOperator → TokenKind
operator_kind Equality = kinds.EqualsEquals
operator_kind Inequality = kinds.BangEquals
operator_kind RegexMatch = kinds.EqualsTilde
operator_kind RegexMismatch = kinds.BangTilde

-- The next token isn't a comparison operator.
pub record NotCompared (rest : Tokens) : Type 0 where
  pub equality : NotNext kinds.EqualsEquals rest
  pub inequality : NotNext kinds.BangEquals rest
  pub regex_match : NotNext kinds.EqualsTilde rest
  pub regex_mismatch : NotNext kinds.BangTilde rest

-- The next token isn't an operator of the level of conjuncts.
pub record NotJoined (rest : Tokens) : Type 0 where
  pub join : NotNext kinds.Slash rest
  pub list_concatenation : NotNext kinds.PlusPlus rest
  pub concatenation : NotNext kinds.Plus rest

-- the chain of conditionals in the `else` branches ends in one without `else`
abbrev pub ends_open : {A B : Type 0} → Expr A B → Bool
ends_open (tree.If c b) = true
ends_open (tree.IfElse c b o) = ends_open o
ends_open _ = false

module _ {A B : Type 0} (leaf : Tok → A) (position : Tok → B) (MayEnter : ℕ → Option SignificantToken → Type 0) where
  mutual
    -- `||`, right-associative; the first comparison in a condition isn't noted
    pub data Expression : (condition : Bool) → ℕ → Expr A B → List (Noted B) → Tokens → Tokens → Type 0 where
      or : {condition : Bool} {depth : ℕ} {l r : Expr A B} {ls rs : List (Noted B)} {operator : SignificantToken} {tokens following rest : Tokens}
          → MayEnter depth (front tokens) → Disjunct condition (depth + 1) l ls tokens (operator ∷ following) → IsKind kinds.BarBar operator
          → Expression false (depth + 1) r rs following rest
          → Expression condition depth (tree.Or l r) (ls ++ noted features.LogicalOperator (position operator.tok) ++ rs) tokens rest
      disjunct : {condition : Bool} {depth : ℕ} {e : Expr A B} {fs : List (Noted B)} {tokens rest : Tokens} → MayEnter depth (front tokens)
          → Disjunct condition (depth + 1) e fs tokens rest → NotNext kinds.BarBar rest
          → Expression condition depth e fs tokens rest

    -- `&&`, right-associative
    pub data Disjunct : (condition : Bool) → ℕ → Expr A B → List (Noted B) → Tokens → Tokens → Type 0 where
      and : {condition : Bool} {depth : ℕ} {l r : Expr A B} {ls rs : List (Noted B)} {operator : SignificantToken} {tokens following rest : Tokens}
          → Compared condition depth l ls tokens (operator ∷ following) → IsKind kinds.AmpersandAmpersand operator
          → Disjunct false depth r rs following rest
          → Disjunct condition depth (tree.And l r) (ls ++ noted features.LogicalOperator (position operator.tok) ++ rs) tokens rest
      comparison : {condition : Bool} {depth : ℕ} {e : Expr A B} {fs : List (Noted B)} {tokens rest : Tokens}
          → Compared condition depth e fs tokens rest → NotNext kinds.AmpersandAmpersand rest
          → Disjunct condition depth e fs tokens rest

    -- at most one comparison
    pub data Compared : (condition : Bool) → ℕ → Expr A B → List (Noted B) → Tokens → Tokens → Type 0 where
      compare : {condition : Bool} {depth : ℕ} {l r : Expr A B} {ls rs : List (Noted B)} {operator : SignificantToken} {tokens following rest : Tokens}
          (by : ConditionalOperator) → Conjunct depth l ls tokens (operator ∷ following) → IsKind (operator_kind by) operator
          → Conjunct depth r rs following rest
          → Compared condition depth (tree.Comparison l by (position operator.tok) r) (ls ++ compared condition (position operator.tok) ++ rs) tokens rest
      conjunct : {condition : Bool} {depth : ℕ} {e : Expr A B} {fs : List (Noted B)} {tokens rest : Tokens} → Conjunct depth e fs tokens rest
          → NotCompared rest
          → Compared condition depth e fs tokens rest

    -- `/`, `++` and `+`, right-associative; a conditional begins here with `if`
    pub data Conjunct : ℕ → Expr A B → List (Noted B) → Tokens → Tokens → Type 0 where
      conditional : {depth : ℕ} {e : Expr A B} {fs : List (Noted B)} {word : SignificantToken} {tokens rest : Tokens} → IsWord (codes "if") word
          → Conditional depth word e fs tokens rest
          → Conjunct depth e fs (word ∷ tokens) rest
      root : {depth : ℕ} {r : Expr A B} {rs : List (Noted B)} {operator : SignificantToken} {tokens rest : Tokens} → IsKind kinds.Slash operator
          → Conjunct depth r rs tokens rest
          → Conjunct depth (tree.Root (position operator.tok) r) rs (operator ∷ tokens) rest
      join : {depth : ℕ} {l r : Expr A B} {ls rs : List (Noted B)} {operator : SignificantToken} {tokens following rest : Tokens} → NotWord (codes "if") tokens
          → Value depth l ls tokens (operator ∷ following) → IsKind kinds.Slash operator → Conjunct depth r rs following rest
          → Conjunct depth (tree.Join l (position operator.tok) r) (ls ++ rs) tokens rest
      list_concatenation : {depth : ℕ} {l r : Expr A B} {ls rs : List (Noted B)} {operator : SignificantToken} {tokens following rest : Tokens}
          → NotWord (codes "if") tokens → Value depth l ls tokens (operator ∷ following) → IsKind kinds.PlusPlus operator
          → Conjunct depth r rs following rest
          → Conjunct depth (tree.ListConcatenation l (position operator.tok) r)
          (ls ++ noted features.ListConcatenationOperator (position operator.tok) ++ rs) tokens rest
      concatenation : {depth : ℕ} {l r : Expr A B} {ls rs : List (Noted B)} {operator : SignificantToken} {tokens following rest : Tokens}
          → NotWord (codes "if") tokens → Value depth l ls tokens (operator ∷ following) → IsKind kinds.Plus operator
          → Conjunct depth r rs following rest
          → Conjunct depth (tree.Concatenation l (position operator.tok) r) (ls ++ rs) tokens rest
      value : {depth : ℕ} {e : Expr A B} {fs : List (Noted B)} {tokens rest : Tokens} → NotWord (codes "if") tokens
          → Value depth e fs tokens rest → NotJoined rest
          → Conjunct depth e fs tokens rest

    -- the condition of an `if` or `assert`
    pub data Condition : ℕ → Expr A B → List (Noted B) → Tokens → Tokens → Type 0 where
      condition : {depth : ℕ} {e : Expr A B} {fs : List (Noted B)} {first : SignificantToken} {tokens rest : Tokens}
          → Expression true depth e fs (first ∷ tokens) rest
          → Condition depth e (fs ++ uncompared e (position first.tok)) (first ∷ tokens) rest

    -- an expression in braces
    pub data Braced : ℕ → Expr A B → List (Noted B) → Tokens → Tokens → Type 0 where
      braces : {depth : ℕ} {e : Expr A B} {fs : List (Noted B)} {opener closer : SignificantToken} {following rest : Tokens} → IsKind kinds.BraceL opener
          → Expression false depth e fs following (closer ∷ rest) → IsKind kinds.BraceR closer
          → Braced depth e fs (opener ∷ following) rest

    -- The rest of a conditional after its `if`, which is `word`. An `else` after a branch without `else` belongs to that branch.
    pub data Conditional : ℕ → (word : SignificantToken) → Expr A B → List (Noted B) → Tokens → Tokens → Type 0 where
      if_only : {depth : ℕ} {word : SignificantToken} {c b : Expr A B} {cs bs : List (Noted B)} {tokens following rest : Tokens}
          → Condition depth c cs tokens following → Braced depth b bs following rest → NotWord (codes "else") rest
          → Conditional depth word (tree.If c b) (cs ++ bs ++ noted features.IfWithoutElse (position word.tok)) tokens rest
      if_else : {depth : ℕ} {word : SignificantToken} {c b o : Expr A B} {cs bs os : List (Noted B)} {otherwise : SignificantToken} {tokens following other rest : Tokens}
          → Condition depth c cs tokens following → Braced depth b bs following (otherwise ∷ other) → IsWord (codes "else") otherwise
          → Braced depth o os other rest → (ends_open o ≡ true → NotWord (codes "else") rest)
          → Conditional depth word (tree.IfElse c b o) (cs ++ bs ++ os) tokens rest
      else_if : {depth : ℕ} {word : SignificantToken} {c b o : Expr A B} {cs bs os : List (Noted B)} {otherwise again : SignificantToken} {tokens following other rest : Tokens}
          → Condition depth c cs tokens following → Braced depth b bs following (otherwise ∷ again ∷ other) → IsWord (codes "else") otherwise
          → IsWord (codes "if") again → Conditional depth again o os other rest
          → Conditional depth word (tree.IfElse c b o) (cs ++ bs ++ os) tokens rest

    -- An identifier before `(` is a call, and otherwise a variable; `assert` requires `(`.
    pub data Value : ℕ → Expr A B → List (Noted B) → Tokens → Tokens → Type 0 where
      not : {depth : ℕ} {e : Expr A B} {fs : List (Noted B)} {bang : SignificantToken} {tokens rest : Tokens} → IsKind kinds.Bang bang
          → Value depth e fs tokens rest
          → Value depth (tree.Not e) (noted features.NegationOperator (position bang.tok) ++ fs) (bang ∷ tokens) rest
      literal : {depth : ℕ} {token : SignificantToken} {rest : Tokens} → IsKind kinds.StringToken token
          → Value depth (tree.StringLiteral false (leaf token.tok)) [] (token ∷ rest) rest
      expanded : {depth : ℕ} {mark token : SignificantToken} {rest : Tokens} → IsMarked (codes "x") kinds.StringToken mark token
          → Value depth (tree.StringLiteral true (leaf token.tok)) [] (mark ∷ token ∷ rest) rest
      format_literal : {depth : ℕ} {mark token : SignificantToken} {rest : Tokens} → IsMarked (codes "f") kinds.StringToken mark token
          → Value depth (tree.FormatLiteral (leaf token.tok)) [] (mark ∷ token ∷ rest) rest
      format_string : {depth : ℕ} {e : Expr A B} {ps : Parts A B} {fs gs : List (Noted B)} {mark start : SignificantToken} {tokens following rest : Tokens}
          → IsMarked (codes "f") kinds.FormatStringStart mark start → Expression false depth e fs tokens following
          → FormatParts depth ps gs following rest
          → Value depth (tree.FormatString (leaf start.tok) e ps) (fs ++ gs) (mark ∷ start ∷ tokens) rest
      backtick : {depth : ℕ} {token : SignificantToken} {rest : Tokens} → IsKind kinds.Backtick token
          → Value depth (tree.Backtick (leaf token.tok)) [] (token ∷ rest) rest
      assert : {depth : ℕ} {c : Expr A B} {fs : List (Noted B)} {word opener closer : SignificantToken} {tokens rest : Tokens} → IsWord (codes "assert") word
          → IsKind kinds.ParenL opener → Condition depth c fs tokens (closer ∷ rest) → IsKind kinds.ParenR closer
          → Value depth (tree.Assert (position word.tok) c) fs (word ∷ opener ∷ tokens) rest
      assert_message : {depth : ℕ} {c m : Expr A B} {fs gs : List (Noted B)} {word opener comma closer : SignificantToken} {tokens following rest : Tokens}
          → IsWord (codes "assert") word → IsKind kinds.ParenL opener → Condition depth c fs tokens (comma ∷ following) → IsKind kinds.Comma comma
          → Expression false depth m gs following (closer ∷ rest) → IsKind kinds.ParenR closer
          → Value depth (tree.AssertMessage (position word.tok) c m) (fs ++ gs) (word ∷ opener ∷ tokens) rest
      variable : {depth : ℕ} {name : SignificantToken} {rest : Tokens} → IsKind kinds.Identifier name → (IsWord (codes "assert") name → ⊥)
          → Unmarked name rest → NotNext kinds.ParenL rest
          → Value depth (tree.Variable (leaf name.tok)) [] (name ∷ rest) rest
      call : {depth : ℕ} {arguments : Exprs A B} {fs : List (Noted B)} {name opener : SignificantToken} {tokens rest : Tokens} → IsKind kinds.Identifier name
          → (IsWord (codes "assert") name → ⊥) → IsKind kinds.ParenL opener → Sequence kinds.ParenR depth arguments fs tokens rest
          → Value depth (tree.Call (leaf name.tok) arguments) (fs ++ called name.tok.lexeme (position name.tok)) (name ∷ opener ∷ tokens) rest
      group : {depth : ℕ} {e : Expr A B} {fs : List (Noted B)} {opener closer : SignificantToken} {following rest : Tokens} → IsKind kinds.ParenL opener
          → Expression false depth e fs following (closer ∷ rest) → IsKind kinds.ParenR closer
          → Value depth (tree.Group e) fs (opener ∷ following) rest
      list : {depth : ℕ} {elements : Exprs A B} {fs : List (Noted B)} {opener : SignificantToken} {tokens rest : Tokens} → IsKind kinds.BracketL opener
          → Sequence kinds.BracketR depth elements fs tokens rest
          → Value depth (tree.ListOf (position opener.tok) elements) (noted features.ListLiteral (position opener.tok) ++ fs) (opener ∷ tokens) rest

    -- expressions up to and including the closing delimiter, with an optional trailing comma
    pub data Sequence : (closing : TokenKind) → ℕ → Exprs A B → List (Noted B) → Tokens → Tokens → Type 0 where
      none : {closing : TokenKind} {depth : ℕ} {closer : SignificantToken} {rest : Tokens} → IsKind closing closer
          → Sequence closing depth tree.none [] (closer ∷ rest) rest
      last : {closing : TokenKind} {depth : ℕ} {e : Expr A B} {fs : List (Noted B)} {closer : SignificantToken} {tokens rest : Tokens} → NotNext closing tokens
          → Expression false depth e fs tokens (closer ∷ rest) → IsKind closing closer
          → Sequence closing depth (tree.more e tree.none) fs tokens rest
      more : {closing : TokenKind} {depth : ℕ} {e : Expr A B} {es : Exprs A B} {fs gs : List (Noted B)} {comma : SignificantToken} {tokens following rest : Tokens}
          → NotNext closing tokens → Expression false depth e fs tokens (comma ∷ following) → IsKind kinds.Comma comma
          → Sequence closing depth es gs following rest
          → Sequence closing depth (tree.more e es) (fs ++ gs) tokens rest

    -- the rest of a format string after one of its expressions
    pub data FormatParts : ℕ → Parts A B → List (Noted B) → Tokens → Tokens → Type 0 where
      end : {depth : ℕ} {token : SignificantToken} {rest : Tokens} → IsKind kinds.FormatStringEnd token
          → FormatParts depth (tree.Last (leaf token.tok)) [] (token ∷ rest) rest
      next : {depth : ℕ} {e : Expr A B} {ps : Parts A B} {fs gs : List (Noted B)} {token : SignificantToken} {tokens following rest : Tokens}
          → IsKind kinds.FormatStringContinue token → Expression false depth e fs tokens following → FormatParts depth ps gs following rest
          → FormatParts depth (tree.Continue (leaf token.tok) e ps) (fs ++ gs) (token ∷ tokens) rest

-- the depth is below the limit
abbrev pub BelowLimit : ℕ → ℕ → Option SignificantToken → Type 0
BelowLimit limit depth at = depth < limit

-- no limit
abbrev pub AnyDepth : ℕ → Option SignificantToken → Type 0
AnyDepth depth at = Unit {0}

-- the limit, except for expressions that begin at some tokens, and for those inside them
abbrev pub PastLimitAt : (limit : ℕ) (Hit : Option SignificantToken → Type 0) → ℕ → Option SignificantToken → Type 0
PastLimitAt limit Hit depth at = depth ≡ limit → Hit at
