-- The end and the beginning of an expression, which determine what can follow it.
use Rattle.std.proofs.Common.{◌≡◌, ℕ, Bool, true, false, cond, List, ◌∷◌, Option, refl, codes}
use Rattle.justfile_vocabulary.specs.declared.token_kind.TokenKind.{TokenKind}
use Rattle.justfile_vocabulary.specs.declared.token_kind.TokenKind.TheVariants as kinds
use Rattle.justfile_model.specs.Lexing.SignificantTokens.{SignificantToken}
use Rattle.justfile_model.specs.Trees.Tree as tree
use Rattle.justfile_model.specs.Trees.Tree.{Expr, lexeme, nothing}
use Rattle.justfile_model.specs.Grammars.Expressions as g
use Rattle.justfile_model.specs.Grammars.Expressions.{Tokens, ends_open, NotNext, IsWord, NotWord, NotJoined, Expression, Disjunct, Compared, Conjunct, Conditional, Value}
use Rattle.justfile_round_trip.proofs.LiteralTexts.LexedModes.{Sign}
use Rattle.justfile_round_trip.proofs.Canon as canon
use Rattle.justfile_round_trip.proofs.Canon.{Shown, expr_signs}
use Rattle.justfile_round_trip.proofs.Good.{significant}

-- with a name, with another value, with a conditional that an `else` would go on, or with one that none does
pub data End : Type 0 where
  OfName OfValue OfOpen OfClosed : End

abbrev pub tail : {A B : Type 0} → Expr A B → End
tail (tree.Or l r) = tail r
tail (tree.And l r) = tail r
tail (tree.Comparison l operator token r) = tail r
tail (tree.Concatenation l operator r) = tail r
tail (tree.ListConcatenation l operator r) = tail r
tail (tree.Join l operator r) = tail r
tail (tree.Root operator r) = tail r
tail (tree.If c b) = OfOpen
tail (tree.IfElse c b o) = cond (ends_open o) OfOpen OfClosed
tail (tree.Not e) = tail e
tail (tree.Variable n) = OfName
tail _ = OfValue

-- the tokens that can follow a value with this end
abbrev pub EndsValue : End → Tokens → Type 0
EndsValue OfName ts = NotNext kinds.ParenL ts
EndsValue _ ts = Unit {0}

-- the tokens that can follow a conjunct with this end
abbrev pub Ends : End → Tokens → Type 0
Ends OfName ts = NotNext kinds.ParenL ts × NotJoined ts
Ends OfValue ts = Unit {0} × NotJoined ts
Ends OfOpen ts = Unit {0} × NotWord (codes "else") ts
Ends OfClosed ts = Unit {0} × Unit {0}

pub record EndsIn (x : End) (ts : Tokens) : Type 0 where
  pub is : Ends x ts

pub record ValueEndsIn (x : End) (ts : Tokens) : Type 0 where
  pub is : EndsValue x ts

-- a token that an expression may begin with
abbrev pub may_begin : TokenKind → Bool
may_begin kinds.Identifier = true
may_begin kinds.StringToken = true
may_begin kinds.Backtick = true
may_begin kinds.Bang = true
may_begin kinds.ParenL = true
may_begin kinds.BracketL = true
may_begin kinds.Slash = true
may_begin _ = false

-- The first tokens are of one kind, and one word; the second is glued if this is true, and may begin an expression.
pub data SameHead (glued : Bool) : Tokens → Tokens → Type 0 where
  same_head : {t u : SignificantToken} {ts us : Tokens} → t.tok.kind ≡ u.tok.kind → (u.tok.kind ≡ kinds.Identifier → t.tok.lexeme ≡ u.tok.lexeme)
      → u.glued ≡ glued → may_begin u.tok.kind ≡ true → SameHead glued (t ∷ ts) (u ∷ us)

module _ (MayEnter : ℕ → Option SignificantToken → Type 0) where
  pub value_head : {d : ℕ} {e : canon.Value} {fs : Shown} {ts rest : Tokens} → Value lexeme nothing MayEnter d e fs ts rest → (b : Bool) (on : List Sign) → SameHead b ts (significant b (expr_signs e on))
  value_head (g.not kind v) b on = same_head kind (λ e. cc) refl refl
  value_head (g.literal kind) b on = same_head kind (λ e. cc) refl refl
  value_head (g.expanded m) b on = same_head m.marks.is_name (λ _. m.marks.spelled) refl refl
  value_head (g.format_literal m) b on = same_head m.marks.is_name (λ _. m.marks.spelled) refl refl
  value_head (g.format_string m e ps) b on = same_head m.marks.is_name (λ _. m.marks.spelled) refl refl
  value_head (g.backtick kind) b on = same_head kind (λ e. cc) refl refl
  value_head (g.assert w kind c kind2) b on = same_head w.is_name (λ _. w.spelled) refl refl
  value_head (g.assert_message w kind c kind2 m kind3) b on = same_head w.is_name (λ _. w.spelled) refl refl
  value_head (g.variable kind no_assert unmarked next) b on = same_head kind (λ _. refl) refl refl
  value_head (g.call kind no_assert kind2 s) b on = same_head kind (λ _. refl) refl refl
  value_head (g.group kind e kind2) b on = same_head kind (λ e. cc) refl refl
  value_head (g.list kind s) b on = same_head kind (λ e. cc) refl refl

  conditional_head : {d : ℕ} {e : canon.Value} {fs : Shown} {i : SignificantToken} {ts rest : Tokens} → IsWord (codes "if") i → Conditional lexeme nothing MayEnter d i e fs ts rest → (b : Bool) (on : List Sign) → SameHead b (i ∷ ts) (significant b (expr_signs e on))
  conditional_head i (g.if_only c x next) b on = same_head i.is_name (λ _. i.spelled) refl refl
  conditional_head i _ b on = same_head i.is_name (λ _. i.spelled) refl refl

  pub conjunct_head : {d : ℕ} {e : canon.Value} {fs : Shown} {ts rest : Tokens} → Conjunct lexeme nothing MayEnter d e fs ts rest → (b : Bool) (on : List Sign) → SameHead b ts (significant b (expr_signs e on))
  conjunct_head (g.conditional i c) b on = conditional_head i c b on
  conjunct_head (g.root kind r) b on = same_head kind (λ e. cc) refl refl
  conjunct_head (g.join next l kind r) b on = value_head l b _
  conjunct_head (g.list_concatenation next l kind r) b on = value_head l b _
  conjunct_head (g.concatenation next l kind r) b on = value_head l b _
  conjunct_head (g.value next v joined) b on = value_head v b on

  compared_head : {condition : Bool} {d : ℕ} {e : canon.Value} {fs : Shown} {ts rest : Tokens} → Compared lexeme nothing MayEnter condition d e fs ts rest → (b : Bool) (on : List Sign) → SameHead b ts (significant b (expr_signs e on))
  compared_head (g.compare by l kind r) b on = conjunct_head l b _
  compared_head (g.conjunct l next) b on = conjunct_head l b on

  disjunct_head : {condition : Bool} {d : ℕ} {e : canon.Value} {fs : Shown} {ts rest : Tokens} → Disjunct lexeme nothing MayEnter condition d e fs ts rest → (b : Bool) (on : List Sign) → SameHead b ts (significant b (expr_signs e on))
  disjunct_head (g.and l kind r) b on = compared_head l b _
  disjunct_head (g.comparison l next) b on = compared_head l b on

  pub expression_head : {condition : Bool} {d : ℕ} {e : canon.Value} {fs : Shown} {ts rest : Tokens} → Expression lexeme nothing MayEnter condition d e fs ts rest → (b : Bool) (on : List Sign) → SameHead b ts (significant b (expr_signs e on))
  expression_head (g.or o l kind r) b on = disjunct_head l b _
  expression_head (g.disjunct o l next) b on = disjunct_head l b on
