-- Adjacent expressions: an expression ends in the printed text before the same tokens as in the source.
use Rattle.std.proofs.Common.{◌≡◌, ℕ, Bool, true, false, cond, Option, refl, sym, subst, ap, ◌∙◌, codes}
use Rattle.std.proofs.lemmas.Bool.{and_right}
use Rattle.justfile_vocabulary.specs.declared.token_kind.TokenKind.{TokenKind}
use Rattle.justfile_vocabulary.specs.declared.token_kind.TokenKind.TheVariants as kinds
use Rattle.justfile_model.specs.Grammars.Expressions as g
use Rattle.justfile_model.specs.Grammars.Expressions.{Tokens, NotNext, NotJoined, Expression, Disjunct, Compared, Conjunct, Conditional, Value, ends_open}
use Rattle.justfile_model.specs.Lexing.SignificantTokens.{SignificantToken}
use Rattle.justfile_model.specs.Trees.Tree.{lexeme, nothing}
use Rattle.justfile_round_trip.proofs.Back.{StopE, glued_string, is_string, next_head, stop_at, word_head}
use Rattle.justfile_round_trip.proofs.Canon as canon
use Rattle.justfile_round_trip.proofs.Canon.{Shown}
use Rattle.justfile_round_trip.proofs.Ends.{End, OfName, OfValue, OfOpen, OfClosed, tail, EndsIn, ValueEndsIn, SameHead, may_begin, same_head}

-- ---- how an expression ends

module _ (MayEnter : ℕ → Option SignificantToken → Type 0) where
  pub value_ends : {d : ℕ} {e : canon.Value} {fs : Shown} {ts rest : Tokens} → Value lexeme nothing MayEnter d e fs ts rest → ValueEndsIn (tail e) rest
  value_ends (g.not kind v) = value_ends v
  value_ends (g.literal kind) = record { is = tt }
  value_ends (g.variable kind no_assert unmarked next) = record { is = next }
  value_ends _ = record { is = tt }

  value_ends_joined : {d : ℕ} {e : canon.Value} {fs : Shown} {ts rest : Tokens} → Value lexeme nothing MayEnter d e fs ts rest → NotJoined rest → EndsIn (tail e) rest
  value_ends_joined (g.not kind v) j = value_ends_joined v j
  value_ends_joined (g.literal kind) j = record { is = (tt, j) }
  value_ends_joined (g.variable kind no_assert unmarked next) j = record { is = (next, j) }
  value_ends_joined _ j = record { is = (tt, j) }

  open_ends : (b : Bool) {ts : Tokens} → (b ≡ true → g.NotWord (codes "else") ts) → EndsIn (cond b OfOpen OfClosed) ts
  open_ends true h = record { is = (tt, h refl) }
  open_ends false h = record { is = (tt, tt) }

  conditional_ends : {d : ℕ} {w : SignificantToken} {e : canon.Value} {fs : Shown} {ts rest : Tokens} → Conditional lexeme nothing MayEnter d w e fs ts rest
      → EndsIn (cond (ends_open e) OfOpen OfClosed) rest
  conditional_ends (g.if_only c b next) = record { is = (tt, next) }
  conditional_ends (g.if_else {o = o'} c b w o next) = open_ends (ends_open o') next
  conditional_ends (g.else_if c b w i o) = conditional_ends o

  conditional_tail : {d : ℕ} {w : SignificantToken} {e : canon.Value} {fs : Shown} {ts rest : Tokens} → Conditional lexeme nothing MayEnter d w e fs ts rest
      → cond (ends_open e) OfOpen OfClosed ≡ tail e
  conditional_tail (g.if_only c b next) = refl
  conditional_tail _ = refl

  conjunct_ends : {d : ℕ} {e : canon.Value} {fs : Shown} {ts rest : Tokens} → Conjunct lexeme nothing MayEnter d e fs ts rest → EndsIn (tail e) rest
  conjunct_ends {rest = rest} (g.conditional i c) = subst (λ x. EndsIn x rest) (conditional_tail c) (conditional_ends c)
  conjunct_ends (g.root kind r) = conjunct_ends r
  conjunct_ends (g.join next l kind r) = conjunct_ends r
  conjunct_ends (g.list_concatenation next l kind r) = conjunct_ends r
  conjunct_ends (g.concatenation next l kind r) = conjunct_ends r
  conjunct_ends (g.value next v joined) = value_ends_joined v joined

  compared_ends : {condition : Bool} {d : ℕ} {e : canon.Value} {fs : Shown} {ts rest : Tokens} → Compared lexeme nothing MayEnter condition d e fs ts rest → EndsIn (tail e) rest
  compared_ends (g.compare by l kind r) = conjunct_ends r
  compared_ends (g.conjunct l next) = conjunct_ends l

  disjunct_ends : {condition : Bool} {d : ℕ} {e : canon.Value} {fs : Shown} {ts rest : Tokens} → Disjunct lexeme nothing MayEnter condition d e fs ts rest → EndsIn (tail e) rest
  disjunct_ends (g.and l kind r) = disjunct_ends r
  disjunct_ends (g.comparison l next) = compared_ends l

  pub expression_ends : {condition : Bool} {d : ℕ} {e : canon.Value} {fs : Shown} {ts rest : Tokens} → Expression lexeme nothing MayEnter condition d e fs ts rest → EndsIn (tail e) rest
  expression_ends (g.or o l kind r) = expression_ends r
  expression_ends (g.disjunct o l next) = disjunct_ends l

-- ---- before another first token of the same kind and word

joined_too : {b : Bool} {ts us : Tokens} → SameHead b ts us → NotJoined ts → NotJoined us
joined_too s j = record { join = next_head kinds.Slash s j.join; list_concatenation = next_head kinds.PlusPlus s j.list_concatenation; concatenation = next_head kinds.Plus s j.concatenation }

pub ends_too : (x : End) {b : Bool} {ts us : Tokens} → SameHead b ts us → EndsIn x ts → EndsIn x us
ends_too OfName s h = record { is = (next_head kinds.ParenL s h.is.0, joined_too s h.is.1) }
ends_too OfValue s h = record { is = (tt, joined_too s h.is.1) }
ends_too OfOpen s h = record { is = (tt, word_head (codes "else") s h.is.1) }
ends_too OfClosed s h = record { is = (tt, tt) }

pub value_ends_too : (x : End) {b : Bool} {ts us : Tokens} → SameHead b ts us → ValueEndsIn x ts → ValueEndsIn x us
value_ends_too OfName s h = record { is = next_head kinds.ParenL s h.is }
value_ends_too OfValue s h = record { is = tt }
value_ends_too _ s h = record { is = tt }

-- a first token that isn't glued doesn't mark the next one
pub apart : {ts us : Tokens} → SameHead false ts us → glued_string us ≡ false
apart (same_head {u = u} e f glued begins) = and_right (is_string u.tok.kind) u.glued glued

-- tokens that begin an expression don't begin with a token that can't begin one, as an operator other than `/`
pub not_begun : {b : Bool} (kind : TokenKind) {ts us : Tokens} → SameHead b ts us → may_begin kind ≡ false → NotNext kind us
not_begun kind (same_head e f glued begins) n = λ e. let bad : true ≡ false = sym begins ∙ ap may_begin e ∙ n in cc

-- an expression ends before another one that isn't glued to it
pub stop_beside : {ts us : Tokens} → SameHead false ts us → StopE us
stop_beside (same_head {u = u} {us = us} e f glued begins) =
    stop_at may_begin (refl, refl, refl, refl, refl, refl) u us begins (and_right (is_string u.tok.kind) u.glued glued)
