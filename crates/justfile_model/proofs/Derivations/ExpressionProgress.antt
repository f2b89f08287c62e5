-- Expressions derive from at least one token.
use Rattle.std.proofs.Common.{ℕ, ◌<◌, ◌≤◌, Bool, List, [], ◌∷◌, length, Option, arith}
use Rattle.justfile_vocabulary.specs.declared.token_kind.TokenKind.{TokenKind}
use Rattle.justfile_model.specs.Lexing.Tok.{Tok}
use Rattle.justfile_model.specs.Lexing.SignificantTokens.{SignificantToken, identifiers}
use Rattle.justfile_model.specs.Trees.Tree.{Expr, Exprs, Parts}
use Rattle.justfile_model.specs.Grammars.Features.{Noted}
use Rattle.justfile_model.specs.Grammars.Expressions as g
use Rattle.justfile_model.specs.Grammars.Expressions.{Tokens, Expression, Disjunct, Compared, Conjunct, Condition, Braced, Conditional, Value, Sequence, FormatParts}

-- the first are left of the others once one or more are taken
pub data LeftOf : Tokens → Tokens → Type 0 where
  next : {t : SignificantToken} {ts : Tokens} → LeftOf ts (t ∷ ts)
  later : {t : SignificantToken} {rest ts : Tokens} → LeftOf rest ts → LeftOf rest (t ∷ ts)

pub then : {a b c : Tokens} → LeftOf b a → LeftOf c b → LeftOf c a
then next h = later h
then (later x) h = later (then x h)

pub past : {t : SignificantToken} {ts rest : Tokens} → LeftOf (t ∷ rest) ts → LeftOf rest ts
past h = then h next

pub shorter : {ts rest : Tokens} → LeftOf rest ts → length rest < length ts
shorter next = omega arith
shorter (later h) = omega (arith, shorter h)

pub none_left : {rest : Tokens} → LeftOf rest [] → ⊥
none_left h = absurd (omega (arith, shorter h))

pub fewer : {ts rest : Tokens} → LeftOf rest ts → identifiers rest ≤ identifiers ts
fewer next = omega arith
fewer (later h) = omega (arith, fewer h)

module _ {A B : Type 0} (leaf : Tok → A) (position : Tok → B) (MayEnter : ℕ → Option SignificantToken → Type 0) where
  mutual
    pub expression_left : {c : Bool} {d : ℕ} {e : Expr A B} {fs : List (Noted B)} {ts rest : Tokens} → Expression leaf position MayEnter c d e fs ts rest → LeftOf rest ts
    expression_left (g.or o l kind r) = then (past (disjunct_left l)) (expression_left r)
    expression_left (g.disjunct o l nx) = disjunct_left l

    pub disjunct_left : {c : Bool} {d : ℕ} {e : Expr A B} {fs : List (Noted B)} {ts rest : Tokens} → Disjunct leaf position MayEnter c d e fs ts rest → LeftOf rest ts
    disjunct_left (g.and l kind r) = then (past (compared_left l)) (disjunct_left r)
    disjunct_left (g.comparison l nx) = compared_left l

    pub compared_left : {c : Bool} {d : ℕ} {e : Expr A B} {fs : List (Noted B)} {ts rest : Tokens} → Compared leaf position MayEnter c d e fs ts rest → LeftOf rest ts
    compared_left (g.compare by l kind r) = then (past (conjunct_left l)) (conjunct_left r)
    compared_left (g.conjunct l nx) = conjunct_left l

    pub conjunct_left : {d : ℕ} {e : Expr A B} {fs : List (Noted B)} {ts rest : Tokens} → Conjunct leaf position MayEnter d e fs ts rest → LeftOf rest ts
    conjunct_left (g.conditional is c) = later (conditional_left c)
    conjunct_left (g.root kind r) = later (conjunct_left r)
    conjunct_left (g.join nx l kind r) = then (past (value_left l)) (conjunct_left r)
    conjunct_left (g.list_concatenation nx l kind r) = then (past (value_left l)) (conjunct_left r)
    conjunct_left (g.concatenation nx l kind r) = then (past (value_left l)) (conjunct_left r)
    conjunct_left (g.value nx v nj) = value_left v

    pub condition_left : {d : ℕ} {e : Expr A B} {fs : List (Noted B)} {ts rest : Tokens} → Condition leaf position MayEnter d e fs ts rest → LeftOf rest ts
    condition_left (g.condition e) = expression_left e

    pub braced_left : {d : ℕ} {e : Expr A B} {fs : List (Noted B)} {ts rest : Tokens} → Braced leaf position MayEnter d e fs ts rest → LeftOf rest ts
    braced_left (g.braces kind e kind2) = later (past (expression_left e))

    pub conditional_left : {d : ℕ} {w : SignificantToken} {e : Expr A B} {fs : List (Noted B)} {ts rest : Tokens} → Conditional leaf position MayEnter d w e fs ts rest → LeftOf rest ts
    conditional_left (g.if_only c b nx) = then (condition_left c) (braced_left b)
    conditional_left (g.if_else c b w o nx) = then (then (condition_left c) (past (braced_left b))) (braced_left o)
    conditional_left (g.else_if c b w i o) = then (then (condition_left c) (past (past (braced_left b)))) (conditional_left o)

    pub value_left : {d : ℕ} {e : Expr A B} {fs : List (Noted B)} {ts rest : Tokens} → Value leaf position MayEnter d e fs ts rest → LeftOf rest ts
    value_left (g.not kind v) = later (value_left v)
    value_left (g.literal kind) = next
    value_left (g.expanded m) = later next
    value_left (g.format_literal m) = later next
    value_left (g.format_string m e ps) = later (later (then (expression_left e) (parts_left ps)))
    value_left (g.backtick kind) = next
    value_left (g.assert w kind c kind2) = later (later (past (condition_left c)))
    value_left (g.assert_message w kind c kind2 m kind3) = later (later (then (past (condition_left c)) (past (expression_left m))))
    value_left (g.variable kind na un nx) = next
    value_left (g.call kind na kind2 s) = later (later (sequence_left s))
    value_left (g.group kind e kind2) = later (past (expression_left e))
    value_left (g.list kind s) = later (sequence_left s)

    pub sequence_left : {k : TokenKind} {d : ℕ} {e : Exprs A B} {fs : List (Noted B)} {ts rest : Tokens} → Sequence leaf position MayEnter k d e fs ts rest → LeftOf rest ts
    sequence_left (g.none kind) = next
    sequence_left (g.last nx e kind) = past (expression_left e)
    sequence_left (g.more nx e kind s) = then (past (expression_left e)) (sequence_left s)

    pub parts_left : {d : ℕ} {e : Parts A B} {fs : List (Noted B)} {ts rest : Tokens} → FormatParts leaf position MayEnter d e fs ts rest → LeftOf rest ts
    parts_left (g.end kind) = next
    parts_left (g.next kind e ps) = later (then (expression_left e) (parts_left ps))

  pub expression_counts : {c : Bool} {d : ℕ} {e : Expr A B} {fs : List (Noted B)} {ts rest : Tokens} → Expression leaf position MayEnter c d e fs ts rest → identifiers rest ≤ identifiers ts
  expression_counts h = fewer (expression_left h)

  pub value_counts : {d : ℕ} {e : Expr A B} {fs : List (Noted B)} {ts rest : Tokens} → Value leaf position MayEnter d e fs ts rest → identifiers rest ≤ identifiers ts
  value_counts h = fewer (value_left h)
