-- An expression is derived again before other tokens that look the same.
use Rattle.std.proofs.Common.{◌≡◌, ℕ, Bool, true, List, Option, refl, ap, ◌∙◌}
use Rattle.justfile_vocabulary.specs.declared.token_kind.TokenKind.{TokenKind}
use Rattle.justfile_model.specs.declared.conditional_operator.ConditionalOperator.{ConditionalOperator}
use Rattle.justfile_model.specs.declared.conditional_operator.ConditionalOperator.TheVariants.{Equality}
use Rattle.justfile_model.specs.Grammars.Expressions as g
use Rattle.justfile_model.specs.Grammars.Expressions.{Tokens, operator_kind, Expression, Disjunct, Compared, Conjunct, Condition, Braced, Conditional, Value, Sequence, FormatParts}
use Rattle.justfile_model.specs.Grammars.Features.{Noted}
use Rattle.justfile_model.specs.Lexing.SignificantTokens.{SignificantToken}
use Rattle.justfile_model.specs.Lexing.Tok.{Tok}
use Rattle.justfile_model.specs.Trees.Tree.{Expr, Exprs, Parts}
use Rattle.justfile_chunks.proofs.Over.{Again, Ahead, Local, again, closed, enter, followed, headed, is_quiet, joined, more, next, no_word, not_compared, not_joined, past, rule, same, step, token, unmarked}

operator_quiet : (by : ConditionalOperator) → is_quiet (operator_kind by) ≡ true
operator_quiet Equality = refl
operator_quiet _ = refl

module _ {A B : Type 0} (leaf : Tok → A) (position : Tok → B) (MayEnter : ℕ → Option SignificantToken → Type 0) where
  mutual
    pub expression : {c : Bool} {d : ℕ} {e : Expr A B} {fs : List (Noted B)} {ts x y : Tokens} → Local is_quiet (Expression leaf position MayEnter c d e fs) ts x y
    expression {d = d} (g.or o left kind right) h =
        let r = expression right h in
        rule (joined r kind refl (disjunct left (more r.ahead))) (λ away l. g.or (enter (MayEnter d) away o) l kind r.derives)
    expression {d = d} (g.disjunct o left n) h = rule (disjunct left h) (λ away l. g.disjunct (enter (MayEnter d) away o) l (next _ h n))

    disjunct : {c : Bool} {d : ℕ} {e : Expr A B} {fs : List (Noted B)} {ts x y : Tokens} → Local is_quiet (Disjunct leaf position MayEnter c d e fs) ts x y
    disjunct (g.and left kind right) h =
        let r = disjunct right h in
        rule (joined r kind refl (compared left (more r.ahead))) (λ away l. g.and l kind r.derives)
    disjunct (g.comparison left n) h = rule (compared left h) (λ away l. g.comparison l (next _ h n))

    compared : {c : Bool} {d : ℕ} {e : Expr A B} {fs : List (Noted B)} {ts x y : Tokens} → Local is_quiet (Compared leaf position MayEnter c d e fs) ts x y
    compared (g.compare by left kind right) h =
        let r = conjunct right h in
        rule (joined r kind (operator_quiet by) (conjunct left (more r.ahead))) (λ away l. g.compare by l kind r.derives)
    compared (g.conjunct left n) h = rule (conjunct left h) (λ away l. g.conjunct l (not_compared h n))

    conjunct : {d : ℕ} {e : Expr A B} {fs : List (Noted B)} {ts x y : Tokens} → Local is_quiet (Conjunct leaf position MayEnter d e fs) ts x y
    conjunct (g.conditional w inside) h = token w.is_name refl (rule (conditional inside h) (λ away r. g.conditional w r))
    conjunct (g.root kind right) h = token kind refl (rule (conjunct right h) (λ away r. g.root kind r))
    conjunct (g.join n left kind right) h =
        let r = conjunct right h in
        rule (joined r kind refl (value left (more r.ahead))) (λ away l. g.join (no_word _ away n) l kind r.derives)
    conjunct (g.list_concatenation n left kind right) h =
        let r = conjunct right h in
        rule (joined r kind refl (value left (more r.ahead))) (λ away l. g.list_concatenation (no_word _ away n) l kind r.derives)
    conjunct (g.concatenation n left kind right) h =
        let r = conjunct right h in
        rule (joined r kind refl (value left (more r.ahead))) (λ away l. g.concatenation (no_word _ away n) l kind r.derives)
    conjunct (g.value n inside stop) h = rule (value inside h) (λ away v. g.value (no_word _ away n) v (not_joined h stop))

    condition : {d : ℕ} {e : Expr A B} {fs : List (Noted B)} {ts x y : Tokens} → Local is_quiet (Condition leaf position MayEnter d e fs) ts x y
    condition (g.condition inside) h = headed (expression inside h) (λ b away r. g.condition r)

    braced : {d : ℕ} {e : Expr A B} {fs : List (Noted B)} {ts x y : Tokens} → Local is_quiet (Braced leaf position MayEnter d e fs) ts x y
    braced (g.braces kind inside kind2) h = token kind refl (closed kind2 refl (rule (expression inside (more h)) (λ away r. g.braces kind r kind2)))

    conditional : {d : ℕ} {word : SignificantToken} {e : Expr A B} {fs : List (Noted B)} {ts x y : Tokens} → Local is_quiet (Conditional leaf position MayEnter d word e fs) ts x y
    conditional (g.if_only first branch n) h =
        let b = braced branch h in
        rule (followed b (condition first b.ahead)) (λ away c. g.if_only c b.derives (no_word _ h n))
    conditional (g.if_else first branch otherwise last n) h =
        let o = braced last h in
        let b = joined o otherwise.is_name refl (braced branch (more o.ahead)) in
        rule (followed b (condition first b.ahead)) (λ away c. g.if_else c b.derives otherwise o.derives (λ e. no_word _ h (n e)))
    conditional (g.else_if first branch otherwise w last) h =
        let o = conditional last h in
        let b = braced branch (more (more o.ahead)) in
        let c = condition first b.ahead in
        again (g.else_if c.derives b.derives otherwise w o.derives)
        (past c.over (past b.over (step (ap is_quiet otherwise.is_name) (step (ap is_quiet w.is_name) o.over)))) h

    pub value : {d : ℕ} {e : Expr A B} {fs : List (Noted B)} {ts x y : Tokens} → Local is_quiet (Value leaf position MayEnter d e fs) ts x y
    value (g.not kind inside) h = token kind refl (rule (value inside h) (λ away v. g.not kind v))
    value (g.literal kind) h = again (g.literal kind) (step (ap is_quiet kind) same) h
    value (g.expanded m) h = again (g.expanded m) (step (ap is_quiet m.marks.is_name) (step (ap is_quiet m.is_string) same)) h
    value (g.format_literal m) h = again (g.format_literal m) (step (ap is_quiet m.marks.is_name) (step (ap is_quiet m.is_string) same)) h
    value (g.format_string m inside parts) h =
        let p = format_parts parts h in
        token m.marks.is_name refl (token m.is_string refl (rule (followed p (expression inside p.ahead)) (λ away r. g.format_string m r p.derives)))
    value (g.backtick kind) h = again (g.backtick kind) (step (ap is_quiet kind) same) h
    value (g.assert w kind inside kind2) h =
        token w.is_name refl (token kind refl (closed kind2 refl (rule (condition inside (more h)) (λ away c. g.assert w kind c kind2))))
    value (g.assert_message w kind inside kind2 message kind3) h =
        let m = closed kind3 refl (expression message (more h)) in
        token w.is_name refl
        (token kind refl (rule (joined m kind2 refl (condition inside (more m.ahead))) (λ away c. g.assert_message w kind c kind2 m.derives kind3)))
    value (g.variable kind no_assert u n) h = again (g.variable kind no_assert (unmarked h u) (next _ h n)) (step (ap is_quiet kind) same) h
    value (g.call kind no_assert kind2 arguments) h =
        token kind refl (token kind2 refl (rule (sequence arguments refl h) (λ away s. g.call kind no_assert kind2 s)))
    value (g.group kind inside kind2) h = token kind refl (closed kind2 refl (rule (expression inside (more h)) (λ away r. g.group kind r kind2)))
    value (g.list kind elements) h = token kind refl (rule (sequence elements refl h) (λ away s. g.list kind s))

    pub sequence : {closing : TokenKind} {d : ℕ} {es : Exprs A B} {fs : List (Noted B)} {ts x y : Tokens} → Sequence leaf position MayEnter closing d es fs ts x
        → is_quiet closing ≡ true → Ahead x y → Again is_quiet x y (λ r. Sequence leaf position MayEnter closing d es fs r y) ts
    sequence (g.none kind) q h = again (g.none kind) (step (ap is_quiet kind ∙ q) same) h
    sequence (g.last n inside kind) q h = closed kind q (rule (expression inside (more h)) (λ away r. g.last (next _ away n) r kind))
    sequence (g.more n inside kind others) q h =
        let s = sequence others q h in
        rule (joined s kind refl (expression inside (more s.ahead))) (λ away r. g.more (next _ away n) r kind s.derives)

    format_parts : {d : ℕ} {ps : Parts A B} {fs : List (Noted B)} {ts x y : Tokens} → Local is_quiet (FormatParts leaf position MayEnter d ps fs) ts x y
    format_parts (g.end kind) h = again (g.end kind) (step (ap is_quiet kind) same) h
    format_parts (g.next kind inside parts) h =
        let p = format_parts parts h in
        token kind refl (rule (followed p (expression inside p.ahead)) (λ away r. g.next kind r p.derives))
