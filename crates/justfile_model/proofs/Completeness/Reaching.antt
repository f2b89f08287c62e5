-- The results of the parser for tokens with a tree by the grammar: the tree, or an error that is a literal without a text or an expression
-- that is too deep.
use Rattle.std.proofs.Common.{◌≡◌, ◌⊎◌, ℕ, ◌<◌, ◌≤◌, false, cond, nat_lt, List, [], ◌∷◌, ◌++◌, Option, Result, Ok, Err, refl, sym, subst, ap, ◌∙◌, inl, inr, append_assoc, arith}
use Rattle.std.proofs.lemmas.Bool.Decides.{nat_tests}
use Rattle.justfile_model.specs.Grammars.Conditions.{Conditions}
use Rattle.justfile_model.specs.Lexing.Tok.{Tok}
use Rattle.justfile_model.specs.Lexing.SignificantTokens.{SignificantToken}
use Rattle.justfile_model.specs.Trees.Tree.{lexeme}
use Rattle.justfile_model.specs.Grammars.Features.{Noted}
use Rattle.justfile_model.specs.Grammars.Expressions.{Tokens, front, BelowLimit, AnyDepth, PastLimitAt}
use Rattle.justfile_model.specs.LiteralTexts.Literals.{Literal, over_literal, token_of, LiteralFault, Expansions, cooked_text}
use Rattle.justfile_model.specs.Readers.ReaderState.{TooDeep, NotCooked, ◌>>=◌, refused}
use Rattle.justfile_model.specs.Readers.ExpressionReader as r
use Rattle.justfile_model.specs.Readers.ExpressionReader.{by_text}
use Rattle.justfile_model.specs.Readers.TreeReader.{Read, ReadError, State, token_leaves}
use Rattle.justfile_model.specs.Readers.ReadErrors.{LacksText, IsTooDeep}
use Rattle.justfile_model.proofs.Derivations.CookedTexts.{AllCook, both_cook, then_cook, all_cook, texts_of}
use Rattle.justfile_model.proofs.Readers.ReadingSteps.{after_test}
use Rattle.justfile_model.proofs.Readers.Steps.{input}

at_limit : (limit d : ℕ) → d ≤ limit → nat_lt d limit ≡ false → d ≡ limit
at_limit limit d within h = let not : limit ≤ d = grind (arith, nat_tests) in omega (arith, within, not)

-- the limit applies to all expressions
pub kept : (limit d : ℕ) (at : Option SignificantToken) → BelowLimit limit d at → PastLimitAt limit (λ at. ⊥) d at
kept limit d at h = λ e. absurd (omega (arith, h, e))

-- and without it everything
pub dropped : (limit d : ℕ) (at : Option SignificantToken) → AnyDepth d at → PastLimitAt limit (λ at. Unit {0}) d at
dropped limit d at h = λ e. tt

-- the error is the first literal without a text, or an expression that is too deep
abbrev pub DueOf : Expansions → (Hit : Option SignificantToken → Type 0) → List (Literal Tok) → ReadError → Type 0
DueOf expander Hit all r = LacksText expander all r ⊎ IsTooDeep Hit r

module _ (conditions : Conditions) where
  -- ---- the first literal without a text

  lacks_first : (ls ms : List (Literal Tok)) (r : ReadError) → LacksText conditions.expander ls r → LacksText conditions.expander (ls ++ ms) r
  lacks_first ls ms r h = record {
    before = h.before;
    literal = h.literal;
    others = h.others ++ ms;
    all_is = ap (λ (l : List (Literal Tok)). l ++ ms) h.all_is ∙ append_assoc h.before (h.literal ∷ h.others) ms;
    cooked = h.cooked;
    cooks = h.cooks;
    fault = h.fault;
    no_text = h.no_text;
    refusal_is = h.refusal_is;
  }

  lacks_then : (ls ms : List (Literal Tok)) (r : ReadError) → AllCook conditions.expander ls → LacksText conditions.expander ms r → LacksText conditions.expander (ls ++ ms) r
  lacks_then ls ms r a h =
      let texts = texts_of conditions.expander (ls ++ h.before) (both_cook conditions.expander ls h.before a (all_cook conditions.expander h.before h.cooked h.cooks)) in
      record {
        before = ls ++ h.before;
        literal = h.literal;
        others = h.others;
        all_is = ap (λ (m : List (Literal Tok)). ls ++ m) h.all_is ∙ sym (append_assoc ls h.before (h.literal ∷ h.others));
        cooked = texts.0;
        cooks = texts.1;
        fault = h.fault;
        no_text = h.no_text;
        refusal_is = h.refusal_is;
      }

  text_or_none : (found : Result (List ℕ) LiteralFault) (text : List ℕ) (fault : LiteralFault) → found ≡ Ok text → found ≡ Err fault → ⊥
  text_or_none found text fault h e = cc

  -- no literal lacks a text where each has one
  pub lacks_none : (ls : List (Literal Tok)) (r : ReadError) → AllCook conditions.expander ls → LacksText conditions.expander ls r → ⊥
  lacks_none ls r a h =
      let here = then_cook conditions.expander h.before (h.literal ∷ h.others) (subst (AllCook conditions.expander) h.all_is a) in
      text_or_none (cooked_text conditions.expander (over_literal lexeme h.literal)) here.0.text h.fault here.0.is h.no_text

  -- ---- what is parsed if these literals have texts, where the limit doesn't apply to expressions that begin at some tokens

  module _ (Hit : Option SignificantToken → Type 0) where
    pub due_first : (ls ms : List (Literal Tok)) (r : ReadError) → DueOf conditions.expander Hit ls r → DueOf conditions.expander Hit (ls ++ ms) r
    due_first ls ms r (inl h) = inl (lacks_first ls ms r h)
    due_first ls ms r (inr h) = inr h

    pub due_then : (ls ms : List (Literal Tok)) (r : ReadError) → AllCook conditions.expander ls → DueOf conditions.expander Hit ms r → DueOf conditions.expander Hit (ls ++ ms) r
    due_then ls ms r a (inl h) = inl (lacks_then ls ms r a h)
    due_then ls ms r a (inr h) = inr h

    -- it is parsed, or a due error is reported
    pub data Reaches {X : Type 0} (found : Result X ReadError) (x : X) (ls : List (Literal Tok)) : Type 0 where
      is_read : AllCook conditions.expander ls → found ≡ Ok x → Reaches found x ls
      is_refused : {r : ReadError} → DueOf conditions.expander Hit ls r → found ≡ Err r → Reaches found x ls

    pub by : {X : Type 0} {found found' : Result X ReadError} {x : X} {ls : List (Literal Tok)} → found ≡ found' → Reaches found' x ls → Reaches found x ls
    by {x = x} {ls = ls} is h = subst (λ o. Reaches o x ls) (sym is) h

    -- with the same features, from an equal list
    pub renoted : {A : Type 0} {found : Read A} {e : A} {d : ℕ} {rest : Tokens} {m n : List (Noted Tok)} {ls : List (Literal Tok)} → m ≡ n → Reaches found (e, input conditions d rest m) ls → Reaches found (e, input conditions d rest n) ls
    renoted {A} {found} {e} {d} {rest} {ls = ls} same h = subst (λ (n : List (Noted Tok)). Reaches found (e, input conditions d rest n) ls) same h

    -- with the same literals, from an equal list
    pub regrouped : {X : Type 0} {found : Result X ReadError} {x : X} {ls ms : List (Literal Tok)} → ls ≡ ms → Reaches found x ls → Reaches found x ms
    regrouped {found = found} {x = x} same h = subst (λ (ls : List (Literal Tok)). Reaches found x ls) same h

    onto : {X : Type 0} {found : Result X ReadError} {x : X} (ls ms : List (Literal Tok)) → AllCook conditions.expander ls → Reaches found x ms → Reaches found x (ls ++ ms)
    onto ls ms a (is_read b is) = is_read (both_cook conditions.expander ls ms a b) is
    onto ls ms a (is_refused h is) = is_refused (due_then ls ms _ a h) is

    -- a step, and those after it
    pub then : {X Y : Type 0} {found : Result X ReadError} {x : X} (f : X → Result Y ReadError) {y : Y} {ls ms : List (Literal Tok)} → Reaches found x ls → Reaches (f x) y ms → Reaches (found >>= f) y (ls ++ ms)
    then f {y} {ls} {ms} (is_read a is) go = subst (λ o. Reaches (o >>= f) y (ls ++ ms)) (sym is) (onto ls ms a go)
    then f {y} {ls} {ms} (is_refused h is) go = is_refused (due_first ls ms _ h) (ap (λ o. o >>= f) is)

    -- the step has no literals after it
    pub pass : {X Y : Type 0} {found : Result X ReadError} {x : X} (f : X → Result Y ReadError) {y : Y} {ls : List (Literal Tok)} → Reaches found x ls → f x ≡ Ok y → Reaches (found >>= f) y ls
    pass f (is_read a is) goes = is_read a (ap (λ o. o >>= f) is ∙ goes)
    pass f (is_refused h is) goes = is_refused h (ap (λ o. o >>= f) is)

    text_reached : {A : Type 0} (l : Literal Tok) (e : A) (t : SignificantToken) (s : State) → t.tok ≡ token_of l
        → (found : Result (List ℕ) LiteralFault) → cooked_text conditions.expander (over_literal lexeme l) ≡ found → Reaches (by_text token_leaves (λ text. e) (t, s) found) (e, s) (l ∷ [])
    text_reached l e t s at (Ok text) h = is_read (record { text = text; is = h }, tt) refl
    text_reached l e t s at (Err fault) h =
        is_refused
        (inl (record { before = []; literal = l; others = []; all_is = refl; cooked = []; cooks = tt; fault = fault; no_text = h; refusal_is = ap (λ (t : Tok). NotCooked fault t) at }))
        refl

    -- a literal
    pub cooked : {A : Type 0} (make : Tok → A) (ask : List ℕ → Literal (List ℕ)) (l : Literal Tok) (t : SignificantToken) {d : ℕ} {ts : Tokens} {ns : List (Noted Tok)} → t.tok ≡ token_of l → ask t.tok.lexeme ≡ over_literal lexeme l
        → Reaches (r.cooked token_leaves make ask (t, input conditions d ts ns)) (make t.tok, input conditions d ts ns) (l ∷ [])
    unfolding r.cooked
    cooked make ask l t {d} {ts} {ns} at asks = text_reached l (make t.tok) t (input conditions d ts ns) at (cooked_text conditions.expander (ask t.tok.lexeme)) (ap (cooked_text conditions.expander) (sym asks))

    -- an expression is entered
    pub entered : {A : Type 0} {x : Read A} {y : A × State} {ls : List (Literal Tok)} (d : ℕ) (s : State) → d ≤ conditions.limit → PastLimitAt conditions.limit Hit d (front s.left) → (d < conditions.limit → Reaches x y ls)
        → Reaches (cond (nat_lt d conditions.limit) x (Err (refused TooDeep s))) y ls
    unfolding refused
    entered {x = x} {y = y} {ls = ls} d s within hit h =
        after_test (nat_lt d conditions.limit) x _ (λ o. Reaches o y ls) (λ t. h (grind (arith, nat_tests)))
        (λ t. is_refused (inr (record { token = front s.left; hit = hit (at_limit conditions.limit d within t); refusal_is = refl })) refl)
