-- The results of the parser where rules can be broken, too: a value, or an error that is a literal without a text, an expression that is
-- too deep, or one of the broken rules.
use Rattle.std.proofs.Common.{◌≡◌, ◌⊎◌, ℕ, List, [], ◌++◌, Option, Result, Ok, Err, Contains, refl, sym, subst, ap, ◌∙◌, inl, inr, append-nil}
use Rattle.std.proofs.lemmas.List.Elements.{Contains-append_left, Contains-append_right}
use Rattle.justfile_model.specs.Grammars.Conditions.{Conditions}
use Rattle.justfile_model.specs.Grammars.Expressions.{Tokens}
use Rattle.justfile_model.specs.Grammars.Features.{Noted}
use Rattle.justfile_model.specs.LiteralTexts.Literals.{Literal}
use Rattle.justfile_model.specs.Readers.ReaderState.{◌>>=◌, BreaksRule}
use Rattle.justfile_model.specs.Meanings.Rules.{Broken}
use Rattle.justfile_model.specs.Lexing.SignificantTokens.{SignificantToken}
use Rattle.justfile_model.specs.Lexing.Tok.{Tok}
use Rattle.justfile_model.specs.Readers.TreeReader.{Read, ReadError, State}
use Rattle.justfile_model.proofs.Derivations.CookedTexts.{AllCook, both_cook}
use Rattle.justfile_model.proofs.Completeness.Reaching as plain
use Rattle.justfile_model.proofs.Completeness.Reaching.{DueOf, Reaches, due_first, due_then, lacks_none}
use Rattle.justfile_model.proofs.Readers.Steps.{input}

-- these rules are among the others
pub record Among (rules all : List (Broken Tok)) : Type 0 where
  pub carries : (rule : Broken Tok) → Contains rules rule → Contains all rule

pub all_among : (rules : List (Broken Tok)) → Among rules rules
all_among rules = record { carries = λ rule h. h }

pub among_first : (rules others : List (Broken Tok)) {all : List (Broken Tok)} → Among (rules ++ others) all → Among rules all
among_first rules others h = record { carries = λ rule c. h.carries rule (Contains-append_left rules others rule c) }

pub among_others : (rules others : List (Broken Tok)) {all : List (Broken Tok)} → Among (rules ++ others) all → Among others all
among_others rules others h = record { carries = λ rule c. h.carries rule (Contains-append_right rules others rule c) }

-- one of these rules is reported
pub record BreaksOne (rules : List (Broken Tok)) (r : ReadError) : Type 0 where
  pub rule : Broken Tok
  pub among : Contains rules rule
  pub refusal_is : r ≡ BreaksRule rule

-- a value with what is left after it
abbrev pub IsAt : {X : Type 0} → (X → Type 0) → State → X × State → Type 0
IsAt Is rest x = Is x.0 × (x.1 ≡ rest)

module _ (conditions : Conditions) (Hit : Option SignificantToken → Type 0) where
  -- an error that is due for these literals, at a depth, or for these rules
  abbrev pub DueAmong : List (Literal Tok) → List (Broken Tok) → ReadError → Type 0
  DueAmong ls rules r = DueOf conditions.expander Hit ls r ⊎ BreaksOne rules r

  -- a value with the property `Is` is parsed, or a due error is reported
  pub data ReachesSome {X : Type 0} (found : Result X ReadError) (Is : X → Type 0) (ls : List (Literal Tok)) (rules : List (Broken Tok)) : Type 0 where
    some_read : (x : X) → AllCook conditions.expander ls → Is x → found ≡ Ok x → ReachesSome found Is ls rules
    is_refused : {r : ReadError} → DueAmong ls rules r → found ≡ Err r → ReachesSome found Is ls rules

  -- this value is parsed, or a due error is reported
  abbrev pub ReachesOne : {X : Type 0} → (found : Result X ReadError) → X → List (Literal Tok) → List (Broken Tok) → Type 0
  ReachesOne found x = ReachesSome found (λ y. y ≡ x)

  pub by : {X : Type 0} {found found' : Result X ReadError} {Is : X → Type 0} {ls : List (Literal Tok)} {rules : List (Broken Tok)} → found ≡ found'
      → ReachesSome found' Is ls rules → ReachesSome found Is ls rules
  by {Is = Is} {ls = ls} {rules = rules} is h = subst (λ o. ReachesSome o Is ls rules) (sym is) h

  -- with the same literals, from an equal list
  pub regrouped : {X : Type 0} {found : Result X ReadError} {Is : X → Type 0} {ls ms : List (Literal Tok)} {rules : List (Broken Tok)} → ls ≡ ms
      → ReachesSome found Is ls rules → ReachesSome found Is ms rules
  regrouped {found = found} {Is = Is} {rules = rules} same h = subst (λ ls. ReachesSome found Is ls rules) same h

  -- with the same rules, from an equal list
  pub same_rules : {X : Type 0} {found : Result X ReadError} {Is : X → Type 0} {ls : List (Literal Tok)} {rules all : List (Broken Tok)} → rules ≡ all
      → ReachesSome found Is ls rules → ReachesSome found Is ls all
  same_rules {found = found} {Is = Is} {ls = ls} same h = subst (λ rules. ReachesSome found Is ls rules) same h

  -- of which this holds as well
  pub known_as : {X : Type 0} {found : Result X ReadError} {Is : X → Type 0} (As : X → Type 0) {ls : List (Literal Tok)} {rules : List (Broken Tok)}
      → ((x : X) → Is x → As x) → ReachesSome found Is ls rules → ReachesSome found As ls rules
  known_as As f (some_read x a h is) = some_read x a (f x h) is
  known_as As f (is_refused h is) = is_refused h is

  -- where no literal is read
  pub read_now : {X : Type 0} {found : Result X ReadError} {Is : X → Type 0} {rules : List (Broken Tok)} (x : X) → Is x → found ≡ Ok x
      → ReachesSome found Is [] rules
  read_now x h is = some_read x tt h is

  -- a broken rule is reported
  pub breaks_one : {X : Type 0} {found : Result X ReadError} {Is : X → Type 0} {ls : List (Literal Tok)} {rules : List (Broken Tok)} (rule : Broken Tok)
      → Contains rules rule → found ≡ Err (BreaksRule rule)
      → ReachesSome found Is ls rules
  breaks_one rule c is = is_refused (inr (record { rule = rule; among = c; refusal_is = refl })) is

  -- what is read without regard to rules
  pub plainly : {X : Type 0} {found : Result X ReadError} {x : X} {ls : List (Literal Tok)} {rules : List (Broken Tok)} → Reaches conditions Hit found x ls
      → ReachesOne found x ls rules
  plainly {x = x} (plain.is_read a is) = some_read x a refl is
  plainly (plain.is_refused h is) = is_refused (inl h) is

  -- with more rules that are broken
  pub with_rules : {X : Type 0} {found : Result X ReadError} {Is : X → Type 0} {ls : List (Literal Tok)} {rules all : List (Broken Tok)} → Among rules all
      → ReachesSome found Is ls rules → ReachesSome found Is ls all
  with_rules among (some_read x a h is) = some_read x a h is
  with_rules among (is_refused (inl h) is) = is_refused (inl h) is
  with_rules among (is_refused (inr h) is) = is_refused (inr (record { rule = h.rule; among = among.carries h.rule h.among; refusal_is = h.refusal_is })) is

  -- after literals that have texts
  onto : {X : Type 0} {found : Result X ReadError} {Is : X → Type 0} (ls ms : List (Literal Tok)) {rules : List (Broken Tok)} → AllCook conditions.expander ls
      → ReachesSome found Is ms rules
      → ReachesSome found Is (ls ++ ms) rules
  onto ls ms a (some_read x b h is) = some_read x (both_cook conditions.expander ls ms a b) h is
  onto ls ms a (is_refused {r = r} (inl h) is) = is_refused (inl (due_then conditions Hit ls ms r a h)) is
  onto ls ms a (is_refused (inr h) is) = is_refused (inr h) is

  -- a step, and those after it
  pub then : {X Y : Type 0} {found : Result X ReadError} {Is : X → Type 0} (f : X → Result Y ReadError) (As : Y → Type 0) {ls ms : List (Literal Tok)}
      {rules : List (Broken Tok)} → ReachesSome found Is ls rules
      → ((x : X) → Is x → AllCook conditions.expander ls → ReachesSome (f x) As ms rules) → ReachesSome (found >>= f) As (ls ++ ms) rules
  then f As {ls} {ms} {rules} (some_read x a h is) go = subst (λ o. ReachesSome (o >>= f) As (ls ++ ms) rules) (sym is) (onto ls ms a (go x h a))
  then f As {ls} {ms} (is_refused {r = r} (inl h) is) go = is_refused (inl (due_first conditions Hit ls ms r h)) (ap (λ o. o >>= f) is)
  then f As (is_refused (inr h) is) go = is_refused (inr h) (ap (λ o. o >>= f) is)

  -- the step has no literals after it
  pub last : {X Y : Type 0} {found : Result X ReadError} {Is : X → Type 0} (f : X → Result Y ReadError) (As : Y → Type 0) {ls : List (Literal Tok)}
      {rules : List (Broken Tok)} → ReachesSome found Is ls rules
      → ((x : X) → Is x → AllCook conditions.expander ls → ReachesSome (f x) As [] rules) → ReachesSome (found >>= f) As ls rules
  last f As {ls} h go = regrouped (append-nil ls) (then f As h go)

  -- a step that reads this, and those after it
  pub then_one : {X Y : Type 0} {found : Result X ReadError} {x : X} (f : X → Result Y ReadError) (As : Y → Type 0) {ls ms : List (Literal Tok)}
      {rules : List (Broken Tok)} → ReachesOne found x ls rules
      → ReachesSome (f x) As ms rules → ReachesSome (found >>= f) As (ls ++ ms) rules
  then_one f As {ms = ms} {rules = rules} h go = then f As h (λ y is a. subst (λ z. ReachesSome (f z) As ms rules) (sym is) go)

  pub last_one : {X Y : Type 0} {found : Result X ReadError} {x : X} (f : X → Result Y ReadError) (As : Y → Type 0) {ls : List (Literal Tok)}
      {rules : List (Broken Tok)} → ReachesOne found x ls rules
      → (AllCook conditions.expander ls → ReachesSome (f x) As [] rules) → ReachesSome (found >>= f) As ls rules
  last_one f As {rules = rules} h go = last f As h (λ y is a. subst (λ z. ReachesSome (f z) As [] rules) (sym is) (go a))

  -- a step that reads something up to this place, and those after it
  pub then_at : {X Y : Type 0} {found : Result (X × State) ReadError} {Is : X → Type 0} {rest : State} (f : X × State → Result Y ReadError) (As : Y → Type 0)
      {ls ms : List (Literal Tok)} {rules : List (Broken Tok)}
      → ReachesSome found (IsAt Is rest) ls rules → ((x : X) → Is x → ReachesSome (f (x, rest)) As ms rules) → ReachesSome (found >>= f) As (ls ++ ms) rules
  then_at f As {ms = ms} {rules = rules} h go = then f As h (λ y is a. subst (λ t. ReachesSome (f (y.0, t)) As ms rules) (sym is.1) (go y.0 is.0))

  -- the rules of a step, and of those after it
  pub then_more : {X Y : Type 0} {found : Result X ReadError} {Is : X → Type 0} (f : X → Result Y ReadError) (As : Y → Type 0) {ls ms : List (Literal Tok)}
      {rules others : List (Broken Tok)} → ReachesSome found Is ls rules
      → ((x : X) → Is x → AllCook conditions.expander ls → ReachesSome (f x) As ms others) → ReachesSome (found >>= f) As (ls ++ ms) (rules ++ others)
  then_more f As {rules = rules} {others = others} h go =
      then f As (with_rules (among_first rules others (all_among (rules ++ others))) h)
      (λ x is a. with_rules (among_others rules others (all_among (rules ++ others))) (go x is a))

  -- another term for what is read
  pub same_one : {X : Type 0} {found : Result X ReadError} {x y : X} {ls : List (Literal Tok)} {rules : List (Broken Tok)} → x ≡ y
      → ReachesOne found x ls rules → ReachesOne found y ls rules
  same_one {found = found} {ls = ls} {rules = rules} e h = subst (λ z. ReachesOne found z ls rules) e h

  -- with the same features, from an equal list
  pub renoted : {X : Type 0} {found : Read X} {e : X} {d : ℕ} {rest : Tokens} {m n : List (Noted Tok)} {ls : List (Literal Tok)} {rules : List (Broken Tok)}
      → m ≡ n → ReachesOne found (e, input conditions d rest m) ls rules → ReachesOne found (e, input conditions d rest n) ls rules
  renoted {e = e} {d = d} {rest = rest} same h = same_one (λ i. (e, input conditions d rest (same i))) h

  -- what is read up to here, in other words
  pub read_as : {X : Type 0} {found : Read X} {Is : X → Type 0} (As : X → Type 0) {s t : State} {ls : List (Literal Tok)} {rules : List (Broken Tok)}
      → ((x : X) → Is x → As x) → s ≡ t → ReachesSome found (IsAt Is s) ls rules → ReachesSome found (IsAt As t) ls rules
  read_as As {t = t} f e h = known_as (IsAt As t) (λ y is. (f y.0 is.0, is.1 ∙ e)) h

  -- the step has no literals after it, and no rule is broken there
  pub pass : {X Y : Type 0} {found : Result X ReadError} {x : X} (f : X → Result Y ReadError) {y : Y} {ls : List (Literal Tok)} {rules : List (Broken Tok)}
      → ReachesOne found x ls rules → f x ≡ Ok y → ReachesOne (found >>= f) y ls rules
  pass f {y = y} h goes = last_one f (λ z. z ≡ y) h (λ _. read_now y refl goes)

  -- one after the other, with the rules of both
  pub then_both : {X Y : Type 0} {found : Result X ReadError} {x : X} (f : X → Result Y ReadError) {y : Y} {ls ms : List (Literal Tok)}
      {rules others : List (Broken Tok)} → ReachesOne found x ls rules → ReachesOne (f x) y ms others → ReachesOne (found >>= f) y (ls ++ ms) (rules ++ others)
  then_both f {y = y} {ms = ms} {others = others} h go =
      then_more f (λ z. z ≡ y) h (λ x is a. subst (λ w. ReachesOne (f w) y ms others) (sym is) go)

  -- an error is one that is due
  err_inside : {X : Type 0} (q r : ReadError) → ◌≡◌ {A = Result X ReadError} (Err q) (Err r) → q ≡ r
  err_inside q r h = cc

  pub only_due : {X : Type 0} {found : Result X ReadError} {Is : X → Type 0} {ls : List (Literal Tok)} {rules : List (Broken Tok)} {r : ReadError} → found ≡ Err r
      → ReachesSome found Is ls rules → DueAmong ls rules r
  only_due e (some_read x a h is) = cc
  only_due {ls = ls} {rules = rules} {r = r} e (is_refused {r = q} h is) = subst (DueAmong ls rules) (err_inside q r (sym is ∙ e)) h
