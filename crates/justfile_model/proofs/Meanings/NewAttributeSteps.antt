-- Checks one after another agree with the meaning and with the list of broken rules.
use Rattle.std.proofs.Common.{◌≡◌, ◌∙◌, List, [], ◌∷◌, ◌++◌, Bool, true, false, not, map, Option, Some, None, Ok, Err, is_some, refl, sym, ap, subst, arith, true≢false}
use Rattle.std.specs.List.{Contains, flat_map}
use Rattle.std.proofs.lemmas.List.{append-nil, append_assoc}
use Rattle.std.proofs.lemmas.List.Elements.{Contains-append_left}
use Rattle.justfile_model.specs.Meanings.AttributeRules.{of_some}
use Rattle.justfile_model.specs.Meanings.Meaning as means
use Rattle.justfile_model.specs.Meanings.Meaning.{all_of, of_given}
use Rattle.justfile_model.specs.Readers.NewAttribute as new
use Rattle.justfile_model.specs.Readers.NewAttribute.{Made, check, if_given, make_all, or_refuse, refuse}
use Rattle.justfile_model.specs.Meanings.Rules.{Rule, Broken, broken_if}

abbrev pub Fits : {B X : Type 0} → (T : Type 0) → Made B X → Option X → List (Broken B) → Type 0
Fits T (Ok x) meaning rules = (meaning ≡ Some x) × (rules ≡ [])
Fits T (Err r) meaning rules = T → Contains rules r

-- What is made is the meaning, and no rule is broken. An error is one of the broken rules, if `T` holds.
pub record Agrees {B X : Type 0} (T : Type 0) (m : Made B X) (meaning : Option X) (rules : List (Broken B)) : Type 0 where
  pub fits : Fits T m meaning rules

pub contains_first : {X : Type 0} (x : X) (xs : List X) → Contains (x ∷ xs) x
contains_first x xs = (0, (omega arith), refl)

pub nothing_in : {X : Type 0} (x : X) → Contains [] x → ⊥
nothing_in x h = omega (arith, h.1)

pub agreed : {B X T : Type 0} (x : X) (meaning : Option X) (rules : List (Broken B)) → meaning ≡ Some x → rules ≡ [] → Agrees T (Ok x) meaning rules
agreed x meaning rules e k = record { fits = (e, k) }

-- the first rule that is broken
pub refused_first : {B X T : Type 0} (rule : Rule B) (token : B) (meaning : Option X) (rules : List (Broken B))
    → Agrees T (refuse rule token) meaning (record { rule = rule; token = token } ∷ rules)
refused_first rule token meaning rules = record { fits = λ t. contains_first (record { rule = rule; token = token }) rules }

-- ---- lists of rules, part after part

abbrev pub all_parts : {X : Type 0} → List (List X) → List X
all_parts [] = []
all_parts (l ∷ ls) = l ++ all_parts ls

-- the parts after others, as they are written one after another
abbrev pub parts_after : {X : Type 0} → List X → List (List X) → List X
parts_after before [] = before
parts_after before (l ∷ ls) = parts_after (before ++ l) ls

pub parts_are : {X : Type 0} (before : List X) (ls : List (List X)) → before ++ all_parts ls ≡ parts_after before ls
parts_are before [] = append-nil before
parts_are before (l ∷ ls) = sym (append_assoc before l (all_parts ls)) ∙ parts_are (before ++ l) ls

-- ---- what is given by all of several

-- what follows what is given
pub then_is : {X Y : Type 0} {o : Option X} (f : X → Option Y) {x : X} {y : Option Y} → o ≡ Some x → f x ≡ y → means.◌>>=◌ o f ≡ y
then_is f e k = ap (λ o. means.◌>>=◌ o f) e ∙ k

-- the first of all, and the others
pub record FirstOf {X Y : Type 0} (f : X → Option Y) (x : X) (xs : List X) (all : List Y) : Type 0 where
  pub first : Y
  pub others : List Y
  pub first_is : f x ≡ Some first
  pub others_are : all_of f xs ≡ Some others
  pub all_are : all ≡ first ∷ others

pub first_of_all : {X Y : Type 0} (f : X → Option Y) (x : X) (xs : List X) (all : List Y) → all_of f (x ∷ xs) ≡ Some all → FirstOf f x xs all
first_of_all {X} {Y} f x xs all e = go (f x) refl (all_of f xs) refl e
  where
    go : (o : Option Y) → f x ≡ o → (p : Option (List Y)) → all_of f xs ≡ p
        → means.◌>>=◌ o (λ y. means.◌>>=◌ p (λ ys. Some (y ∷ ys))) ≡ Some all → FirstOf f x xs all
    go None h p k e = absurd (true≢false (sym (ap is_some e)))
    go (Some y) h None k e = absurd (true≢false (sym (ap is_some e)))
    go (Some y) h (Some ys) k e = record { first = y; others = ys; first_is = h; others_are = k; all_are = let same : y ∷ ys ≡ all = cc in sym same }

pub given_is_there : {X Y : Type 0} (f : X → Option Y) (o : Option X) (p : Option Y) → of_given f o ≡ Some p → is_some p ≡ is_some o
given_is_there f None p e = let same : None ≡ p = cc in ap is_some (sym same)
given_is_there {X} {Y} f (Some x) p e = go (f x) e
  where
    go : (o : Option Y) → means.◌>>=◌ o (λ y. Some (Some y)) ≡ Some p → is_some p ≡ true
    go None e = absurd (true≢false (sym (ap is_some e)))
    go (Some y) e = let same : Some y ≡ p = cc in ap is_some (sym same)

module _ {B T : Type 0} where
  -- ---- one step, and what follows it

  pub step : {X Y : Type 0} {m : Made B X} {o : Option X} {l : List (Broken B)} {f : X → Made B Y} {p : Option Y} {more : List (Broken B)}
      → Agrees T m o l → ((x : X) → o ≡ Some x → Agrees T (f x) p more) → Agrees T (new.◌>>=◌ m f) p (l ++ more)
  step {m = Ok x} {f = f} {p = p} {more = more} h next = subst (λ n. Agrees T (f x) p (n ++ more)) (sym h.fits.1) (next x h.fits.0)
  step {m = Err r} {l = l} {more = more} h next = record { fits = λ t. Contains-append_left l more r (h.fits t) }

  -- after the last step all is made
  pub last_step : {X Y : Type 0} {m : Made B X} {o : Option X} {l : List (Broken B)} {f : X → Y} {p : Option Y}
      → Agrees T m o l → ((x : X) → o ≡ Some x → p ≡ Some (f x)) → Agrees T (new.◌>>=◌ m (λ x. Ok (f x))) p l
  last_step {m = Ok x} h means = record { fits = (means x h.fits.0, h.fits.1) }
  last_step {m = Err r} h means = record { fits = h.fits }

  pub step_check : {Y : Type 0} (b : Bool) (rule : Rule B) (token : B) {m : Made B Y} {p : Option Y} {more : List (Broken B)}
      → (b ≡ false → Agrees T m p more) → Agrees T (new.◌>>=◌ (check b rule token) (λ checked. m)) p (broken_if b rule token ++ more)
  step_check true rule token {p = p} {more = more} next = refused_first rule token p more
  step_check false rule token next = next refl

  pub last_check : {Y : Type 0} (b : Bool) (rule : Rule B) (token : B) {y : Y} {p : Option Y}
      → (b ≡ false → p ≡ Some y) → Agrees T (new.◌>>=◌ (check b rule token) (λ checked. Ok y)) p (broken_if b rule token)
  last_check true rule token {p = p} means = refused_first rule token p []
  last_check false rule token means = agreed _ _ [] (means refl) refl

  pub one_check : (b : Bool) (rule : Rule B) (token : B) → Agrees T (check b rule token) (Some tt) (broken_if b rule token)
  one_check true rule token = refused_first rule token (Some tt) []
  one_check false rule token = agreed tt (Some tt) [] refl refl

  -- ---- what has to be there

  pub step_some : {X Y : Type 0} (o : Option X) (rule : Rule B) (token : B) {f : X → Made B Y} {g : X → Option Y} {l : X → List (Broken B)}
      → ((x : X) → o ≡ Some x → Agrees T (f x) (g x) (l x))
      → Agrees T (new.◌>>=◌ (or_refuse o rule token) f) (means.◌>>=◌ o g) (broken_if (not (is_some o)) rule token ++ of_some l o)
  step_some None rule token next = refused_first rule token None []
  step_some (Some x) rule token next = next x refl

  pub last_some : {X Y : Type 0} (o : Option X) (rule : Rule B) (token : B) (f : X → Y)
      → Agrees T (new.◌>>=◌ (or_refuse o rule token) (λ x. Ok (f x))) (means.◌>>=◌ o (λ x. Some (f x))) (broken_if (not (is_some o)) rule token)
  last_some None rule token f = refused_first rule token None []
  last_some (Some x) rule token f = agreed _ _ [] refl refl

  pub one_some : {X : Type 0} (o : Option X) (rule : Rule B) (token : B) → Agrees T (or_refuse o rule token) o (broken_if (not (is_some o)) rule token)
  one_some None rule token = refused_first rule token None []
  one_some (Some x) rule token = agreed x (Some x) [] refl refl

  -- ---- what may be there

  pub if_there : {X Y : Type 0} (o : Option X) {f : X → Made B Y} {g : X → Option Y} {l : X → List (Broken B)}
      → ((x : X) → o ≡ Some x → Agrees T (f x) (g x) (l x)) → Agrees T (if_given f o) (of_given g o) (of_some l o)
  if_there None h = agreed None (Some None) [] refl refl
  if_there (Some x) h = last_step (h x refl) (λ y e. then_is _ e refl)

  -- if `T` fails, the rules aren't needed
  pub unasked : {X : Type 0} {m : Made B X} {o : Option X} {l : List (Broken B)} → (T → ⊥) → Agrees T m o l → Agrees T m o []
  unasked {m = Ok x} never h = record { fits = (h.fits.0, refl) }
  unasked {m = Err r} never h = record { fits = λ t. absurd (never t) }

  -- ---- each in turn

  pub each : {X Y Z : Type 0} {f : X → Made B Y} (g : Z → Option Y) {at : X → Z} {l : X → List (Broken B)} (xs : List X)
      → ((x : X) → Agrees T (f x) (g (at x)) (l x)) → Agrees T (make_all f xs) (all_of g (map at xs)) (flat_map l xs)
  each g [] h = agreed [] (Some []) [] refl refl
  each g (x ∷ xs) h = step (h x) (λ y e. last_step (each g xs h) (λ ys k. then_is _ e (then_is _ k refl)))
