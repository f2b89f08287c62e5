-- Making related attributes: either both are made and are related, or related rules are broken.
use Rattle.std.proofs.Common.{◌≡◌, Bool, true, false, cond, List, Option, Ok, Err}
use Rattle.justfile_model.specs.Readers.NewAttribute.{◌>>=◌, Made, check, if_given, make_all, or_refuse, refuse}
use Rattle.justfile_model.specs.Meanings.Rules.{Broken, Rule}
use Rattle.justfile_model.proofs.Relations.AlikeRules.{AlikeBroken, AlikeRule}
use Rattle.justfile_model.proofs.Lists.EachLaws.{AlikeOption, absent, present}
use Rattle.justfile_model.proofs.Relations.Related.{Each}
use Rattle.justfile_model.proofs.Relations.Related.Each.{cons, nil}

module _ {B B' : Type 0} (Position : B → B' → Type 0) where
  -- both are made and related, or alike rules are broken
  pub data Makes {X X' : Type 0} (Q : X → X' → Type 0) : Made B X → Made B' X' → Type 0 where
    made : {x : X} {x' : X'} → Q x x' → Makes Q (Ok x) (Ok x')
    broken : {r : Broken B} {r' : Broken B'} → AlikeBroken Position r r' → Makes Q (Err r) (Err r')

  -- one step after another
  pub step : {X X' Y Y' : Type 0} {Q : X → X' → Type 0} {P : Y → Y' → Type 0} {m : Made B X} {m' : Made B' X'} (f : X → Made B Y) (f' : X' → Made B' Y')
      → Makes Q m m' → ((x : X) (x' : X') → Q x x' → Makes P (f x) (f' x')) → Makes P (m >>= f) (m' >>= f')
  step f f' (made {x = x} {x' = x'} q) k = k x x' q
  step f f' (broken h) k = broken h

  -- nothing is made but a check
  abbrev pub Checks : Unit {0} → Unit {0} → Type 0
  Checks x y = Unit {0}

  pub refused : {X X' : Type 0} {Q : X → X' → Type 0} {r : Rule B} {r' : Rule B'} {t : B} {t' : B'} → AlikeRule Position r r' → Position t t'
      → Makes Q (refuse r t) (refuse r' t')
  refused h k = broken (record { rule = h; token = k })

  pub checked : (b b' : Bool) {r : Rule B} {r' : Rule B'} {t : B} {t' : B'} → b ≡ b' → AlikeRule Position r r' → Position t t'
      → Makes Checks (check b r t) (check b' r' t')
  checked true true e h k = refused h k
  checked false false e h k = made tt
  checked _ _ e h k = cc

  pub by_tests : {X X' : Type 0} {Q : X → X' → Type 0} (b b' : Bool) {m n : Made B X} {m' n' : Made B' X'} → b ≡ b' → Makes Q m m' → Makes Q n n'
      → Makes Q (cond b m n) (cond b' m' n')
  by_tests true true e h k = h
  by_tests false false e h k = k
  by_tests _ _ e h k = cc

  pub given : {X X' Y Y' : Type 0} {Q : X → X' → Type 0} {P : Y → Y' → Type 0} {o : Option X} {o' : Option X'} (f : X → Made B Y) (f' : X' → Made B' Y')
      → AlikeOption Q o o' → ((x : X) (x' : X') → Q x x' → Makes P (f x) (f' x')) → Makes (AlikeOption P) (if_given f o) (if_given f' o')
  given f f' absent k = made absent
  given f f' (present {x = x} {y = x'} q) k = step _ _ (k x x' q) (λ y y' p. made (present p))

  pub all_made : {X X' Y Y' : Type 0} {Q : X → X' → Type 0} {P : Y → Y' → Type 0} {xs : List X} {xs' : List X'} (f : X → Made B Y) (f' : X' → Made B' Y')
      → ((x : X) (x' : X') → Q x x' → Makes P (f x) (f' x')) → Each Q xs xs' → Makes (Each P) (make_all f xs) (make_all f' xs')
  all_made f f' k nil = made nil
  all_made f f' k (cons {x = x} {y = x'} q qs) = step _ _ (k x x' q) (λ y y' p. step _ _ (all_made f f' k qs) (λ ys ys' ps. made (cons p ps)))

  pub there : {X X' : Type 0} {Q : X → X' → Type 0} {o : Option X} {o' : Option X'} {r : Rule B} {r' : Rule B'} {t : B} {t' : B'}
      → AlikeOption Q o o' → AlikeRule Position r r' → Position t t' → Makes Q (or_refuse o r t) (or_refuse o' r' t')
  there absent h k = refused h k
  there (present q) h k = made q
