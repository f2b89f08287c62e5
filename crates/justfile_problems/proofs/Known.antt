-- All problems, from tables that have the first definitions.
use Rattle.std.proofs.Common.{◌≡◌, ◌∙◌, ◌<◌, ◌++◌, ℕ, Bool, Global, IfOk, List, [], ◌∷◌, Vec, ap, arith, length, IsPermutation, OnOk, Result, subst}
use Rattle.justfile_problems.specs.declared.facts.Definition.{Definition}
use Rattle.justfile_problems.specs.declared.facts.Rules.{Rules}
use Rattle.justfile_problems.specs.declared.facts.Suspect.{Suspect}
use Rattle.justfile_problems.specs.declared.facts.Use.{Use}
use Rattle.justfile_problems.specs.declared.names.Names.{Names}
use Rattle.justfile_problems.specs.declared.overridden.Overridden.{Overridden}
use Rattle.justfile_problems.specs.declared.problem.Problem.{Problem}
use Rattle.justfile_problems.specs.Names.{HasFirsts, first, known}
use Rattle.justfile_problems.specs.Overridden.{AreOverridden, is_overridden, is_overridden_in}
use Rattle.justfile_problems.specs.Problems.{all_problems, definition_problems, problems_within, suspect_problems, use_problems, within}

-- the tables and the definitions say the same of each name
pub are_known : (names : Names) (ds : List Definition) → HasFirsts ds names → known names ≡ first ds
are_known names ds h = λ i. λ space scope text. h space scope text i

-- and so do a set of offsets and the definitions
pub are_overridden : (overridden : Overridden) (later ds : List Definition) → AreOverridden later ds overridden.offsets → is_overridden_in overridden ≡ is_overridden later ds
are_overridden overridden later ds h = λ i. λ offset. h offset i

-- all problems of a file that is alone
pub alone_found : (rules : Rules) (names : Names) (overridden : (offset : ℕ) → Bool) (ds : List Definition) (us : List Use) (ss : List Suspect) (a b c d : List Problem) → HasFirsts ds names
    → a ≡ [] ++ definition_problems rules (known names) ds → b ≡ a ++ use_problems rules (known names) overridden us → c ≡ b ++ suspect_problems rules (known names) ss → IsPermutation c d
    → IsPermutation (problems_within rules overridden [] ds us ss) d
alone_found rules names overridden ds us ss a b c d h ea eb ec p =
    let of_uses = use_problems rules (known names) overridden us in
    let of_suspects = suspect_problems rules (known names) ss in
    subst (λ l. IsPermutation l d)
    (ec ∙ ap (λ l. l ++ of_suspects) (eb ∙ ap (λ l. l ++ of_uses) ea)
    ∙ ap (λ k. definition_problems rules k ds ++ use_problems rules k overridden us ++ suspect_problems rules k ss) (are_known names ds h)) p

-- the problems of a file alone are all that is wrong with it
pub all_found : {E : Type 0} (r : Result (Vec Problem Global) E) (rules : Rules) (overridden : Overridden) (ds : List Definition) (us : List Use) (ss : List Suspect) → AreOverridden [] ds overridden.offsets
    → IfOk r (λ found. IsPermutation (problems_within rules (is_overridden_in overridden) [] ds us ss) found.items) → IfOk r (λ found. IsPermutation (all_problems rules ds us ss) found.items)
all_found r rules overridden ds us ss h found = subst (λ o. IfOk r (λ made. IsPermutation (problems_within rules o [] ds us ss) made.items)) (are_overridden overridden [] ds h) found

-- what is wrong with definitions, from a table that has the first ones
pub own_found : {A E : Type 0} (r : Result A E) (rules : Rules) (names : Names) (ds : List Definition) (old new : List Problem) → HasFirsts ds names
    → OnOk r (new ≡ old ++ definition_problems rules (known names) ds) → OnOk r (new ≡ old ++ definition_problems rules (first ds) ds)
own_found r rules names ds old new h f = subst (λ k. OnOk r (new ≡ old ++ definition_problems rules k ds)) (are_known names ds h) f

-- all problems of a file of a module
pub within_found : (rules : Rules) (names : Names) (overridden : (offset : ℕ) → Bool) (all own known_here : List Definition) (us : List Use) (ss : List Suspect) (a b c d : List Problem)
    → known_here ≡ within all own → HasFirsts known_here names → a ≡ [] ++ definition_problems rules (first own) own → b ≡ a ++ use_problems rules (known names) overridden us
    → c ≡ b ++ suspect_problems rules (known names) ss → IsPermutation c d → IsPermutation (problems_within rules overridden all own us ss) d
within_found rules names overridden all own known_here us ss a b c d is h ea eb ec p =
    let of_uses = use_problems rules (known names) overridden us in
    let of_suspects = suspect_problems rules (known names) ss in
    let of_own = definition_problems rules (first own) own in
    subst (λ l. IsPermutation l d)
    (ec ∙ ap (λ l. l ++ of_suspects) (eb ∙ ap (λ l. l ++ of_uses) ea)
    ∙ ap (λ k. of_own ++ use_problems rules k overridden us ++ suspect_problems rules k ss) (are_known names known_here h ∙ ap first is)) p

-- a file that shares nothing
pub alone : {E : Type 0} (r : Result (Vec Problem Global) E) (rules : Rules) (overridden : (offset : ℕ) → Bool) (all own : List Definition) (us : List Use) (ss : List Suspect) → length all < 1
    → IfOk r (λ found. IsPermutation (problems_within rules overridden [] own us ss) found.items) → IfOk r (λ found. IsPermutation (problems_within rules overridden all own us ss) found.items)
alone r rules overridden [] own us ss none h = h
alone r rules overridden (d ∷ ds) own us ss none h = absurd (omega arith)
