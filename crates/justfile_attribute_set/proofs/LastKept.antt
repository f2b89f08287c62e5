-- A walk through a list from its end that keeps an element unless the same one was already kept.
use Rattle.std.proofs.Common.{◌≡◌, ◌∙◌, List, [], ◌∷◌, ◌++◌, Bool, true, false, cond, reverse, sym, ap}
use Rattle.std.specs.Cmp.{IsPartialEquivalence, per_alike}
use Rattle.std.specs.List.{list_any}
use Rattle.std.proofs.lemmas.List.{append_assoc, reverse-append}
use Rattle.std.proofs.lemmas.List.Sorted.{IsPermutation-reverse, list_any-IsPermutation}
use Rattle.justfile_model.specs.Lists.Distinct.{kept_last}
use Rattle.justfile_model.proofs.Lists.DistinctLaws.{any_kept}

module _ {X : Type 0} (same : X → X → Bool) where
  -- the elements visited so far are the end of the list, and `kept` has what is kept of them in reverse
  pub record HasMet (all before kept : List X) : Type 0 where
    pub met : List X
    pub is : all ≡ before ++ met
    pub kept_is : kept ≡ reverse (kept_last same met)

  module _ (per : IsPartialEquivalence same) where
    same_right : (x y z : X) → same y z ≡ true → same x y ≡ same x z
    same_right x y z h = per.symm x y ∙ per_alike per y z x h ∙ per.symm z x

    -- an element is the same as a visited one exactly if it is the same as a kept one
    any_met : (x : X) (met kept : List X) → kept ≡ reverse (kept_last same met) → list_any (same x) kept ≡ list_any (same x) met
    any_met x met kept e =
        let ys : List X = kept_last same met in
        ap (list_any (same x)) e ∙ sym (list_any-IsPermutation (same x) ys (reverse ys) (IsPermutation-reverse ys)) ∙ any_kept same (same x) (same_right x) met

    kept_or_left : (x : X) (met : List X) (b : Bool) → list_any (same x) met ≡ b → kept_last same (x ∷ met) ≡ cond b (kept_last same met) (x ∷ kept_last same met)
    kept_or_left x met b e = ap (λ c. cond c (kept_last same met) (x ∷ kept_last same met)) e

    one_more : (x : X) (all before front met : List X) → all ≡ before ++ met → before ≡ front ++ x ∷ [] → all ≡ front ++ x ∷ met
    one_more x all before front met e f = e ∙ ap (λ l. l ++ met) f ∙ append_assoc front (x ∷ []) met

    -- the next element is the same as a kept one
    pub met_left : (x : X) {all before kept front : List X} → HasMet all before kept → before ≡ front ++ x ∷ [] → list_any (same x) kept ≡ true → HasMet all front kept
    met_left x {all} {before} {kept} {front} h f e = record {
      met = x ∷ h.met;
      is = one_more x all before front h.met h.is f;
      kept_is = h.kept_is ∙ ap reverse (sym (kept_or_left x h.met true (sym (any_met x h.met kept h.kept_is) ∙ e)));
    }

    -- the next element differs from all kept ones
    pub met_kept : (x : X) {all before kept front later : List X} → HasMet all before kept → before ≡ front ++ x ∷ [] → list_any (same x) kept ≡ false
        → later ≡ kept ++ x ∷ [] → HasMet all front later
    met_kept x {all} {before} {kept} {front} {later} h f e g = record {
      met = x ∷ h.met;
      is = one_more x all before front h.met h.is f;
      kept_is =
          g ∙ ap (λ l. l ++ x ∷ []) h.kept_is ∙ sym (reverse-append (x ∷ []) (kept_last same h.met))
          ∙ ap reverse (sym (kept_or_left x h.met false (sym (any_met x h.met kept h.kept_is) ∙ e)));
    }
