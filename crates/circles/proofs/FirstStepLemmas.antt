-- The first edge from a node with a flag is its first step.
use Rattle.std.proofs.Common.{◌≡◌, ◌∙◌, ◌<◌, ℕ, zero, suc, Bool, true, false, List, Some, None, length, get_or, refl, sym, subst, ap, inl, inr, arith, eq-eqb}
use Rattle.std.proofs.lemmas.Bool.Decides.{nat_tests}
use Rattle.std.specs.Option.{option_or}
use Rattle.std.proofs.lemmas.Bool.{cases_lt}
use Rattle.circles.specs.declared.edge.Edge.{Edge}
use Rattle.circles.specs.declared.edge.TheConstants.{NO_EDGE}
use Rattle.circles.specs.Circles.{AreInCircles}
use Rattle.circles.specs.FirstCircles.{start_of}
use Rattle.circles.specs.Walks.{Steps, first_flagged, flagged, step_from}
use Rattle.circles.proofs.ListedLemmas.{AreFirstSteps}
use Rattle.circles.proofs.WalkLemmas.{none_or_some, not_both, same_index}

module _ (edges : List Edge) (flags : List Bool) where
  abbrev Flagged : (index node : ℕ) → Type 0
  Flagged index node = (get_or flags index false ≡ true) × (start_of edges index ≡ node)

  flag_of : (index node : ℕ) → Flagged index node → flagged edges flags index node ≡ Some index
  flag_of index node h = grind (arith, h.0, eq-eqb _ _ h.1)

  of_flag : (index node k : ℕ) → flagged edges flags index node ≡ Some k → Flagged index node × (index ≡ k)
  of_flag index node k e = ((grind (arith, nat_tests), grind (arith, nat_tests)), grind (arith, nat_tests))

  -- the first one
  record Firsts (count node index : ℕ) : Type 0 where
    before : index < count
    has : Flagged index node
    no_other : (other : ℕ) → other < index → Flagged other node → ⊥

  none_flagged : (count node : ℕ) → first_flagged edges flags count node ≡ None → (other : ℕ) → other < count → Flagged other node → ⊥
  none_flagged zero node n other h f = omega (arith, h)
  none_flagged (suc count) node n other h f =
      elim (none_or_some (first_flagged edges flags count node)) [
        | inl e ↦
            elim (cases_lt other count) [
              | inl l ↦ none_flagged count node e other l f
              | inr g ↦
                  let same : other ≡ count = omega (arith, g, h) in
                  let P : ℕ → Type 0 = λ x. Flagged x node in
                  not_both (flagged edges flags count node) count (flag_of count node (subst P same f))
                  (sym (ap (λ o. option_or o (flagged edges flags count node)) e) ∙ n)
            ]
        | inr (k, s) ↦ not_both (Some k) k refl (sym (ap (λ o. option_or o (flagged edges flags count node)) s) ∙ n)
      ]

  first_one : (count node index : ℕ) → first_flagged edges flags count node ≡ Some index → Firsts count node index
  first_one zero node index e = absurd (not_both None index e refl)
  first_one (suc count) node index e =
      elim (none_or_some (first_flagged edges flags count node)) [
        | inl n ↦
            let (has, same) = of_flag count node index (sym (ap (λ o. option_or o (flagged edges flags count node)) n) ∙ e) in
            let P : ℕ → Type 0 = λ x. Firsts (suc count) node x in
            subst P same (record { before = omega arith; has = has; no_other = none_flagged count node n })
        | inr (k, s) ↦
            let same : k ≡ index = same_index (Some k) k index refl (sym (ap (λ o. option_or o (flagged edges flags count node)) s) ∙ e) in
            let f = first_one count node k s in
            let P : ℕ → Type 0 = λ x. Firsts (suc count) node x in
            subst P same (record { before = omega (arith, f.before); has = f.has; no_other = f.no_other })
      ]

  found_one : (count node index : ℕ) → index < count → Flagged index node → (step : ℕ) × (first_flagged edges flags count node ≡ Some step)
  found_one count node index h f =
      elim (none_or_some (first_flagged edges flags count node)) [
        | inl n ↦ absurd (none_flagged count node n index h f)
        | inr s ↦ s
      ]

  pub first_steps : (next : Steps) → AreInCircles edges flags → ((node : ℕ) → step_from next node ≡ first_flagged edges flags (length edges) node) → AreFirstSteps edges next
  first_steps next circles is = record {
    sound = λ node index s.
        let f = first_one (length edges) node index (sym (is node) ∙ s) in (
          record {
            inside = f.before;
            circular = (circles.flags index NO_EDGE f.before).0 f.has.0;
            no_other = λ other less same circle.
                f.no_other other less ((circles.flags other NO_EDGE (omega (arith, less, f.before))).1 circle, same ∙ f.has.1);
          },
          f.has.1,
        );
    complete = λ index h circle.
        let (step, e) = found_one (length edges) (start_of edges index) index h ((circles.flags index NO_EDGE h).1 circle, refl) in
        (step, is (start_of edges index) ∙ e);
  }
