-- Walks by a map of edges.
use Rattle.std.proofs.Common.{◌≡◌, ◌∙◌, ◌⊎◌, ℕ, Contains, List, [], ◌∷◌, ◌++◌, Option, Some, None, cond, nat_eq, unwrap_or, refl, sym, subst, ap, inl, inr, arith, eqb-true, eq-eqb}
use Rattle.std.proofs.lemmas.Bool.Decides.{nat_tests}
use Rattle.std.specs.Prelude.{⊤}
use Rattle.std.proofs.lemmas.Bool.{cases_Bool}
use Rattle.std.proofs.lemmas.List.Elements.{Contains-append_left, Contains-append_right, Contains-push, Contains-push_cases, Contains-append_cases}
use Rattle.circles.specs.declared.edge.Edge.{Edge}
use Rattle.circles.specs.FirstCircles.{AreApart, end_of, start_of}
use Rattle.circles.specs.Walks.{HasOwn, IsWalk, Steps, Walks, step_from}

abbrev Has : Option ℕ → Type 0
Has None = ⊥
Has (Some index) = ⊤

pub not_both : (o : Option ℕ) (index : ℕ) → o ≡ Some index → o ≡ None → ⊥
not_both o index e f = subst Has (sym e ∙ f) tt

pub none_or_some : (o : Option ℕ) → (o ≡ None) ⊎ ((index : ℕ) × (o ≡ Some index))
none_or_some None = inl refl
none_or_some (Some index) = inr (index, refl)

-- where there is none, there was none after a change that adds none
pub none_kept : (old new : Option ℕ) → ((index : ℕ) → new ≡ Some index → old ≡ Some index) → old ≡ None → new ≡ None
none_kept old new kept n =
    elim (none_or_some new) [
      | inl e ↦ e
      | inr (index, s) ↦ absurd (not_both old index (kept index s) n)
    ]

pub same_index : (o : Option ℕ) (i j : ℕ) → o ≡ Some i → o ≡ Some j → i ≡ j
same_index o i j e f = ap (λ x. unwrap_or x 0) (sym e ∙ f)

pub Contains-other : (xs : List ℕ) (x y : ℕ) → x ≡ y → Contains xs x → Contains xs y
Contains-other xs x y e h = let P : ℕ → Type 0 = λ z. Contains xs z in subst P e h

pub contains_none : (x : ℕ) → Contains [] x → ⊥
contains_none x (k, h, is) = omega (arith, h)

-- ---- numbers that are there once

not_in_both : (x : ℕ) (xs ys : List ℕ) → (Contains xs x → ⊥) → (Contains ys x → ⊥) → Contains (xs ++ ys) x → ⊥
not_in_both x xs ys f g h = elim (Contains-append_cases xs ys x h) [ inl l ↦ f l | inr r ↦ g r ]

pub apart_both : (xs ys : List ℕ) → AreApart xs → AreApart ys → ((x : ℕ) → Contains xs x → Contains ys x → ⊥) → AreApart (xs ++ ys)
apart_both [] ys a b h = b
apart_both (x ∷ xs) ys a b h = (
  not_in_both x xs ys a.0 (h x (Contains-append_left (x ∷ []) xs x (Contains-push [] x))),
  apart_both xs ys a.1 b (λ y c d. h y (Contains-append_right (x ∷ []) xs y c) d),
)

pub apart_behind : (xs ys : List ℕ) → AreApart (xs ++ ys) → AreApart ys
apart_behind [] ys a = a
apart_behind (x ∷ xs) ys a = apart_behind xs ys a.1

only : (x y : ℕ) → Contains (x ∷ []) y → x ≡ y
only x y h = elim (Contains-push_cases [] x y h) [ inl l ↦ absurd (contains_none y l) | inr e ↦ e ]

pub apart_push : (xs : List ℕ) (x : ℕ) → AreApart xs → (Contains xs x → ⊥) → AreApart (xs ++ x ∷ [])
apart_push xs x a h = apart_both xs (x ∷ []) a (contains_none x, tt) (λ y c d. h (Contains-other xs y x (sym (only x y d)) c))

-- ---- one step more

walk_push : (edges : List Edge) (steps : Steps) (gone : List ℕ) (from node index : ℕ) → IsWalk edges steps from gone node → step_from steps node ≡ Some index
    → IsWalk edges steps from (gone ++ index ∷ []) (end_of edges index)
walk_push edges steps [] from node index w s = (ap (λ n. step_from steps n) w ∙ s, refl)
walk_push edges steps (k ∷ ks) from node index w s = (w.0, walk_push edges steps ks (end_of edges k) node index w.1 s)

module _ (edges : List Edge) (from : ℕ) (old steps new : Steps) (gone : List ℕ) (node index : ℕ) (walks : Walks edges from old steps gone node) (has : step_from steps node ≡ Some index)
    (updates : (other : ℕ) → step_from new other ≡ cond (nat_eq node other) None (step_from steps other)) where
  others_kept : (other i : ℕ) → step_from new other ≡ Some i → step_from steps other ≡ Some i
  others_kept other i s = grind (arith, nat_tests, updates other)

  none_stays : (other : ℕ) → step_from steps other ≡ None → step_from new other ≡ None
  none_stays other n = grind (arith, nat_tests, updates other)

  node_out : (other : ℕ) → node ≡ other → step_from new other ≡ None
  node_out other e = updates other ∙ ap (λ b. cond b None (step_from steps other)) (eq-eqb node other e)

  had : step_from old node ≡ Some index
  had = walks.kept node index has

  taken_more : (other i : ℕ) → step_from old other ≡ Some i → step_from new other ≡ None → Contains (gone ++ index ∷ []) i
  taken_more other i s n =
      elim (cases_Bool (nat_eq node other)) [
        | inl t ↦
            let e : node ≡ other = eqb-true node other t in
            Contains-other (gone ++ index ∷ []) index i (same_index _ index i (sym (ap (λ x. step_from old x) e) ∙ had) s) (Contains-push gone index)
        | inr f ↦
            Contains-append_left gone (index ∷ []) i
            (walks.taken other i s (sym (ap (λ b. cond b None (step_from steps other)) f) ∙ sym (updates other) ∙ n))
      ]

  out_more : HasOwn edges old → (other i : ℕ) → step_from old other ≡ Some i → Contains (gone ++ index ∷ []) i → step_from new other ≡ None
  out_more own other i s c =
      elim (Contains-push_cases gone index i c) [
        | inl l ↦ none_stays other (walks.out own other i s l)
        | inr e ↦ node_out other (sym (own node index had) ∙ ap (start_of edges) e ∙ own other i s)
      ]

  pub walks_more : Walks edges from old new (gone ++ index ∷ []) (end_of edges index)
  walks_more = record {
    walk = walk_push edges old gone from node index walks.walk had;
    left = inl (elim walks.left [ inl n ↦ none_stays from n | inr e ↦ node_out from (sym e) ]);
    kept = λ other i s. walks.kept other i (others_kept other i s);
    taken = taken_more;
    out = out_more;
    once = λ own. apart_push gone index (walks.once own) (λ c. not_both _ index has (walks.out own node index had c));
  }
