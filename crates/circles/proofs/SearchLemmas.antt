-- What a search has reached while it passes one node after another.
use Rattle.std.proofs.Common.{◌≡◌, ◌==◌, ◌+◌, ◌<◌, ◌≤◌, ◌≢◌, ◌⊎◌, ◌↔◌, ℕ, zero, suc, Bool, true, not, All, Contains, List, [], ◌∷◌, filter, length, map, get_or, refl, sym, ◌∙◌, subst, ap, inl, inr, arith, eqb-true}
use Rattle.std.proofs.lemmas.Bool.Decides.{nat_tests}
use Rattle.std.proofs.lemmas.Bool.{cases_Bool, cond-true, cond_both, not_from_false}
use Rattle.std.proofs.lemmas.List.{get_or-map, get_or_append_left, get_or_default, length-append, length-map}
use Rattle.std.proofs.lemmas.List.Elements.{All-append, All-cons, All-contains, All-contains_itself, All-filter, All-map, All-nil, All-same, Contains-append_left, Contains-append_right, Contains-push, filter_passes}
use Rattle.std.proofs.lemmas.List.Filters.{length-filter_both}
use Rattle.circles.specs.declared.edge.Edge.{Edge}
use Rattle.circles.specs.Graph.{IsChain, Leads}
use Rattle.circles.specs.Passed.{Passes}
use Rattle.circles.proofs.GraphLemmas.{leads_nowhere, leads_to_next}

-- ---- elements of lists

Contains-cons : {X : Type 0} (x : X) (xs : List X) (y : X) → Contains xs y → Contains (x ∷ xs) y
Contains-cons x xs y h = Contains-append_right (x ∷ []) xs y h

Contains-first : {X : Type 0} (x : X) (xs : List X) → Contains (x ∷ xs) x
Contains-first x xs = Contains-append_left (x ∷ []) xs x (Contains-push [] x)

Contains-map : {X Y : Type 0} (f : X → Y) (xs : List X) (x : X) → Contains xs x → Contains (map f xs) (f x)
Contains-map f xs x (k, h, is) = (k, (omega (arith, h, length-map xs f)), get_or-map f xs k x (f x) h ∙ ap f is)

Contains-same : {X : Type 0} (xs : List X) (x y : X) → x ≡ y → Contains xs x → Contains xs y
Contains-same {X} xs x y e h = let P : X → Type 0 = λ z. Contains xs z in subst P e h

Contains-filter : {X : Type 0} (p : X → Bool) (xs : List X) (x : X) → p x ≡ true → Contains xs x → Contains (filter p xs) x
Contains-filter p [] x t (k, h, is) = absurd (omega (arith, h))
Contains-filter {X} p (y ∷ ys) x t (zero, h, is) =
    let P : List X → Type 0 = λ l. Contains l x in
    subst P (sym (cond-true (p y) (y ∷ filter p ys) (filter p ys) (ap p is ∙ t))) (Contains-same (y ∷ filter p ys) y x is (Contains-first y (filter p ys)))
Contains-filter {X} p (y ∷ ys) x t (suc k, h, is) =
    let rest : Contains (filter p ys) x = Contains-filter p ys x t (k, omega (arith, h), is) in
    cond_both (p y) (y ∷ filter p ys) (filter p ys) (λ l. Contains l x) (λ _. Contains-cons y (filter p ys) x rest) (λ _. rest)

-- ---- the search

-- The nodes reached so far, of which so many were passed, and the edges from those that weren't passed.
pub record Searched (edges : List Edge) (from : ℕ) (pending : List Edge) (reached : List ℕ) (passed : ℕ) : Type 0 where
  pub begins : Contains reached from
  pub led : All (λ n. Leads edges from n) reached
  pub among : All (λ e. Contains edges e) pending
  pub each : All (λ (e : Edge). Contains pending e ⊎ Contains reached e.to) edges
  pub apart : All (λ (e : Edge). (k : ℕ) → k < passed → get_or reached k 0 ≢ e.from) pending
  pub counted : length reached + length pending ≡ length edges + 1
  pub within : passed ≤ length reached

pub search_none : (edges pending : List Edge) (from : ℕ) (reached : List ℕ) → pending ≡ edges → reached ≡ from ∷ [] → Searched edges from pending reached 0
search_none edges pending from reached e f = record {
  begins = let P : List ℕ → Type 0 = λ l. Contains l from in subst P (sym f) (Contains-first from []);
  led =
      All-same (λ n. Leads edges from n) _ _ f
      (All-cons (λ n. Leads edges from n) from [] (leads_nowhere edges from) (All-nil (λ n. Leads edges from n)));
  among = let P : List Edge → Type 0 = λ l. All (λ x. Contains edges x) l in subst P (sym e) (All-contains_itself edges);
  each = let P : List Edge → Type 0 = λ l. All (λ (x : Edge). Contains l x ⊎ Contains reached x.to) edges in subst P (sym e) (λ k d h. inl (All-contains_itself edges k d h));
  apart = λ x d h k less. absurd (omega (arith, less));
  counted = omega (arith, ap length e, ap length f);
  within = omega arith;
}

module _ (edges : List Edge) (from : ℕ) (pending : List Edge) (reached : List ℕ) (passed : ℕ) (searched : Searched edges from pending reached passed) where
  module _ (node : ℕ) (new : List ℕ) (rest : List Edge) (more : passed < length reached) (node_is : node ≡ get_or reached passed 0) (passes : Passes pending node reached new rest) where
    node_led : Leads edges from node
    node_led = let P : ℕ → Type 0 = λ n. Leads edges from n in subst P (sym node_is) (searched.led passed 0 more)

    new_led : All (λ n. Leads edges from n) new
    new_led =
        All-same (λ n. Leads edges from n) _ _ passes.added
        (All-append (λ n. Leads edges from n) reached _ searched.led
        (All-map (λ n. Leads edges from n) (λ (e : Edge). e.to) _
        (λ k d h.
        let e : Edge = get_or (filter (λ (x : Edge). x.from == node) pending) k d in
        let from_node : e.from ≡ node = eqb-true _ _ (filter_passes (λ (x : Edge). x.from == node) pending k d h) in
        let (i, l, is) = All-filter (λ (x : Edge). x.from == node) (λ x. Contains edges x) pending searched.among k d h in
        leads_to_next edges from node e.to node_led (i, e, l, is, (from_node, refl)))))

    kept : (e : Edge) → Contains pending e → Contains rest e ⊎ Contains new e.to
    kept e h =
        elim (cases_Bool (e.from == node)) [
          | inl t ↦ inr (let P : List ℕ → Type 0 = λ l. Contains l e.to in
              subst P (sym passes.added) (Contains-append_right reached _ e.to
              (Contains-map (λ (x : Edge). x.to) _ e (Contains-filter (λ (x : Edge). x.from == node) pending e t h))))
          | inr f ↦ inl (let P : List Edge → Type 0 = λ l. Contains l e in
              subst P (sym passes.left) (Contains-filter (λ (x : Edge). not (x.from == node)) pending e (not_from_false _ f) h))
        ]

    still : (n : ℕ) → Contains reached n → Contains new n
    still n h = let P : List ℕ → Type 0 = λ l. Contains l n in subst P (sym passes.added) (Contains-append_left reached _ n h)

    rest_among : All (λ e. Contains edges e) rest
    rest_among =
        All-same (λ e. Contains edges e) _ _ passes.left
        (All-filter (λ (e : Edge). not (e.from == node)) (λ e. Contains edges e) pending searched.among)

    new_at : (k : ℕ) → k < length reached → get_or new k 0 ≡ get_or reached k 0
    new_at k h = ap (λ (l : List ℕ). get_or l k 0) passes.added ∙ get_or_append_left reached _ 0 k h

    rest_other : All (λ (e : Edge). not (e.from == node) ≡ true) rest
    rest_other =
        All-same (λ (e : Edge). not (e.from == node) ≡ true) _ _ passes.left
        (filter_passes (λ (e : Edge). not (e.from == node)) pending)

    rest_before : All (λ (e : Edge). (k : ℕ) → k < passed → get_or reached k 0 ≢ e.from) rest
    rest_before =
        All-same (λ (e : Edge). (k : ℕ) → k < passed → get_or reached k 0 ≢ e.from) _ _ passes.left
        (All-filter (λ (e : Edge). not (e.from == node)) (λ (e : Edge). (k : ℕ) → k < passed → get_or reached k 0 ≢ e.from) pending searched.apart)

    rest_apart : All (λ (e : Edge). (k : ℕ) → k < passed + 1 → get_or new k 0 ≢ e.from) rest
    rest_apart j d h k less same = grind (arith, nat_tests, rest_before j d h k, rest_other j d h, new_at k, more)

    pub search_more : Searched edges from rest new (passed + 1)
    search_more = record {
      begins = still from searched.begins;
      led = new_led;
      among = rest_among;
      each = λ k d h. elim (searched.each k d h) [ inl c ↦ kept (get_or edges k d) c | inr c ↦ inr (still (get_or edges k d).to c) ];
      apart = rest_apart;
      counted =
          omega (
            arith,
            searched.counted,
            ap length passes.added,
            ap length passes.left,
            length-append reached (map (λ (e : Edge). e.to) (filter (λ (e : Edge). e.from == node) pending)),
            length-map (filter (λ (e : Edge). e.from == node) pending) (λ (e : Edge). e.to),
            length-filter_both (λ (e : Edge). e.from == node) (λ (e : Edge). not (e.from == node)) (λ _. refl) pending,
          );
      within =
          omega (
            arith,
            searched.within,
            more,
            ap length passes.added,
            length-append reached (map (λ (e : Edge). e.to) (filter (λ (e : Edge). e.from == node) pending)),
          );
    }

  closed : length reached ≤ passed → (e : Edge) → Contains edges e → Contains reached e.from → Contains reached e.to
  closed all e among (k, h, is) =
      elim (All-contains (λ (x : Edge). Contains pending x ⊎ Contains reached x.to) edges e searched.each among) [
        | inl p ↦
            absurd (All-contains (λ (x : Edge). (n : ℕ) → n < passed → get_or reached n 0 ≢ x.from) pending e searched.apart p k
            (omega (arith, h, all)) (get_or_default reached k 0 e.from h ∙ is))
        | inr c ↦ c
      ]

  chain_reached : length reached ≤ passed → (nodes : List ℕ) (x y : ℕ) → IsChain edges x nodes y → Contains reached x → Contains reached y
  chain_reached all [] x y e h = Contains-same reached x y e h
  chain_reached all (n ∷ ns) x y c h =
      let (k, e, l, is, (f, t)) = c.0 in
      chain_reached all ns n y c.1 (Contains-same reached e.to n t (closed all e (k, l, is) (Contains-same reached x e.from (sym f) h)))

  pub search_all : (to : ℕ) → length reached ≤ passed → Contains reached to ↔ Leads edges from to
  search_all to all = (
    λ h. All-contains (λ n. Leads edges from n) reached to searched.led h,
    λ l. chain_reached all l.nodes from to l.chain searched.begins,
  )
