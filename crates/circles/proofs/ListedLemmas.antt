-- Which circles are listed after some walks.
use Rattle.std.proofs.Common.{◌≡◌, ◌≢◌, ◌∙◌, ◌⊎◌, ◌+◌, ◌<◌, ◌≤◌, ℕ, zero, suc, All, Any, Contains, List, [], ◌∷◌, ◌++◌, Option, Some, None, length, option_to_list, refl, sym, subst, ap, inl, inr, arith, append-nil}
use Rattle.std.specs.List.{flat_map}
use Rattle.std.proofs.lemmas.Bool.{cases_lt}
use Rattle.std.proofs.lemmas.Grind.{flat_map-append}
use Rattle.std.proofs.lemmas.List.{get_or_append_left, get_or_default, length-append}
use Rattle.std.proofs.lemmas.List.Elements.{All-contains, All-nil, All-push, Contains-append_cases, Contains-append_right}
use Rattle.std.proofs.lemmas.List.Quantifiers.{Any-push}
use Rattle.circles.specs.declared.circle.Circle.{Circle}
use Rattle.circles.specs.declared.edge.Edge.{Edge}
use Rattle.circles.specs.declared.edge.TheConstants.{NO_EDGE}
use Rattle.circles.specs.declared.walk.Walk.{Walk}
use Rattle.circles.specs.Circles.{IsInCircle}
use Rattle.circles.specs.FirstCircles.{AreApart, AreFirstCircles, Follows, IsCircle, IsFirstStep, IsPath, edge_at, end_of, node_of, start_of, steps_of}
use Rattle.circles.specs.Graph.{HasStep, IsChain, Leads}
use Rattle.circles.specs.Walks.{EndsIn, HasOwn, IsCircleIn, IsWalk, IsWhole, Steps, Walks, step_from}
use Rattle.circles.proofs.GraphLemmas.{leads_nowhere, leads_on, leads_through}
use Rattle.circles.proofs.WalkLemmas.{apart_behind, apart_both, contains_none, none_kept, none_or_some, not_both, same_index}

-- a map has the first steps of all nodes
pub record AreFirstSteps (edges : List Edge) (first : Steps) : Type 0 where
  pub sound : (node index : ℕ) → step_from first node ≡ Some index → IsFirstStep edges index × (start_of edges index ≡ node)
  pub complete : (index : ℕ) → index < length edges → IsInCircle edges (edge_at edges index) → (step : ℕ) × (step_from first (start_of edges index) ≡ Some step)

-- After the walks from where so many edges begin, the map that had the first steps has these left, and these circles are found.
pub record Listed (edges : List Edge) (first left : Steps) (found : List Circle) (count : ℕ) : Type 0 where
  pub kept : (node index : ℕ) → step_from left node ≡ Some index → step_from first node ≡ Some index
  pub passed : (index : ℕ) → index < count → step_from left (start_of edges index) ≡ None
  pub led : AreFirstSteps edges first → (node index : ℕ) → step_from first node ≡ Some index → step_from left node ≡ None → Any (λ c. Follows edges node (node_of edges c)) found
  pub each : AreFirstSteps edges first → All (IsCircle edges) found
  pub once : AreFirstSteps edges first → AreApart (flat_map steps_of found)
  pub gone : AreFirstSteps edges first → (node index : ℕ) → step_from first node ≡ Some index → Contains (flat_map steps_of found) index → step_from left node ≡ None

module _ (edges : List Edge) where
  -- ---- paths

  path_then : (xs ys : List ℕ) (a b c : ℕ) → IsPath edges a xs b → IsPath edges b ys c → IsPath edges a (xs ++ ys) c
  path_then [] ys a b c e q = let P : ℕ → Type 0 = λ n. IsPath edges n ys c in subst P (sym e) q
  path_then (k ∷ ks) ys a b c p q = (p.0, p.1, path_then ks ys (end_of edges k) b c p.2 q)

  follows_then : (a b c : ℕ) → Follows edges a b → Follows edges b c → Follows edges a c
  follows_then a b c p q = record { steps = p.steps ++ q.steps; path = path_then p.steps q.steps a b c p.path q.path }

  path_of : (old : Steps) → ((node index : ℕ) → step_from old node ≡ Some index → IsFirstStep edges index × (start_of edges index ≡ node)) → (gone : List ℕ) (a b : ℕ)
      → IsWalk edges old a gone b → IsPath edges a gone b
  path_of old sound [] a b w = w
  path_of old sound (k ∷ ks) a b w = let s = sound a k w.0 in (s.0, s.1, path_of old sound ks (end_of edges k) b w.1)

  path_from : (gone : List ℕ) (a b index : ℕ) → IsPath edges a gone b → Contains gone index → Follows edges (start_of edges index) b
  path_from [] a b index p c = absurd (contains_none index c)
  path_from (k ∷ ks) a b index p (zero, h, is) = record { steps = k ∷ ks; path = (p.0, ap (start_of edges) is, p.2) }
  path_from (k ∷ ks) a b index p (suc n, h, is) = path_from ks (end_of edges k) b index p.2 (n, omega (arith, h), is)

  -- the last step of a path
  last_step : (gone : List ℕ) (a b index : ℕ) → IsPath edges a gone b → Contains gone index → (k : ℕ) × (IsFirstStep edges k) × (end_of edges k ≡ b)
  last_step [] a b index p c = absurd (contains_none index c)
  last_step (k ∷ []) a b index p c = (k, p.0, p.2)
  last_step (k ∷ j ∷ js) a b index p c = last_step (j ∷ js) (end_of edges k) b j p.2 (zero, omega arith, refl)

  path_behind : (before : List ℕ) (k : ℕ) (ks : List ℕ) (a b : ℕ) → IsPath edges a (before ++ k ∷ ks) b → IsPath edges (start_of edges k) (k ∷ ks) b
  path_behind [] k ks a b p = (p.0, refl, p.2)
  path_behind (j ∷ js) k ks a b p = path_behind js k ks (end_of edges j) b p.2

  circle_at : (gone : List ℕ) (a b : ℕ) (c : Circle) → IsPath edges a gone b → EndsIn edges gone b c → IsCircle edges c
  circle_at gone a b c p ends =
      let P : List ℕ → Type 0 = λ l. IsPath edges a l b in
      let Q : ℕ → Type 0 = λ n. IsPath edges (node_of edges c) (steps_of c) n in
      subst Q (sym ends.at) (path_behind ends.before c.first c.others.items a b (subst P ends.are p))

  key_of : (old : Steps) (gone : List ℕ) (a b index : ℕ) → IsWalk edges old a gone b → Contains gone index → (node : ℕ) × (step_from old node ≡ Some index)
  key_of old [] a b index w c = absurd (contains_none index c)
  key_of old (k ∷ ks) a b index w (zero, h, is) = (a, w.0 ∙ ap Some is)
  key_of old (k ∷ ks) a b index w (suc n, h, is) = key_of old ks (end_of edges k) b index w.1 (n, omega (arith, h), is)

  -- ---- from the end of a first step another one leads on

  on_from : (first : Steps) → AreFirstSteps edges first → (k : ℕ) → k < length edges → (nodes : List ℕ) → IsChain edges (end_of edges k) nodes (start_of edges k)
      → IsInCircle edges (edge_at edges k) → (step : ℕ) × (step_from first (end_of edges k) ≡ Some step)
  on_from first fs k inside [] e circle =
      let (step, is) = fs.complete k inside circle in (step, ap (λ n. step_from first n) e ∙ is)
  on_from first fs k inside (n ∷ ns) chain circle =
      let (j, e, l, is, (f, t)) = chain.0 in
      let at : edge_at edges j ≡ e = get_or_default edges j NO_EDGE e l ∙ is in
      let P : Edge → Type 0 = λ x. IsInCircle edges x in
      let rest : Leads edges n (start_of edges k) = record { nodes = ns; chain = chain.1 } in
      let step_k : HasStep edges (start_of edges k) (end_of edges k) = (k, edge_at edges k, inside, get_or_default edges k (edge_at edges k) NO_EDGE inside, (refl, refl)) in
      let back : Leads edges n (end_of edges k) = leads_through edges n _ _ rest (leads_on edges _ _ _ step_k (leads_nowhere edges _)) in
      let Q : ℕ → Type 0 = λ x. Leads edges x (end_of edges k) in
      let R : ℕ → Type 0 = λ x. Leads edges e.to x in
      let in_circle : IsInCircle edges e = subst R (sym f) (subst Q (sym t) back) in
      let (step, has) = fs.complete j l (subst P (sym at) in_circle) in
      (step, ap (λ x. step_from first x) (sym f ∙ ap (λ (x : Edge). x.from) (sym at)) ∙ has)

  goes_on : (first : Steps) → AreFirstSteps edges first → (k : ℕ) → IsFirstStep edges k → (step : ℕ) × (step_from first (end_of edges k) ≡ Some step)
  goes_on first fs k step = on_from first fs k step.inside step.circular.nodes step.circular.chain step.circular

  -- ---- one walk more

  Any-left : {X : Type 0} (P : X → Type 0) (xs ys : List X) → Any P xs → Any P (xs ++ ys)
  Any-left P xs ys (k, x, h, is, p) =
      (k, x, omega (arith, h, length-append xs ys), get_or_append_left xs ys x k h ∙ is, p)

  module _ (first old new : Steps) (found : List Circle) (count from : ℕ) (w : Walk) (listed : Listed edges first old found count) (at : from ≡ start_of edges count) (whole : IsWhole edges from old new w) where
    abbrev gone : List ℕ
    gone = w.steps.items

    walks : Walks edges from old new gone w.end
    walks = whole.walks

    new_kept : (node index : ℕ) → step_from new node ≡ Some index → step_from first node ≡ Some index
    new_kept node index s = listed.kept node index (walks.kept node index s)

    new_none : (node : ℕ) → step_from old node ≡ None → step_from new node ≡ None
    new_none node n = none_kept (step_from old node) (step_from new node) (walks.kept node) n

    new_passed : (index : ℕ) → index < count + 1 → step_from new (start_of edges index) ≡ None
    new_passed index h =
        elim (cases_lt index count) [
          | inl l ↦ new_none (start_of edges index) (listed.passed index l)
          | inr g ↦
              let e : index ≡ count = omega (arith, g, h) in
              let f : from ≡ start_of edges index = at ∙ ap (start_of edges) (sym e) in
              let P : ℕ → Type 0 = λ n. step_from new n ≡ None in
              elim walks.left [ inl n ↦ subst P f n | inr e ↦ subst P (sym e ∙ f) whole.stops ]
        ]

    module _ (fs : AreFirstSteps edges first) where
      old_sound : (node index : ℕ) → step_from old node ≡ Some index → IsFirstStep edges index × (start_of edges index ≡ node)
      old_sound node index s = fs.sound node index (listed.kept node index s)

      own : HasOwn edges old
      own node index s = (old_sound node index s).1

      path : IsPath edges from gone w.end
      path = path_of old old_sound gone from w.end walks.walk

      -- where the walk ended without a circle, a circle was found before
      end_led : (index : ℕ) → Contains gone index → All (λ (k : ℕ). start_of edges k ≢ w.end) gone → Any (λ c. Follows edges w.end (node_of edges c)) found
      end_led index c none =
          let (k, is, ends) = last_step gone from w.end index path c in
          let (step, has) = goes_on first fs k is in
          let at_end : step_from first w.end ≡ Some step = ap (λ n. step_from first n) (sym ends) ∙ has in
          elim (none_or_some (step_from old w.end)) [
            | inl n ↦ listed.led fs w.end step at_end n
            | inr (other, s) ↦
                absurd (All-contains (λ (k : ℕ). start_of edges k ≢ w.end) gone other none (walks.taken w.end other s whole.stops) (own w.end other s))
          ]

      follows_gone : (node index : ℕ) → step_from first node ≡ Some index → Contains gone index → Follows edges node w.end
      follows_gone node index s c = let P : ℕ → Type 0 = λ n. Follows edges n w.end in subst P (fs.sound node index s).1 (path_from gone from w.end index path c)

      was_gone : (node index : ℕ) → step_from first node ≡ Some index → step_from new node ≡ None → (step_from old node ≡ None) ⊎ Contains gone index
      was_gone node index s n =
          elim (none_or_some (step_from old node)) [
            | inl o ↦ inl o
            | inr (other, o) ↦
                let e : other ≡ index = same_index _ other index (listed.kept node other o) s in
                inr (let P : ℕ → Type 0 = λ x. Contains gone x in subst P e (walks.taken node other o n))
          ]

      -- no circle more

      led_none : All (λ (k : ℕ). start_of edges k ≢ w.end) gone → (node index : ℕ) → step_from first node ≡ Some index → step_from new node ≡ None
          → Any (λ c. Follows edges node (node_of edges c)) found
      led_none none node index s n =
          elim (was_gone node index s n) [
            | inl o ↦ listed.led fs node index s o
            | inr c ↦
                let (k, x, h, is, f) = end_led index c none in
                (k, x, h, is, follows_then node w.end (node_of edges x) (follows_gone node index s c) f)
          ]

      -- one circle more

      module _ (c : Circle) (ends : EndsIn edges gone w.end c) where
        within : (index : ℕ) → Contains (steps_of c) index → Contains gone index
        within index h = let P : List ℕ → Type 0 = λ l. Contains l index in subst P (sym ends.are) (Contains-append_right ends.before (steps_of c) index h)

        led_one : (node index : ℕ) → step_from first node ≡ Some index → step_from new node ≡ None → Any (λ c. Follows edges node (node_of edges c)) (found ++ c ∷ [])
        led_one node index s n =
            elim (was_gone node index s n) [
              | inl o ↦ Any-left (λ c. Follows edges node (node_of edges c)) found (c ∷ []) (listed.led fs node index s o)
              | inr h ↦
                  Any-push (λ c. Follows edges node (node_of edges c)) found c
                  (let P : ℕ → Type 0 = λ x. Follows edges node x in subst P (sym ends.at) (follows_gone node index s h))
            ]

        each_one : All (IsCircle edges) (found ++ c ∷ [])
        each_one = All-push (IsCircle edges) found c (listed.each fs) (circle_at gone from w.end c path ends)

        flat : flat_map steps_of (found ++ c ∷ []) ≡ flat_map steps_of found ++ steps_of c
        flat = flat_map-append steps_of found (c ∷ []) ∙ ap (λ l. flat_map steps_of found ++ l) (append-nil (steps_of c))

        apart_one : AreApart (steps_of c)
        apart_one = apart_behind ends.before (steps_of c) (subst AreApart ends.are (walks.once own))

        not_again : (index : ℕ) → Contains (flat_map steps_of found) index → Contains (steps_of c) index → ⊥
        not_again index h k =
            let (node, s) = key_of old gone from w.end index walks.walk (within index k) in
            not_both _ index s (listed.gone fs node index (listed.kept node index s) h)

        once_one : AreApart (flat_map steps_of (found ++ c ∷ []))
        once_one = subst AreApart (sym flat) (apart_both (flat_map steps_of found) (steps_of c) (listed.once fs) apart_one not_again)

        gone_one : (node index : ℕ) → step_from first node ≡ Some index → Contains (flat_map steps_of (found ++ c ∷ [])) index → step_from new node ≡ None
        gone_one node index s h =
            let P : List ℕ → Type 0 = λ l. Contains l index in
            elim (Contains-append_cases (flat_map steps_of found) (steps_of c) index (subst P flat h)) [
              | inl l ↦ new_none node (listed.gone fs node index s l)
              | inr r ↦
                  elim (none_or_some (step_from old node)) [
                    | inl o ↦ new_none node o
                    | inr (other, o) ↦
                        let e : other ≡ index = same_index _ other index (listed.kept node other o) s in
                        walks.out own node index (o ∙ ap Some e) (within index r)
                  ]
            ]

    listed_as : (o : Option Circle) → IsCircleIn edges gone w.end o → Listed edges first new (found ++ option_to_list o) (count + 1)
    listed_as None none =
        let P : List Circle → Type 0 = λ l. Listed edges first new l (count + 1) in
        subst P (sym (append-nil found))
        (record {
          kept = new_kept;
          passed = new_passed;
          led = λ fs. led_none fs none;
          each = listed.each;
          once = listed.once;
          gone = λ fs node index s h. new_none node (listed.gone fs node index s h);
        })
    listed_as (Some c) ends = record {
      kept = new_kept;
      passed = new_passed;
      led = λ fs. led_one fs c ends;
      each = λ fs. each_one fs c ends;
      once = λ fs. once_one fs c ends;
      gone = λ fs. gone_one fs c ends;
    }

    pub listed_more : (o : Option Circle) (more : List Circle) → IsCircleIn edges gone w.end o → more ≡ found ++ option_to_list o → Listed edges first new more (count + 1)
    listed_more o more h e = let P : List Circle → Type 0 = λ l. Listed edges first new l (count + 1) in subst P (sym e) (listed_as o h)

  pub listed_none : (first : Steps) (found : List Circle) → found ≡ [] → Listed edges first first found 0
  listed_none first found e =
      let P : List Circle → Type 0 = λ l. Listed edges first first l 0 in
      subst P (sym e)
      (record {
        kept = λ node index s. s;
        passed = λ index h. absurd (omega (arith, h));
        led = λ fs node index s n. absurd (not_both _ index s n);
        each = λ fs. All-nil (IsCircle edges);
        once = λ fs. tt;
        gone = λ fs node index s h. absurd (contains_none index h);
      })

  pub listed_all : (first left : Steps) (found : List Circle) (count : ℕ) → Listed edges first left found count → length edges ≤ count → AreFirstSteps edges first → AreFirstCircles edges found
  listed_all first left found count listed all fs = record {
    each = listed.each fs;
    led = λ index h circle.
        let (step, has) = fs.complete index h circle in
        listed.led fs (start_of edges index) step has (listed.passed index (omega (arith, h, all)));
    once = listed.once fs;
  }
