-- The attribute made of keys doesn't depend on their order, if they are distinct.
use Rattle.std.proofs.Common.{◌≡◌, ◌∙◌, ℕ, List, [], ◌∷◌, ◌++◌, ◌⊎◌, inl, inr, map, Bool, true, false, not, cond, codes, Option, Some, None, Ok, is_some, refl, sym, ap, subst, true≢false, length}
use Rattle.std.specs.Cmp.{IsTotalOrder, on_total}
use Rattle.std.specs.Cmp.Lexicographic.{nat_list_cmp_total}
use Rattle.std.specs.List.{AllByRecursion, Contains, filter, find}
use Rattle.std.specs.List.Sorted.{IsSorted}
use Rattle.std.specs.Ordering.{is_gt, is_lt, ordering_reverse}
use Rattle.std.specs.declared.cmp.Ordering.{Ordering}
use Rattle.std.specs.declared.cmp.Ordering.TheVariants.{Less, Equal, Greater}
use Rattle.std.proofs.lemmas.Cmp.{tied_itself, upto}
use Rattle.std.proofs.lemmas.List.{append-nil, append_assoc}
use Rattle.std.proofs.lemmas.List.Elements.{All-contains, All-contains_itself, All-filter, filter_passes, All-from_recursion, Contains-append_right, Contains-push_cases, recursion_from_All}
use Rattle.std.proofs.lemmas.Map.Lookups.{exact_bytes}
use Rattle.std.proofs.lemmas.Slice.Eq.{bytes_eq-Decides}
use Rattle.justfile_vocabulary.specs.declared.attribute_kind.AttributeKind.{AttributeKind}
use Rattle.justfile_vocabulary.specs.declared.attribute_kind.AttributeKind.TheVariants as kinds
use Rattle.justfile_model.specs.Meanings.AttributeKinds.{takes_expressions}
use Rattle.justfile_model.specs.Meanings.AttributeRules.{is_known, least, lesser, repeats_broken}
use Rattle.justfile_model.specs.Trees.ContentLeaf.{text_cmp}
use Rattle.justfile_model.specs.Meanings.Meaning.{KeyArgument, PositionalArgument, at_key, first_of, is_key, text_of}
use Rattle.justfile_model.specs.Readers.NewAttribute as new
use Rattle.justfile_model.specs.Readers.NewAttribute.{check_count, check_keys, from_expressions, from_literals, make_all, new_attribute, new_cache, new_of_expressions, new_of_literals, new_rules, placed_literal, refuse_key}
use Rattle.justfile_model.specs.Meanings.Rules.{Broken, DuplicateAttributeKey, broken_if}
use Rattle.justfile_model.specs.Trees.LeafView.{LeafView}
use Rattle.justfile_model.specs.Trees.Tree as tree
use Rattle.justfile_model.specs.Trees.Tree.{Quoted}
use Rattle.justfile_model.proofs.Lists.AllParts.{each_of}
use Rattle.justfile_model.proofs.Lists.OrderLaws.{Ascends, ascends_from_sorted}
use Rattle.justfile_model.proofs.Meanings.NewArgumentLaws.{found_has}
use Rattle.justfile_model.proofs.Meanings.NewAttributeSteps.{contains_first, nothing_in}

-- ---- what a list has

contains_later : {X : Type 0} (x : X) (xs : List X) (y : X) → Contains xs y → Contains (x ∷ xs) y
contains_later x xs y h = Contains-append_right (x ∷ []) xs y h

each_in : {X : Type 0} (xs : List X) → AllByRecursion (Contains xs) xs
each_in xs = recursion_from_All (Contains xs) xs (All-contains_itself xs)

at_element : {X : Type 0} (P : X → Type 0) (xs : List X) (x : X) → AllByRecursion P xs → Contains xs x → P x
at_element P xs x h c = All-contains P xs x (All-from_recursion P xs h) c

module _ {X : Type 0} (test : X → Bool) where
  -- what passes is kept
  passing_kept : (xs : List X) → AllByRecursion (λ x. test x ≡ true → Contains (filter test xs) x) xs
  passing_kept [] = tt
  passing_kept (x ∷ xs) = go (test x) refl (passing_kept xs)
    where
      P : List X → X → Type 0
      P ys y = test y ≡ true → Contains ys y

      go : (b : Bool) → test x ≡ b → AllByRecursion (P (filter test xs)) xs → AllByRecursion (P (cond b (x ∷ filter test xs) (filter test xs))) (x ∷ xs)
      go true e k = (
        λ t. contains_first x (filter test xs),
        each_of (P (filter test xs)) (P (x ∷ filter test xs)) (λ y h t. contains_later x (filter test xs) y (h t)) xs k,
      )
      go false e k = (λ t. absurd (true≢false (sym t ∙ e)), k)

  kept_there : (xs : List X) (x : X) → Contains (filter test xs) x → Contains xs x × (test x ≡ true)
  kept_there xs x c = (
    All-contains (Contains xs) (filter test xs) x (All-filter test (Contains xs) xs (All-contains_itself xs)) c,
    All-contains (λ x. test x ≡ true) (filter test xs) x (filter_passes test xs) c,
  )

  there_kept : (xs : List X) (x : X) → Contains xs x → test x ≡ true → Contains (filter test xs) x
  there_kept xs x c t = at_element (λ x. test x ≡ true → Contains (filter test xs) x) xs x (passing_kept xs) c t

  found_passes : (xs : List X) (x : X) → find test xs ≡ Some x → test x ≡ true
  found_passes [] x e = absurd (true≢false (sym (ap is_some e)))
  found_passes (y ∷ ys) x e = go (test y) refl e (found_passes ys x)
    where
      go : (b : Bool) → test y ≡ b → cond b (Some y) (find test ys) ≡ Some x → (find test ys ≡ Some x → test x ≡ true) → test x ≡ true
      go true t e later = let same : y ≡ x = cc in subst (λ z. test z ≡ true) same t
      go false t e later = later e

  none_found : (xs : List X) → find test xs ≡ None → AllByRecursion (λ x. test x ≡ false) xs
  none_found [] e = tt
  none_found (x ∷ xs) e = go (test x) refl e (none_found xs)
    where
      Fails : List X → Type 0
      Fails = AllByRecursion (λ x. test x ≡ false)

      go : (b : Bool) → test x ≡ b → cond b (Some x) (find test xs) ≡ None → (find test xs ≡ None → Fails xs) → Fails (x ∷ xs)
      go true t e later = absurd (true≢false (ap is_some e))
      go false t e later = (t, later e)

-- ---- the least text

other_way : (r s : Ordering) → s ≡ ordering_reverse r → is_gt r ≡ true → is_gt s ≡ false
other_way Greater s e h = ap is_gt e
other_way Less s e h = absurd (true≢false (sym h))
other_way Equal s e h = absurd (true≢false (sym h))

neither_above : (r s : Ordering) → s ≡ ordering_reverse r → is_gt r ≡ false → is_gt s ≡ false → r ≡ Equal
neither_above Less s e h k = absurd (true≢false (sym (ap is_gt e) ∙ k))
neither_above Equal s e h k = refl
neither_above Greater s e h k = absurd (true≢false h)

module _ {X : Type 0} (text : X → List ℕ) where
  abbrev NotAbove : X → X → Type 0
  NotAbove x y = is_gt (text_cmp (text x) (text y)) ≡ false

  not_above_itself : (x : X) → NotAbove x x
  not_above_itself x = ap is_gt (tied_itself nat_list_cmp_total (text x))

  -- it is an element, and above none
  record IsLeast (x : X) (xs : List X) : Type 0 where
    there : Contains xs x
    under : AllByRecursion (NotAbove x) xs

  lesser_is : (x m : X) (xs : List X) → IsLeast m xs → IsLeast (lesser text x (Some m)) (x ∷ xs)
  lesser_is x m xs h = go (is_gt (text_cmp (text x) (text m))) refl
    where
      go : (b : Bool) → is_gt (text_cmp (text x) (text m)) ≡ b → IsLeast (cond b m x) (x ∷ xs)
      go true e = record {
        there = contains_later x xs m h.there;
        under = (other_way (text_cmp (text x) (text m)) (text_cmp (text m) (text x)) (nat_list_cmp_total.antisymm (text m) (text x)) e, h.under);
      }
      go false e = record {
        there = contains_first x xs;
        under = (not_above_itself x, each_of (NotAbove m) (NotAbove x) (λ y k. upto nat_list_cmp_total (text x) (text m) (text y) e k) xs h.under);
      }

  least_of : (x : X) (xs : List X) → IsLeast (lesser text x (least text xs)) (x ∷ xs)
  least_of x [] = record { there = contains_first x []; under = (not_above_itself x, tt) }
  least_of x (y ∷ ys) = lesser_is x (lesser text y (least text ys)) (y ∷ ys) (least_of y ys)

  least_is : (xs : List X) (x : X) → least text xs ≡ Some x → IsLeast x xs
  least_is [] x e = absurd (true≢false (sym (ap is_some e)))
  least_is (y ∷ ys) x e = let same : lesser text y (least text ys) ≡ x = cc in subst (λ z. IsLeast z (y ∷ ys)) same (least_of y ys)

  no_least : (xs : List X) (x : X) → least text xs ≡ None → Contains xs x → ⊥
  no_least [] x e c = nothing_in x c
  no_least (y ∷ ys) x e c = true≢false (ap is_some e)

  -- lists with the same elements have the same least one, if no two have the same text
  least_same : (xs ys : List X) → ((x : X) → Contains xs x → Contains ys x) → ((x : X) → Contains ys x → Contains xs x)
      → ((x y : X) → Contains xs x → Contains xs y → text x ≡ text y → x ≡ y) → least text xs ≡ least text ys
  least_same xs ys there back one = go (least text xs) (least text ys) refl refl
    where
      go : (o p : Option X) → least text xs ≡ o → least text ys ≡ p → o ≡ p
      go None None e f = refl
      go None (Some y) e f = absurd (no_least xs y e (back y (least_is ys y f).there))
      go (Some x) None e f = absurd (no_least ys x f (there x (least_is xs x e).there))
      go (Some x) (Some y) e f =
          let l = least_is xs x e in
          let m = least_is ys y f in
          let over : NotAbove x y = at_element (NotAbove x) xs y l.under (back y m.there) in
          let under : NotAbove y x = at_element (NotAbove y) ys x m.under (there x l.there) in
          let tied = neither_above (text_cmp (text x) (text y)) (text_cmp (text y) (text x)) (nat_list_cmp_total.antisymm (text y) (text x)) over under in
          ap Some (one x y l.there (back y m.there) (exact_bytes (text x) (text y) tied))

  -- of a list in order the first is the least
  pub least_first : (xs : List X) → IsSorted (λ x y. text_cmp (text x) (text y)) xs → least text xs ≡ first_of xs
  least_first xs h = go xs (ascends_from_sorted order xs h)
    where
      order : IsTotalOrder (λ (x y : X). text_cmp (text x) (text y))
      order = on_total text nat_list_cmp_total

      turned : (r s : Ordering) → r ≡ ordering_reverse s → is_lt s ≡ false → is_gt r ≡ false
      turned r Less e h = absurd (true≢false h)
      turned r Equal e h = ap is_gt e
      turned r Greater e h = ap is_gt e

      stays : (x : X) (ys : List X) (o : Option X) → least text ys ≡ o → AllByRecursion (NotAbove x) ys → lesser text x o ≡ x
      stays x ys None e h = refl
      stays x ys (Some m) e h = rw (at_element (NotAbove x) ys m h (least_is ys m e).there) refl

      go : (xs : List X) → Ascends (λ (x y : X). text_cmp (text x) (text y)) xs → least text xs ≡ first_of xs
      go [] h = refl
      go (x ∷ ys) h =
          let under = each_of (λ y. is_lt (text_cmp (text y) (text x)) ≡ false) (NotAbove x)
          (λ y k. turned (text_cmp (text x) (text y)) (text_cmp (text y) (text x)) (nat_list_cmp_total.antisymm (text x) (text y)) k) ys h.0 in
          ap Some (stays x ys (least text ys) refl under)

-- ---- keys

module _ {A B : Type 0} (view : LeafView A B) where
  -- keys with the same bytes are the same
  abbrev pub OneEach : List (KeyArgument A B) → Type 0
  OneEach keys = (j k : KeyArgument A B) → Contains keys j → Contains keys k → view.bytes j.key ≡ view.bytes k.key → j ≡ k

  -- the same keys, each once, in whichever order
  pub record SameKeys (keys others : List (KeyArgument A B)) : Type 0 where
    pub one_each : OneEach keys
    pub there : (k : KeyArgument A B) → Contains keys k → Contains others k
    pub back : (k : KeyArgument A B) → Contains others k → Contains keys k

  module _ (keys others : List (KeyArgument A B)) (same : SameKeys keys others) where
    at_same : (word : List ℕ) → at_key view word keys ≡ at_key view word others
    at_same word = go (at_key view word keys) (at_key view word others) refl refl
      where
        bytes_of : (l : List (KeyArgument A B)) (k : KeyArgument A B) → at_key view word l ≡ Some k → view.bytes k.key ≡ word
        bytes_of l k e = (bytes_eq-Decides (view.bytes k.key) word).0 (found_passes (is_key view word) l k e)

        among : (l : List (KeyArgument A B)) (k : KeyArgument A B) → at_key view word l ≡ Some k → Contains l k
        among l k e = found_has (Contains l) (is_key view word) l k (each_in l) e

        not_there : (l : List (KeyArgument A B)) (k : KeyArgument A B) → at_key view word l ≡ None → Contains l k → is_key view word k ≡ true → ⊥
        not_there l k e c t = true≢false (sym t ∙ at_element (λ k. is_key view word k ≡ false) l k (none_found (is_key view word) l e) c)

        go : (o p : Option (KeyArgument A B)) → at_key view word keys ≡ o → at_key view word others ≡ p → o ≡ p
        go None None e f = refl
        go None (Some k) e f = absurd (not_there keys k e (same.back k (among others k f)) (found_passes (is_key view word) others k f))
        go (Some k) None e f = absurd (not_there others k f (same.there k (among keys k e)) (found_passes (is_key view word) keys k e))
        go (Some j) (Some k) e f = ap Some (same.one_each j k (among keys j e) (same.back k (among others k f)) (bytes_of keys j e ∙ sym (bytes_of others k f)))

    abbrev least_key : (KeyArgument A B → Bool) → List (KeyArgument A B) → Option (KeyArgument A B)
    least_key test keys = least (λ (k : KeyArgument A B). view.bytes k.key) (filter test keys)

    least_key_same : (test : KeyArgument A B → Bool) → least_key test keys ≡ least_key test others
    least_key_same test =
        least_same (λ (k : KeyArgument A B). view.bytes k.key) (filter test keys) (filter test others)
        (λ k c. let h = kept_there test keys k c in there_kept test others k (same.there k h.0) h.1)
        (λ k c. let h = kept_there test others k c in there_kept test keys k (same.back k h.0) h.1)
        (λ j k c d. same.one_each j k (kept_there test keys j c).0 (kept_there test keys k d).0)

    module _ (at : B) where
      rules_same : (argument : List ℕ) (name : Quoted A) → new_rules view at argument name keys ≡ new_rules view at argument name others
      rules_same argument name =
          rw (
            new_rules,
            at_same (codes "long"),
            at_same (codes "short"),
            at_same (codes "pattern"),
            at_same (codes "value"),
            at_same (codes "flag"),
            at_same (codes "multiple"),
            at_same (codes "max"),
            at_same (codes "min"),
            at_same (codes "help"),
          ) refl

      own_same : (kind : AttributeKind) (texts : List (Quoted A)) → new_of_literals view at kind texts keys ≡ new_of_literals view at kind texts others
      own_same kinds.Arg [] = refl
      own_same kinds.Arg (name ∷ texts) = ap (λ m. new.◌>>=◌ m (λ rules. Ok (tree.Arg rules))) (rules_same (text_of view name) name)
      own_same kinds.Cache texts = rw (new_cache, at_same (codes "extra"), at_same (codes "inputs"), at_same (codes "outputs")) refl
      own_same kind texts = refl

      check_same : (kind : AttributeKind) → check_keys view at kind keys ≡ check_keys view at kind others
      check_same kind = ap (refuse_key view at) (least_key_same (λ k. not (is_known view at kind k)))

      -- the same attribute is made, or the same rule is reported
      pub attribute_same : (kind : AttributeKind) (placed : List (PositionalArgument A B))
          → new_attribute view at kind placed keys ≡ new_attribute view at kind placed others
      unfolding new_attribute
      attribute_same kind placed = λ i. new.◌>>=◌ (check_count view at kind (length placed)) (λ counted. cond (takes_expressions kind) (any i) (literals i))
        where
          any : from_expressions view at kind placed keys ≡ from_expressions view at kind placed others
          any = λ i. new.◌>>=◌ (check_same kind i) (λ known. Ok (new_of_expressions view at kind (map (λ (p : PositionalArgument A B). p.value) placed)))

          literals : from_literals view at kind placed keys ≡ from_literals view at kind placed others
          literals =
              λ i. new.◌>>=◌ (make_all (placed_literal view at) placed)
              (λ texts. new.◌>>=◌ (own_same kind texts i) (λ attribute. new.◌>>=◌ (check_same kind i) (λ known. Ok attribute)))

  -- ---- keys that are not repeated

  append_none : {X : Type 0} (xs ys : List X) → xs ++ ys ≡ [] → (xs ≡ []) × (ys ≡ [])
  append_none [] ys e = (refl, e)
  append_none (x ∷ xs) ys e = cc

  one_more : (before : List (KeyArgument A B)) (k : KeyArgument A B) → OneEach before → at_key view (view.bytes k.key) before ≡ None
      → OneEach (before ++ k ∷ [])
  one_more before k one none i j c d e = go (Contains-push_cases before k i c) (Contains-push_cases before k j d)
    where
      apart : (j : KeyArgument A B) → Contains before j → view.bytes j.key ≡ view.bytes k.key → ⊥
      apart j c e = true≢false (sym ((bytes_eq-Decides (view.bytes j.key) (view.bytes k.key)).1 e)
          ∙ at_element (λ j. is_key view (view.bytes k.key) j ≡ false) before j (none_found (is_key view (view.bytes k.key)) before none) c)

      go : Contains before i ⊎ (k ≡ i) → Contains before j ⊎ (k ≡ j) → i ≡ j
      go (inl c) (inl d) = one i j c d e
      go (inl c) (inr same) = absurd (apart i c (e ∙ ap (λ (k : KeyArgument A B). view.bytes k.key) (sym same)))
      go (inr same) (inl d) = absurd (apart j d (sym e ∙ ap (λ (k : KeyArgument A B). view.bytes k.key) (sym same)))
      go (inr same) (inr also) = sym same ∙ also

  one_each_after : (at : B) (before keys : List (KeyArgument A B)) → OneEach before → repeats_broken view at before keys ≡ [] → OneEach (before ++ keys)
  one_each_after at before [] one e = subst OneEach (sym (append-nil before)) one
  one_each_after at before (k ∷ ks) one e =
      let parts = append_none (repeated k (at_key view (view.bytes k.key) before)) (repeats_broken view at (before ++ k ∷ []) ks) e in
      let one_and_last = one_more before k one (none (at_key view (view.bytes k.key) before) parts.0) in
      subst OneEach (append_assoc before (k ∷ []) ks) (one_each_after at (before ++ k ∷ []) ks one_and_last parts.1)
    where
      repeated : KeyArgument A B → Option (KeyArgument A B) → List (Broken B)
      repeated k o = broken_if (is_some o) (DuplicateAttributeKey at (view.place k.key)) (view.place k.key)

      none : (o : Option (KeyArgument A B)) → repeated k o ≡ [] → o ≡ None
      none None e = refl
      none (Some j) e = cc
