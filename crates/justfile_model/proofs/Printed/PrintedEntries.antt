-- Printed attributes mean the attributes that were printed, in the same order, and break no rule.
use Rattle.std.proofs.Common.{◌≡◌, ◌∙◌, Bool, true, false, not, ◌&&◌, ◌||◌, List, [], ◌∷◌, ◌++◌, Option, Some, None, is_some, refl, sym, ap, subst, true≢false, ℕ}
use Rattle.std.proofs.lemmas.Bool.{or_parts}
use Rattle.std.proofs.lemmas.Cmp.{on_total}
use Rattle.std.proofs.lemmas.List.Elements.{All-from_recursion, recursion_from_All}
use Rattle.std.proofs.lemmas.Slice.Eq.{bytes_eq-Decides}
use Rattle.std.specs.Cmp.{IsTotalOrder}
use Rattle.std.specs.Cmp.Derive.{bare_equiv}
use Rattle.std.specs.List.{AllByRecursion, find, flat_map, list_any}
use Rattle.std.specs.Str.{bytes_eq}
use denote.Enum.Bare.{same_true}
use Rattle.justfile_vocabulary.specs.contracts.attribute_kind.AttributeKind as kind_type
use Rattle.justfile_vocabulary.specs.declared.attribute_kind.AttributeKind.{AttributeKind}
use Rattle.justfile_model.specs.Meanings.AttributeKinds.{same_attribute, is_repeatable}
use Rattle.justfile_model.specs.Meanings.AttributeRules.{of_some, attribute_broken, label_of, same_text, same_label, excludes, duplicate_rule, duplicate_broken, duplicates_broken, attributes_broken}
use Rattle.justfile_model.specs.Grammars.Conditions.{VersionNumbers}
use Rattle.justfile_model.specs.Meanings.ConstructRules.{construct_broken, form_broken, meaning_broken}
use Rattle.justfile_model.specs.Trees.ContentKeys.{kind_of_attribute, attribute_key, entry_cmp}
use Rattle.justfile_model.specs.Trees.ContentLeafLaws.{content_total}
use Rattle.justfile_model.specs.Lists.Distinct.{Distinct}
use Rattle.justfile_model.specs.Trees.KeyLaws.{key_total}
use Rattle.justfile_model.specs.LiteralTexts.Literals.{Expansions}
use Rattle.justfile_model.specs.Meanings.Meaning.{◌>>=◌, all_of, quoted_text, entry_of, entries_of}
use Rattle.justfile_model.specs.Lists.Order.{in_order}
use Rattle.justfile_model.specs.Printed.PrintedAttributes.{rewritten_entries}
use Rattle.justfile_model.specs.Meanings.Rules.{Broken}
use Rattle.justfile_model.specs.Trees.LeafView.{LeafView, views_lexemes}
use Rattle.justfile_model.specs.Trees.Tree.{Quoted, WrittenAttribute, Attribute, Entry, Content}
use Rattle.justfile_model.proofs.Lists.AllParts.{all_have, both, parts}
use Rattle.justfile_model.proofs.Lists.DistinctLaws.{distinct_in_order}
use Rattle.justfile_model.proofs.Lists.OrderKinds.{any_is_found}
use Rattle.justfile_model.proofs.Lists.OrderLaws.{all_in_order, twice_is_once}
use Rattle.justfile_model.proofs.Lists.Binds.{some_back, bind_back, never_nil, nothing_in}
use Rattle.justfile_model.proofs.Printed.PrintedMeanings.{MeansItself, entry_means_itself}

-- ---- what excludes what

bytes_symmetric : (s t : List ℕ) → bytes_eq s t ≡ bytes_eq t s
bytes_symmetric s t = go (bytes_eq s t) (bytes_eq t s) refl refl
  where
    go : (a b : Bool) → bytes_eq s t ≡ a → bytes_eq t s ≡ b → a ≡ b
    go true true e f = refl
    go true false e f = sym ((bytes_eq-Decides t s).1 (sym ((bytes_eq-Decides s t).0 e))) ∙ f
    go false true e f = sym e ∙ (bytes_eq-Decides s t).1 (sym ((bytes_eq-Decides t s).0 f))
    go false false e f = refl

kind_symmetric : (j k : AttributeKind) → same_attribute j k ≡ same_attribute k j
unfolding same_attribute
kind_symmetric j k = (bare_equiv kind_type.enum).symm j k

kind_is : (j k : AttributeKind) → same_attribute j k ≡ true → j ≡ k
unfolding same_attribute
kind_is j k e = same_true kind_type.the_type tt j k e

module _ {A B : Type 0} (view : LeafView A B) where
  same_text_symmetric : (s t : Option (List ℕ)) → same_text view s t ≡ same_text view t s
  same_text_symmetric None None = refl
  same_text_symmetric None (Some t) = refl
  same_text_symmetric (Some s) None = refl
  same_text_symmetric (Some s) (Some t) = bytes_symmetric s t

  same_label_symmetric : (p q : Option (Quoted A)) → same_label view p q ≡ same_label view q p
  same_label_symmetric None None = refl
  same_label_symmetric None (Some q) = refl
  same_label_symmetric (Some p) None = refl
  same_label_symmetric (Some p) (Some q) = same_text_symmetric (quoted_text view p) (quoted_text view q)

  pub excludes_symmetric : (a b : Attribute A B) → excludes view a b ≡ excludes view b a
  excludes_symmetric a b =
      go (same_attribute (kind_of_attribute a) (kind_of_attribute b)) refl
      ∙ ap (λ s. s && (not (is_repeatable (kind_of_attribute b)) || same_label view (label_of view b) (label_of view a)))
      (kind_symmetric (kind_of_attribute a) (kind_of_attribute b))
    where
      go : (s : Bool) → same_attribute (kind_of_attribute a) (kind_of_attribute b) ≡ s
          → (s && (not (is_repeatable (kind_of_attribute a)) || same_label view (label_of view a) (label_of view b)))
          ≡ (s && (not (is_repeatable (kind_of_attribute b)) || same_label view (label_of view b) (label_of view a)))
      go true e =
          λ i. not (is_repeatable (kind_is (kind_of_attribute a) (kind_of_attribute b) e i)) || same_label_symmetric (label_of view a) (label_of view b) i
      go false e = refl

  abbrev excluded : Entry A B → Entry A B → Bool
  excluded d e = excludes view d.attribute e.attribute

  -- ---- duplicates

  -- none is excluded by one before it
  abbrev Later : List (Entry A B) → List (Entry A B) → Type 0
  Later before [] = Unit {0}
  Later before (e ∷ es) = (list_any (λ d. excluded d e) before ≡ false) × Later (before ++ e ∷ []) es

  -- it excludes none of these
  abbrev NoneOf : List (Entry A B) → Entry A B → Type 0
  NoneOf es d = list_any (excluded d) es ≡ false

  none_more : (before : List (Entry A B)) (e : Entry A B) (es : List (Entry A B)) → list_any (λ d. excluded d e) before ≡ false
      → AllByRecursion (NoneOf es) before → AllByRecursion (NoneOf (e ∷ es)) before
  none_more [] e es h k = tt
  none_more (d ∷ before) e es h k =
      let n = or_parts (excluded d e) (list_any (λ d. excluded d e) before) h in
      ((λ i. n.0 i || k.0 i), none_more before e es n.1 k.1)

  none_fewer : (before : List (Entry A B)) (e : Entry A B) (es : List (Entry A B)) → AllByRecursion (NoneOf (e ∷ es)) before
      → (list_any (λ d. excluded d e) before ≡ false) × AllByRecursion (NoneOf es) before
  none_fewer [] e es h = (refl, tt)
  none_fewer (d ∷ before) e es h =
      let n = or_parts (excluded d e) (list_any (excluded d) es) h.0 in
      let r = none_fewer before e es h.1 in
      ((λ i. n.0 i || r.0 i), (n.1, r.1))

  distinct_later : (before es : List (Entry A B)) → Later before es → AllByRecursion (NoneOf es) before × Distinct excluded es
  distinct_later before [] h = (all_have (NoneOf []) (λ d. refl) before, tt)
  distinct_later before (e ∷ es) h =
      let r = distinct_later (before ++ e ∷ []) es h.1 in
      let p = parts (NoneOf es) before (e ∷ []) r.0 in
      (none_more before e es h.0 p.0, (p.1.0, r.1))

  later_distinct : (before es : List (Entry A B)) → AllByRecursion (NoneOf es) before → Distinct excluded es → Later before es
  later_distinct before [] h d = tt
  later_distinct before (e ∷ es) h d =
      let n = none_fewer before e es h in
      (n.0, later_distinct (before ++ e ∷ []) es (both (NoneOf es) before (e ∷ []) n.1 (d.0, tt)) d.1)

  found_none : (before : List (Entry A B)) (e : Entry A B) → list_any (λ d. excluded d e) before ≡ false → duplicate_broken view before e ≡ []
  found_none before e h = go (find (λ (d : Entry A B). excluded d e) before) (sym (any_is_found (λ d. excluded d e) before) ∙ h)
    where
      go : (o : Option (Entry A B)) → is_some o ≡ false
          → of_some {Y = Broken B} (λ (first : Entry A B). record { rule = duplicate_rule view e.name e.attribute first.name; token = e.name } ∷ []) o ≡ []
      go None f = refl
      go (Some d) f = absurd (true≢false f)

  none_found : (before : List (Entry A B)) (e : Entry A B) → duplicate_broken view before e ≡ [] → list_any (λ d. excluded d e) before ≡ false
  none_found before e h = any_is_found (λ d. excluded d e) before ∙ go (find (λ (d : Entry A B). excluded d e) before) h
    where
      go : (o : Option (Entry A B))
          → of_some {Y = Broken B} (λ (first : Entry A B). record { rule = duplicate_rule view e.name e.attribute first.name; token = e.name } ∷ []) o ≡ []
          → is_some o ≡ false
      go None f = refl
      go (Some d) f = never_nil _ [] f

  later_unbroken : (before : List (Entry A B)) (ws : List (WrittenAttribute A B)) (es : List (Entry A B)) → all_of (entry_of view) ws ≡ Some es
      → Later before es → duplicates_broken view before ws ≡ []
  later_unbroken before [] es m h = refl
  later_unbroken before (w ∷ ws) es m h =
      let e = bind_back (entry_of view w) _ es m in
      let r = bind_back (all_of (entry_of view) ws) _ es e.gives in
      let l : Later before (e.first ∷ r.first) = subst (Later before) (sym (some_back (e.first ∷ r.first) es r.gives)) h in
      (λ i. of_some (duplicate_broken view before) (e.is i) ++ duplicates_broken view (before ++ of_some (λ e. e ∷ []) (e.is i)) ws)
      ∙ (λ i. found_none before e.first l.0 i ++ later_unbroken (before ++ e.first ∷ []) ws r.first r.is l.1 i)

  unbroken_later : (before : List (Entry A B)) (ws : List (WrittenAttribute A B)) (es : List (Entry A B)) → all_of (entry_of view) ws ≡ Some es
      → duplicates_broken view before ws ≡ [] → Later before es
  unbroken_later before [] es m h = subst (Later before) (some_back [] es m) tt
  unbroken_later before (w ∷ ws) es m h =
      let e = bind_back (entry_of view w) _ es m in
      let r = bind_back (all_of (entry_of view) ws) _ es e.gives in
      let n = nothing_in (duplicate_broken view before e.first) (duplicates_broken view (before ++ e.first ∷ []) ws)
      ((λ i. of_some (duplicate_broken view before) (sym e.is i) ++ duplicates_broken view (before ++ of_some (λ e. e ∷ []) (sym e.is i)) ws) ∙ h) in
      subst (Later before) (some_back (e.first ∷ r.first) es r.gives)
      (none_found before e.first n.0, unbroken_later (before ++ e.first ∷ []) ws r.first r.is n.1)

  -- attributes without duplicates have no duplicates in content order
  pub distinct_entries : (ws : List (WrittenAttribute A B)) (es : List (Entry A B)) → all_of (entry_of view) ws ≡ Some es → duplicates_broken view [] ws ≡ []
      → Distinct excluded es
  distinct_entries ws es m h = (distinct_later [] es (unbroken_later [] ws es m h)).1

  pub no_duplicates : (ws : List (WrittenAttribute A B)) (es : List (Entry A B)) → all_of (entry_of view) ws ≡ Some es → Distinct excluded es
      → duplicates_broken view [] ws ≡ []
  no_duplicates ws es m d = later_unbroken [] ws es m (later_distinct [] es tt d)

  pub entries_total : IsTotalOrder (entry_cmp view)
  entries_total = on_total (λ (e : Entry A B). attribute_key view e.attribute) (key_total content_total)

-- ---- of a construct

-- the attributes break no rule, nor what they mean, nor the construct by its form
pub unbroken_parts : {A B C : Type 0} (current : VersionNumbers) (view : LeafView A B) (ws : List (WrittenAttribute A B)) (content : Content A B C B) → construct_broken current view ws content ≡ []
    → (attributes_broken view ws ≡ []) × (of_some (meaning_broken view content) (entries_of view ws) ≡ []) × (form_broken current view content ≡ [])
unbroken_parts current view ws content h =
    let n = nothing_in (attributes_broken view ws ++ of_some (meaning_broken view content) (entries_of view ws)) (form_broken current view content) h in
    let m = nothing_in (attributes_broken view ws) (of_some (meaning_broken view content) (entries_of view ws)) n.0 in
    (m.0, m.1, n.1)

-- ---- as they are printed

module _ (expander : Expansions) where
  abbrev pub sees : LeafView (List ℕ) (Unit {0})
  sees = views_lexemes expander

  abbrev pub Entries : Type 0
  Entries = List (Entry (List ℕ) (Unit {0}))

  abbrev pub Written : Type 0
  Written = List (WrittenAttribute (List ℕ) (Unit {0}))

  each_itself : (ws : Written) (es : Entries) → all_of (entry_of sees) ws ≡ Some es → flat_map (attribute_broken sees) ws ≡ []
      → AllByRecursion (MeansItself expander) es
  each_itself [] es m h = subst (AllByRecursion (MeansItself expander)) (some_back [] es m) tt
  each_itself (w ∷ ws) es m h =
      let e = bind_back (entry_of sees w) _ es m in
      let r = bind_back (all_of (entry_of sees) ws) _ es e.gives in
      let n = nothing_in (attribute_broken sees w) (flat_map (attribute_broken sees) ws) h in
      subst (AllByRecursion (MeansItself expander)) (some_back (e.first ∷ r.first) es r.gives)
      (entry_means_itself expander w e.first e.is n.0, each_itself ws r.first r.is n.1)

  all_again : (es : Entries) → AllByRecursion (MeansItself expander) es → all_of (entry_of sees) (rewritten_entries es) ≡ Some es
  all_again [] h = refl
  all_again (e ∷ es) h = λ i. h.0.means i >>= (λ y. all_again es h.1 i >>= (λ ys. Some (y ∷ ys)))

  all_unbroken : (es : Entries) → AllByRecursion (MeansItself expander) es → flat_map (attribute_broken sees) (rewritten_entries es) ≡ []
  all_unbroken [] h = refl
  all_unbroken (e ∷ es) h = λ i. h.0.unbroken i ++ all_unbroken es h.1 i

  module _ (ws : Written) (entries : Entries) (means : entries_of sees ws ≡ Some entries) where
    -- facts about entries in content order
    pub record InOrder : Type 0 where
      pub each : AllByRecursion (MeansItself expander) entries
      pub sorted : in_order (entry_cmp sees) entries ≡ entries
      pub distinct : Distinct (excluded sees) entries

    pub entries_in_order : attributes_broken sees ws ≡ [] → InOrder
    entries_in_order unbroken =
        let m = bind_back (all_of (entry_of sees) ws) _ entries means in
        let n = nothing_in (flat_map (attribute_broken sees) ws) (duplicates_broken sees [] ws) unbroken in
        let same = some_back (in_order (entry_cmp sees) m.first) entries m.gives in
        let P = MeansItself expander in
        record {
          each = subst (AllByRecursion P) same
              (recursion_from_All P (in_order (entry_cmp sees) m.first)
              (all_in_order (entry_cmp sees) P m.first (All-from_recursion P m.first (each_itself ws m.first m.is n.0))));
          sorted = subst (λ l. in_order (entry_cmp sees) l ≡ l) same (twice_is_once (entries_total sees) m.first);
          distinct = subst (Distinct (excluded sees)) same
              (distinct_in_order (excluded sees) (entry_cmp sees) (λ d e. excludes_symmetric sees d.attribute e.attribute) m.first
              (distinct_entries sees ws m.first m.is n.1));
        }

    -- they mean the same in the same order
    pub entries_again : attributes_broken sees ws ≡ [] → entries_of sees (rewritten_entries entries) ≡ Some entries
    entries_again unbroken =
        let o = entries_in_order unbroken in
        ap (λ l. l >>= (λ es. Some (in_order (entry_cmp sees) es))) (all_again entries o.each) ∙ ap Some o.sorted

    -- and break nothing
    pub attributes_again : attributes_broken sees ws ≡ [] → attributes_broken sees (rewritten_entries entries) ≡ []
    attributes_again unbroken =
        let o = entries_in_order unbroken in
        λ i. all_unbroken entries o.each i ++ no_duplicates sees (rewritten_entries entries) entries (all_again entries o.each) o.distinct i

    -- also before a construct
    pub construct_again : {C : Type 0} (current : VersionNumbers) (content : Content (List ℕ) (Unit {0}) C (Unit {0})) → construct_broken current sees ws content ≡ []
        → construct_broken current sees (rewritten_entries entries) content ≡ []
    construct_again current content unbroken =
        let n = unbroken_parts current sees ws content unbroken in
        λ i. attributes_again n.0 i ++ ((ap (of_some (meaning_broken sees content)) (entries_again n.0 ∙ sym means)) ∙ n.1) i ++ n.2 i
