-- A count over the values of attributes, except literals, is the same for the printed attributes as for the written ones.
use Rattle.std.proofs.Common.{◌≡◌, ℕ, ◌+◌, ◌≤◌, Bool, true, false, List, [], ◌∷◌, map, length, Option, Some, None, codes, refl, sym, ap, ◌∙◌, arith, ltb-false}
use Rattle.std.specs.Prelude.{◌||◌, nat_lt}
use Rattle.std.specs.List.{flat_map}
use Rattle.std.specs.declared.cmp.Ordering.{Ordering}
use Rattle.std.proofs.lemmas.Bool.{or_parts}
use Rattle.justfile_vocabulary.specs.AttributeKind.{kind_named}
use Rattle.justfile_vocabulary.specs.declared.attribute_kind.AttributeKind.{AttributeKind}
use Rattle.justfile_vocabulary.specs.declared.attribute_kind.AttributeKind.TheVariants as kinds
use Rattle.justfile_model.specs.Meanings.AttributeKinds.{known_keys, takes_expressions, least_count, most_count}
use Rattle.justfile_model.specs.Meanings.AttributeRules.{has_more, count_broken, repeats_broken, unknown_broken, arguments_broken, known_broken, named_broken, attribute_broken, duplicates_broken, attributes_broken}
use Rattle.justfile_model.specs.Trees.ContentKeys.{entry_cmp}
use Rattle.justfile_model.specs.LiteralTexts.Literals.{Expansions}
use Rattle.justfile_model.specs.Meanings.Meaning.{all_of, of_given, quoted, PositionalArgument, by_position, by_key, at_key, property_of, value_of, bare_of, option_named, option_at, bound_of, rules_of, single_of, texts_of, env_of, signal_of, signal_set, of_expressions, of_literals, by_takes, attribute_of, entry_of, entries_of}
use Rattle.justfile_model.specs.Lists.Order.{placed, in_order}
use Rattle.justfile_model.specs.Trees.LeafView.{LeafView, views_lexemes}
use Rattle.justfile_model.specs.Trees.Tree as tree
use Rattle.justfile_model.specs.Trees.Tree.{Quoted, OptionName, Property, Bound, ArgumentRules, Attribute}
use Rattle.justfile_model.proofs.Lists.Binds.{some_back, never_some, bind_back, nothing_in}
use Rattle.justfile_model.proofs.Meanings.MeaningParts.{arg_meaning}
use Rattle.justfile_round_trip.proofs.Canon.{Value}
use Rattle.justfile_round_trip.proofs.Attributes.CanonAttributes.{Argument, Written, ShapeEntry}
use Rattle.justfile_round_trip.proofs.Attributes.CountedKeys as counted
use Rattle.justfile_round_trip.proofs.Attributes.CountedKeys.{KeyOf, unless}

abbrev PlacedValue : Type 0
PlacedValue = PositionalArgument (List ℕ) (Unit {0})

abbrev Meant : Type 0
Meant = Attribute (List ℕ) (Unit {0})

-- ---- sums over plain numbers

all_keys : (long short pattern value flag multiple max min help : ℕ) → long ≡ 0 → short ≡ 0 → flag ≡ 0 → multiple ≡ 0 → max ≡ 0 → min ≡ 0
    → long + (short + (pattern + (value + (flag + (multiple + (max + (min + (help + 0)))))))) ≡ pattern + (value + help)
all_keys long short pattern value flag multiple max min help a b c d e f = omega (arith, a, b, c, d, e, f)

three_keys : (extra inputs outputs : ℕ) → extra + (inputs + (outputs + 0)) ≡ extra + (inputs + outputs)
three_keys extra inputs outputs = omega arith

values_alone : (values keys n : ℕ) → keys ≡ 0 → values ≡ n → values + keys ≡ n
values_alone values keys n k v = omega (arith, k, v)

keys_alone : (values keys n : ℕ) → values ≡ 0 → keys ≡ n → values + keys ≡ n
keys_alone values keys n v k = omega (arith, k, v)

module _ (weight : Value → ℕ) (weightless : (expanded : Bool) (l : List ℕ) → weight (tree.StringLiteral expanded l) ≡ 0) where
  abbrev optional_weight : Option Value → ℕ
  optional_weight = counted.optional_weight weight

  abbrev argument_weight : Argument → ℕ
  argument_weight (tree.Positional first value) = weight value
  argument_weight (tree.Bare key) = 0
  argument_weight (tree.Keyed key value) = weight value

  abbrev pub arguments_weight : List Argument → ℕ
  arguments_weight [] = 0
  arguments_weight (a ∷ arguments) = argument_weight a + arguments_weight arguments

  abbrev pub written_weight : List Written → ℕ
  written_weight [] = 0
  written_weight (w ∷ ws) = arguments_weight w.arguments + written_weight ws

  abbrev values_weight : List Value → ℕ
  values_weight [] = 0
  values_weight (e ∷ es) = weight e + values_weight es

  abbrev places_weight : List PlacedValue → ℕ
  places_weight ps = values_weight (map (λ (p : PlacedValue). p.value) ps)

  abbrev keys_weight : List KeyOf → ℕ
  keys_weight = counted.keys_weight weight

  -- by position and by key
  in_two : (arguments : List Argument) → arguments_weight arguments ≡ places_weight (by_position arguments) + keys_weight (by_key arguments)
  in_two [] = refl
  in_two (tree.Positional first value ∷ arguments) = let h = in_two arguments in omega (arith, h)
  in_two (_ ∷ arguments) = let h = in_two arguments in omega (arith, h)

  abbrev property_weight : Option (Property (List ℕ) (Unit {0})) → ℕ
  property_weight None = 0
  property_weight (Some p) = weight p.value

  -- the number of features in the meaning of an attribute
  abbrev attribute_weight : Meant → ℕ
  attribute_weight (tree.Single kind value) = values_weight (value ∷ [])
  attribute_weight (tree.Env key value) = values_weight (key ∷ value ∷ [])
  attribute_weight (tree.Cache extra inputs outputs) = optional_weight extra + (optional_weight inputs + optional_weight outputs)
  attribute_weight (tree.Arg rules) = property_weight rules.pattern + (optional_weight rules.value + property_weight rules.help)
  attribute_weight _ = 0

  abbrev entries_weight : List ShapeEntry → ℕ
  entries_weight [] = 0
  entries_weight (e ∷ entries) = attribute_weight e.attribute + entries_weight entries

  -- ---- literals

  literal_weight : (e : Value) (q : Quoted (List ℕ)) → quoted e ≡ Some q → weight e ≡ 0
  literal_weight (tree.StringLiteral expanded l) q h = weightless expanded l
  literal_weight _ q h = never_some q h

  literals_weight : (es : List Value) (texts : List (Quoted (List ℕ))) → all_of quoted es ≡ Some texts → values_weight es ≡ 0
  literals_weight [] texts h = refl
  literals_weight (e ∷ es) texts h =
      let q = bind_back (quoted e) _ texts h in
      let qs = bind_back (all_of quoted es) _ texts q.gives in
      λ i. literal_weight e q.first q.is i + literals_weight es qs.first qs.is i

  module _ (expander : Expansions) where
    abbrev view : LeafView (List ℕ) (Unit {0})
    view = views_lexemes expander

    -- ---- the value that is found at a key

    abbrev found_weight : Option KeyOf → ℕ
    found_weight = counted.found_weight weight expander

    abbrev table_weight : List (List ℕ) → List KeyOf → ℕ
    table_weight = counted.table_weight weight expander

    option_weightless : (o : Option KeyOf) (r : OptionName (List ℕ) (Unit {0})) → option_at view o ≡ Some r → found_weight o ≡ 0
    option_weightless None r h = refl
    option_weightless (Some k) r h = by k.value h
      where
        by : (v : Option Value) → option_named view k.key v ≡ Some r → optional_weight v ≡ 0
        by None h = refl
        by (Some e) h = let q = bind_back (quoted e) _ r h in literal_weight e q.first q.is

    bare_weightless : (o : Option KeyOf) (r : Option (Unit {0})) → of_given (bare_of view) o ≡ Some r → found_weight o ≡ 0
    bare_weightless None r h = refl
    bare_weightless (Some k) r h = by k.value h
      where
        by : (v : Option Value) → of_given (bare_of view) (Some (record { key = k.key; value = v })) ≡ Some r → optional_weight v ≡ 0
        by None h = refl
        by (Some e) h = never_some r h

    bound_weightless : (o : Option KeyOf) (r : Option (Bound (Unit {0}))) → of_given (bound_of view) o ≡ Some r → found_weight o ≡ 0
    bound_weightless None r h = refl
    bound_weightless (Some k) r h =
        let b = bind_back (bound_of view k) (λ y. Some (Some y)) r h in
        let v = bind_back k.value _ b.first b.is in
        let q = bind_back (quoted v.first) _ b.first v.gives in
        ap optional_weight v.is ∙ literal_weight v.first q.first q.is

    property_found : (o : Option KeyOf) (r : Option (Property (List ℕ) (Unit {0}))) → of_given (property_of view) o ≡ Some r
        → found_weight o ≡ property_weight r
    property_found None r h = ap property_weight (some_back None r h)
    property_found (Some k) r h =
        let p = bind_back (property_of view k) (λ y. Some (Some y)) r h in
        let v = bind_back k.value _ p.first p.is in
        ap optional_weight v.is ∙ ap (λ (p : Property (List ℕ) (Unit {0})). weight p.value) (some_back _ p.first v.gives)
        ∙ ap property_weight (some_back (Some p.first) r p.gives)

    value_found : (o : Option KeyOf) (r : Option Value) → of_given (value_of view) o ≡ Some r → found_weight o ≡ optional_weight r
    value_found None r h = ap optional_weight (some_back None r h)
    value_found (Some k) r h =
        let v = bind_back k.value (λ y. Some (Some y)) r h in
        ap optional_weight v.is ∙ ap optional_weight (some_back (Some v.first) r v.gives)

    -- ---- each kind

    arg_found : (q : Quoted (List ℕ)) (keys : List KeyOf) (rules : ArgumentRules (List ℕ) (Unit {0})) → rules_of view (q ∷ []) keys ≡ Some rules
        → table_weight (known_keys kinds.Arg) keys ≡ attribute_weight (tree.Arg rules)
    arg_found q keys rules h =
        let s = arg_meaning view q keys rules h in
        all_keys _ _ _ _ _ _ _ _ _ (option_weightless _ rules.long s.long) (option_weightless _ rules.short s.short) (bare_weightless _ rules.flag s.flag)
        (bare_weightless _ rules.multiple s.multiple) (bound_weightless _ rules.max s.max) (bound_weightless _ rules.min s.min)
        ∙ (λ i. property_found _ rules.pattern s.pattern i + (value_found _ rules.value s.value i + property_found _ rules.help s.help i))

    cache_found : (keys : List KeyOf) (a : Meant) → of_literals view kinds.Cache [] keys ≡ Some a → table_weight (known_keys kinds.Cache) keys ≡ attribute_weight a
    cache_found keys a h =
        let extra = bind_back (of_given (value_of view) (at_key view (codes "extra") keys)) _ a h in
        let inputs = bind_back (of_given (value_of view) (at_key view (codes "inputs") keys)) _ a extra.gives in
        let outputs = bind_back (of_given (value_of view) (at_key view (codes "outputs") keys)) _ a inputs.gives in
        three_keys _ _ _
        ∙ (λ i. value_found _ extra.first extra.is i + (value_found _ inputs.first inputs.is i + value_found _ outputs.first outputs.is i))
        ∙ ap attribute_weight (some_back (tree.Cache extra.first inputs.first outputs.first) a outputs.gives)

    texts_weight : (kind : AttributeKind) (texts : List (Quoted (List ℕ))) → attribute_weight (texts_of view kind texts) ≡ 0
    texts_weight kind [] = refl
    texts_weight kind (q ∷ texts) = refl

    literals_found : (kind : AttributeKind) (texts : List (Quoted (List ℕ))) (keys : List KeyOf) (a : Meant) → of_literals view kind texts keys ≡ Some a
        → table_weight (known_keys kind) keys ≡ attribute_weight a
    literals_found kinds.Arg [] keys a h = never_some a h
    literals_found kinds.Arg (q ∷ texts) keys a h =
        let r = bind_back (rules_of view (q ∷ []) keys) _ a h in arg_found q keys r.first r.is ∙ ap attribute_weight (some_back (tree.Arg r.first) a r.gives)
    literals_found kinds.Cache texts keys a h = cache_found keys a h
    literals_found kinds.Continue texts keys a h =
        let s = bind_back (all_of (signal_of view) texts) _ a h in ap attribute_weight (some_back (tree.Signals (signal_set s.first)) a s.gives)
    literals_found kinds.Env texts keys a h = sym (texts_weight kinds.Env texts) ∙ ap attribute_weight (some_back _ a h)
    literals_found kind texts keys a h = sym (texts_weight kind texts) ∙ ap attribute_weight (some_back _ a h)

    -- at most the bound
    at_most : (kind : AttributeKind) (found most : ℕ) → count_broken view tt kind found ≡ [] → most_count kind ≡ Some most → found ≤ most
    at_most kind found most h e =
        let n = unless (nat_lt found (least_count kind) || has_more found (most_count kind)) _ h in
        let m = or_parts (nat_lt found (least_count kind)) (has_more found (most_count kind)) n in
        ltb-false most found (sym (ap (has_more found) e) ∙ m.1)

    single_found : (kind : AttributeKind) (ps : List PlacedValue) (a : Meant) → length ps ≤ 1
        → Some (single_of view kind (map (λ (p : PlacedValue). p.value) ps)) ≡ Some a → places_weight ps ≡ attribute_weight a
    single_found kind [] a few h = ap attribute_weight (some_back (tree.Plain kind) a h)
    single_found kind (p ∷ []) a few h = ap attribute_weight (some_back (tree.Single kind p.value) a h)
    single_found kind (p ∷ q ∷ ps) a few h = absurd (omega (arith, few))

    env_found : (ps : List PlacedValue) (a : Meant) → length ps ≤ 2 → env_of view (map (λ (p : PlacedValue). p.value) ps) ≡ Some a
        → places_weight ps ≡ attribute_weight a
    env_found [] a few h = never_some a h
    env_found (p ∷ []) a few h = never_some a h
    env_found (p ∷ q ∷ []) a few h = ap attribute_weight (some_back (tree.Env p.value q.value) a h)
    env_found (p ∷ q ∷ r ∷ ps) a few h = absurd (omega (arith, few))

    expressions_found : (kind : AttributeKind) (ps : List PlacedValue) (a : Meant) → takes_expressions kind ≡ true → count_broken view tt kind (length ps) ≡ []
        → of_expressions view kind (map (λ (p : PlacedValue). p.value) ps) ≡ Some a → places_weight ps ≡ attribute_weight a
    expressions_found kinds.Env ps a takes few h = env_found ps a (at_most kinds.Env (length ps) 2 few refl) h
    expressions_found kinds.Confirm ps a takes few h = single_found kinds.Confirm ps a (at_most kinds.Confirm (length ps) 1 few refl) h
    expressions_found kinds.Doc ps a takes few h = single_found kinds.Doc ps a (at_most kinds.Doc (length ps) 1 few refl) h
    expressions_found kinds.Timestamp ps a takes few h = single_found kinds.Timestamp ps a (at_most kinds.Timestamp (length ps) 1 few refl) h
    expressions_found kinds.WorkingDirectory ps a takes few h =
        single_found kinds.WorkingDirectory ps a (at_most kinds.WorkingDirectory (length ps) 1 few refl) h
    expressions_found _ ps a takes few h = cc

    no_words : (kind : AttributeKind) → takes_expressions kind ≡ true → known_keys kind ≡ []
    no_words kinds.Arg h = cc
    no_words kinds.Cache h = cc
    no_words _ h = refl

    taken : (takes : Bool) (kind : AttributeKind) (ps : List PlacedValue) (keys : List KeyOf) (a : Meant) → takes_expressions kind ≡ takes
        → count_broken view tt kind (length ps) ≡ [] → keys_weight keys ≡ table_weight (known_keys kind) keys
        → by_takes view takes kind (map (λ (p : PlacedValue). p.value) ps) keys ≡ Some a → places_weight ps + keys_weight keys ≡ attribute_weight a
    taken true kind ps keys a takes few found h =
        values_alone _ _ _ (found ∙ ap (λ words. table_weight words keys) (no_words kind takes)) (expressions_found kind ps a takes few h)
    taken false kind ps keys a takes few found h =
        let texts = bind_back (all_of quoted (map (λ (p : PlacedValue). p.value) ps)) _ a h in
        keys_alone _ _ _ (literals_weight _ texts.first texts.is) (found ∙ literals_found kind texts.first keys a texts.gives)

    -- ---- attributes

    entry_weight : (w : Written) (e : ShapeEntry) → entry_of view w ≡ Some e → attribute_broken view w ≡ []
        → arguments_weight w.arguments ≡ attribute_weight e.attribute
    entry_weight w e m u =
        let kind = bind_back (kind_named w.name) _ e m in
        let attribute = bind_back (attribute_of view kind.first (by_position w.arguments) (by_key w.arguments)) _ e kind.gives in
        let known : known_broken view w kind.first ≡ [] = ap (named_broken view w) (sym kind.is) ∙ u in
        let parts = nothing_in _ (arguments_broken view tt kind.first (by_position w.arguments) (by_key w.arguments)) known in
        let repeats = nothing_in _ (repeats_broken view tt [] (by_key w.arguments)) parts.0 in
        let unknown = nothing_in _ (unknown_broken view tt kind.first (by_key w.arguments)) parts.1 in
        let few = nothing_in (count_broken view tt kind.first (length (by_position w.arguments))) _ (nothing_in _ _ unknown.0).0 in
        in_two w.arguments
        ∙ taken (takes_expressions kind.first) kind.first (by_position w.arguments) (by_key w.arguments) attribute.first refl few.0
        (counted.keys_found weight expander kind.first (by_key w.arguments) repeats.1 unknown.1) attribute.is
        ∙ ap (λ (e : ShapeEntry). attribute_weight e.attribute) (some_back (record { name = tt; attribute = attribute.first; comment = w.comment }) e attribute.gives)

    all_weight : (ws : List Written) (es : List ShapeEntry) → all_of (entry_of view) ws ≡ Some es → flat_map (attribute_broken view) ws ≡ []
        → written_weight ws ≡ entries_weight es
    all_weight [] es m u = ap entries_weight (some_back [] es m)
    all_weight (w ∷ ws) es m u =
        let e = bind_back (entry_of view w) _ es m in
        let r = bind_back (all_of (entry_of view) ws) _ es e.gives in
        let n = nothing_in (attribute_broken view w) (flat_map (attribute_broken view) ws) u in
        (λ i. entry_weight w e.first e.is n.0 i + all_weight ws r.first r.is n.1 i) ∙ ap entries_weight (some_back (e.first ∷ r.first) es r.gives)

    -- the order does not count
    placed_weight : (cmp : ShapeEntry → ShapeEntry → Ordering) (x : ShapeEntry) (ys : List ShapeEntry)
        → entries_weight (placed cmp x ys) ≡ attribute_weight x.attribute + entries_weight ys
    placed_weight cmp x [] = refl
    placed_weight cmp x (y ∷ ys) = grind (arith, placed_weight cmp x ys)

    in_order_weight : (cmp : ShapeEntry → ShapeEntry → Ordering) (es : List ShapeEntry) → entries_weight (in_order cmp es) ≡ entries_weight es
    in_order_weight cmp [] = refl
    in_order_weight cmp (e ∷ es) = placed_weight cmp e (in_order cmp es) ∙ ap (λ n. attribute_weight e.attribute + n) (in_order_weight cmp es)

    meant_weight : (ws : List Written) (es : List ShapeEntry) → entries_of view ws ≡ Some es → attributes_broken view ws ≡ []
        → written_weight ws ≡ entries_weight es
    meant_weight ws es m u =
        let all = bind_back (all_of (entry_of view) ws) _ es m in
        let n = nothing_in (flat_map (attribute_broken view) ws) (duplicates_broken view [] ws) u in
        all_weight ws all.first all.is n.0 ∙ sym (in_order_weight (entry_cmp view) all.first)
        ∙ ap entries_weight (some_back (in_order (entry_cmp view) all.first) es all.gives)

    -- attributes that mean the same and break no rule have as much in them
    pub same_weight : (ws others : List Written) (es : List ShapeEntry) → entries_of view ws ≡ Some es → entries_of view others ≡ Some es
        → attributes_broken view ws ≡ [] → attributes_broken view others ≡ [] → written_weight ws ≡ written_weight others
    same_weight ws others es m n u v = meant_weight ws es m u ∙ sym (meant_weight others es n v)
