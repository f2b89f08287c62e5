-- Attributes that are made of related arguments, after related attributes, are related, or the errors are.
use Rattle.std.proofs.Common.{◌≡◌, ℕ, Bool, true, false, ◌&&◌, ◌||◌, not, List, ◌∷◌, codes, length, Option, Some, None, nat_lt, refl, ap, subst}
use Rattle.std.specs.List.{list_any}
use Rattle.std.specs.Prelude.{◌==◌, slice_index}
use Rattle.std.specs.Str.{bytes_eq, chars}
use Rattle.justfile_vocabulary.specs.Signal.{signal_named}
use Rattle.justfile_vocabulary.specs.declared.attribute_kind.AttributeKind.{AttributeKind}
use Rattle.justfile_vocabulary.specs.declared.attribute_kind.AttributeKind.TheVariants as attributes
use Rattle.justfile_vocabulary.specs.declared.signal.Signal.{Signal}
use Rattle.justfile_vocabulary.specs.declared.item_kind.ItemKind.{ItemKind}
use Rattle.justfile_model.specs.Meanings.AttributeKinds.{is_allowed, is_repeatable, known_keys, least_count, most_count, same_attribute, takes_expressions}
use Rattle.justfile_model.specs.Meanings.AttributeRules.{allowed_broken, arg_rules, duplicate_rule, excludes, first_invalid, has_more, label_of, quoted_value, rules_in, same_label, same_text}
use Rattle.justfile_model.specs.Trees.ContentKeys.{kind_of_attribute}
use Rattle.justfile_model.specs.LiteralTexts.Literals.{string_of}
use Rattle.justfile_model.specs.Meanings.Meaning.{KeyArgument, PositionalArgument, at_key, count_of, is_count, quoted_text, signal_set, single_of, text_of, texts_of}
use Rattle.justfile_model.specs.Readers.NewAttribute as new
use Rattle.justfile_model.specs.Readers.NewAttribute.{Made}
use Rattle.justfile_model.specs.Trees.LeafView.{LeafView, or_empty}
use Rattle.justfile_model.specs.Trees.Tree as tree
use Rattle.justfile_model.specs.Trees.Tree.{ArgumentRules, Attribute, Bound, Entry, Expr, OptionName, Property, Quoted}
use Rattle.justfile_model.proofs.Relations.AlikeAttributes as alike
use Rattle.justfile_model.proofs.Relations.AlikeAttributes.{AlikeArgumentRules, AlikeAttribute, AlikeBound, AlikeEntry, AlikeKey, AlikeOptionName, AlikePositional, AlikeProperty, AlikeQuoted, SeesAlike, quoted_alike, quoted_literal, same_kind}
use Rattle.justfile_model.proofs.Relations.AlikeRules as broken
use Rattle.justfile_model.proofs.Relations.AlikeRules.{AlikeBroken, AlikeRule}
use Rattle.justfile_model.proofs.Lists.EachLaws.{AlikeOption, absent, each_given, each_mapped, first_alike, found_alike, kept_alike, least_alike, listed_alike, present, same_some}
use Rattle.justfile_model.proofs.Relations.MakesAlike.{Checks, Makes, all_made, by_tests, checked, given, made, refused, step, there}
use Rattle.justfile_model.proofs.Relations.Related as a
use Rattle.justfile_model.proofs.Relations.Related.{Alike, Each, Relations, each_length}

-- the same, or neither
pub same_option : {X : Type 0} (o o' : Option X) → o ≡ o' → AlikeOption (λ (x y : X). x ≡ y) o o'
same_option None o' e = subst (AlikeOption (λ x y. x ≡ y) None) e absent
same_option (Some x) o' e = subst (AlikeOption (λ x y. x ≡ y) (Some x)) e (present refl)

pub same_list : {X : Type 0} {xs ys : List X} → Each (λ (x y : X). x ≡ y) xs ys → xs ≡ ys
same_list a.nil = refl
same_list (a.cons h hs) = λ i. h i ∷ same_list hs i

module _ {R T A B S D R' T' A' B' S' D' : Type 0} (rel : Relations R T A B S D R' T' A' B' S' D') (view : LeafView A B) (view' : LeafView A' B')
    (sees : SeesAlike rel view view') where
  -- ---- what is seen

  pub same_quoted_text : {q : Quoted A} {q' : Quoted A'} → AlikeQuoted rel q q' → quoted_text view q ≡ quoted_text view' q'
  same_quoted_text {q} {q'} h = sees.cooked (string_of q.expanded q.token) (string_of q'.expanded q'.token) (quoted_literal rel h)

  pub same_text_of : {q : Quoted A} {q' : Quoted A'} → AlikeQuoted rel q q' → text_of view q ≡ text_of view' q'
  same_text_of h = ap or_empty (same_quoted_text h)

  same_value : {q : Quoted A} {q' : Quoted A'} → AlikeQuoted rel q q' → quoted_value view q ≡ quoted_value view' q'
  same_value {q} {q'} h =
      sees.value (string_of q.expanded q.token) (string_of q'.expanded q'.token) (quoted_literal rel h)

  pub quoted_place : {q : Quoted A} {q' : Quoted A'} → AlikeQuoted rel q q' → rel.position (view.place q.token) (view'.place q'.token)
  quoted_place {q} {q'} h = sees.literal_place (string_of q.expanded h.lexeme) q.token q'.token h.token

  pub key_place : {k : KeyArgument A B} {k' : KeyArgument A' B'} → AlikeKey rel k k' → rel.position (view.place k.key) (view'.place k'.key)
  key_place {k} {k'} h = sees.name_place k.key k'.key h.key

  pub key_bytes : (k : KeyArgument A B) (k' : KeyArgument A' B') → AlikeKey rel k k' → view.bytes k.key ≡ view'.bytes k'.key
  key_bytes k k' h = sees.bytes k.key k'.key h.key

  pub key_found : (word : List ℕ) {ks : List (KeyArgument A B)} {ks' : List (KeyArgument A' B')} → Each (AlikeKey rel) ks ks'
      → AlikeOption (AlikeKey rel) (at_key view word ks) (at_key view' word ks')
  key_found word h = found_alike _ _ (λ k k' j i. bytes_eq (key_bytes k k' j i) word) h

  -- ---- attributes of related values

  pub signals_alike : {given given' : List Signal} → given ≡ given' → AlikeAttribute rel (tree.Signals (signal_set given)) (tree.Signals (signal_set given'))
  signals_alike {given} e =
      subst (λ all. AlikeAttribute rel (tree.Signals (signal_set given)) (tree.Signals (signal_set all))) e (alike.signals (signal_set given))

  pub texts_alike : (kind : AttributeKind) {qs : List (Quoted A)} {qs' : List (Quoted A')} → Each (AlikeQuoted rel) qs qs'
      → AlikeAttribute rel (texts_of view kind qs) (texts_of view' kind qs')
  texts_alike kind a.nil = alike.plain kind
  texts_alike kind (a.cons h hs) = alike.texts kind (a.cons h hs)

  pub single_alike : (kind : AttributeKind) {es : List (Expr A B)} {es' : List (Expr A' B')} → Each (Alike rel) es es'
      → AlikeAttribute rel (single_of view kind es) (single_of view' kind es')
  single_alike kind a.nil = alike.plain kind
  single_alike kind (a.cons e es) = alike.single kind e

  -- ---- checks

  module _ (at : B) (at' : B') (place : rel.position at at') where
    required_alike : (k : KeyArgument A B) (k' : KeyArgument A' B') → AlikeKey rel k k'
        → Makes rel.position (Alike rel) (new.required view at k) (new.required view' at' k')
    required_alike k k' h = there rel.position h.value (broken.missing_value (key_place h)) (key_place h)

    required_found : (word : List ℕ) {ks : List (KeyArgument A B)} {ks' : List (KeyArgument A' B')} → Each (AlikeKey rel) ks ks'
        → Makes rel.position (AlikeOption (Alike rel)) (new.required_at view at word ks) (new.required_at view' at' word ks')
    required_found word h = given rel.position _ _ (key_found word h) required_alike

    property_alike : (k : KeyArgument A B) (k' : KeyArgument A' B') → AlikeKey rel k k'
        → Makes rel.position (AlikeProperty rel) (new.property view at k) (new.property view' at' k')
    property_alike k k' h = step rel.position _ _ (required_alike k k' h) (λ v v' e. made (record { key = key_place h; value = e }))

    literal_alike : {k : A} {k' : A'} {e : Expr A B} {e' : Expr A' B'} → rel.name k k' → Alike rel e e'
        → Makes rel.position (AlikeQuoted rel) (new.literal view at k e) (new.literal view' at' k' e')
    literal_alike {k} {k'} h e = there rel.position (quoted_alike rel e) (broken.argument_expression place) (sees.name_place k k' h)

    placed_literal_alike : (p : PositionalArgument A B) (p' : PositionalArgument A' B') → AlikePositional rel p p'
        → Makes rel.position (AlikeQuoted rel) (new.placed_literal view at p) (new.placed_literal view' at' p')
    placed_literal_alike p p' h = there rel.position (quoted_alike rel h.value) (broken.argument_expression place) h.first

    count_alike : (kind : AttributeKind) {found found' : ℕ} → found ≡ found'
        → Makes rel.position (Checks rel.position) (new.check_count view at kind found) (new.check_count view' at' kind found')
    count_alike kind e = checked rel.position _ _ (λ i. nat_lt (e i) (least_count kind) || has_more (e i) (most_count kind)) (broken.count_mismatch place e) place

    refuse_key_alike : {o : Option (KeyArgument A B)} {o' : Option (KeyArgument A' B')} → AlikeOption (AlikeKey rel) o o'
        → Makes rel.position (Checks rel.position) (new.refuse_key view at o) (new.refuse_key view' at' o')
    refuse_key_alike absent = made tt
    refuse_key_alike (present h) = refused rel.position (broken.unknown_key place (key_place h)) (key_place h)

    keys_known : (kind : AttributeKind) {ks : List (KeyArgument A B)} {ks' : List (KeyArgument A' B')} → Each (AlikeKey rel) ks ks'
        → Makes rel.position (Checks rel.position) (new.check_keys view at kind ks) (new.check_keys view' at' kind ks')
    keys_known kind h =
        refuse_key_alike (least_alike _ _ key_bytes (kept_alike _ _ (λ k k' j i. not (list_any (bytes_eq (key_bytes k k' j i)) (known_keys kind))) h))

    signal_alike : (q : Quoted A) (q' : Quoted A') → AlikeQuoted rel q q' → Makes rel.position (λ s s'. s ≡ s') (new.signal view at q) (new.signal view' at' q')
    signal_alike q q' h =
        there rel.position (same_option (signal_named (text_of view q)) (signal_named (text_of view' q')) (ap signal_named (same_text_of h)))
        (broken.invalid_signal (same_text_of h)) (quoted_place h)

    -- ---- the rules of `arg`

    module _ (argument argument' : List ℕ) (same : argument ≡ argument') where
      option_name_alike : {q : Quoted A} {q' : Quoted A'} {option option' : List ℕ} → AlikeQuoted rel q q' → option ≡ option'
          → Makes rel.position (Checks rel.position) (new.check_option_name view at argument q option) (new.check_option_name view' at' argument' q' option')
      option_name_alike h e =
          step rel.position _ _ (checked rel.position _ _ (λ i. list_any (λ b. b == 61) (e i)) (broken.has_equal_sign same) (quoted_place h)) (λ _ _ _.
          step rel.position _ _ (checked rel.position _ _ (λ i. slice_index (e i) 0 == 45) (broken.has_dash same) (quoted_place h)) (λ _ _ _.
          checked rel.position _ _ (λ i. length (e i) == 0) (broken.empty_name same) (quoted_place h)))

      short_alike : (is_short : Bool) {q : Quoted A} {q' : Quoted A'} {option option' : List ℕ} → AlikeQuoted rel q q' → option ≡ option'
          → Makes rel.position (Checks rel.position) (new.check_short view at argument is_short q option) (new.check_short view' at' argument' is_short q' option')
      short_alike is_short h e = checked rel.position _ _ (λ i. is_short && not (length (chars (e i)) == 1)) (broken.long_short same) (quoted_place h)

      option_by_alike : (is_short : Bool) {k : A} {k' : A'} {o : Option (Expr A B)} {o' : Option (Expr A' B')} → rel.name k k' → AlikeOption (Alike rel) o o'
          → Makes rel.position (AlikeOptionName rel) (new.option_by view at argument is_short k o) (new.option_by view' at' argument' is_short k' o')
      option_by_alike is_short {k} {k'} h absent = made (alike.own_name (sees.name_place k k' h))
      option_by_alike is_short h (present e) =
          step rel.position _ _ (literal_alike h e) (λ q q' j. step rel.position _ _ (option_name_alike j (same_text_of j)) (λ _ _ _.
          step rel.position _ _ (short_alike is_short j (same_text_of j)) (λ _ _ _. made (alike.option_named j))))

      option_alike : (is_short : Bool) {o : Option (KeyArgument A B)} {o' : Option (KeyArgument A' B')} → AlikeOption (AlikeKey rel) o o'
          → Makes rel.position (AlikeOptionName rel) (new.option view at argument is_short o) (new.option view' at' argument' is_short o')
      option_alike is_short absent = made alike.no_option
      option_alike is_short (present h) = option_by_alike is_short h.key h.value

      same_is_option : {n : OptionName A B} {n' : OptionName A' B'} → AlikeOptionName rel n n'
          → new.is_option view at argument n ≡ new.is_option view' at' argument' n'
      same_is_option alike.no_option = refl
      same_is_option _ = refl

      wanted_alike : {l s : OptionName A B} {l' s' : OptionName A' B'} (k : KeyArgument A B) (k' : KeyArgument A' B') → AlikeOptionName rel l l'
          → AlikeOptionName rel s s' → AlikeKey rel k k'
          → Makes rel.position (Checks rel.position) (new.check_has_option view at argument l s k) (new.check_has_option view' at' argument' l' s' k')
      wanted_alike k k' l s h =
          checked rel.position _ _ (λ i. not (same_is_option l i) && not (same_is_option s i)) (broken.requires_option (key_place h)) (key_place h)

      value_alike : {l s : OptionName A B} {l' s' : OptionName A' B'} → AlikeOptionName rel l l' → AlikeOptionName rel s s'
          → (k : KeyArgument A B) (k' : KeyArgument A' B') → AlikeKey rel k k'
          → Makes rel.position (Alike rel) (new.option_value view at argument l s k) (new.option_value view' at' argument' l' s' k')
      value_alike l s k k' h = step rel.position _ _ (required_alike k k' h) (λ v v' e. step rel.position _ _ (wanted_alike k k' l s h) (λ _ _ _. made e))

      flag_alike : {l s : OptionName A B} {l' s' : OptionName A' B'} {v p v' p' : Bool} → AlikeOptionName rel l l' → AlikeOptionName rel s s' → v ≡ v' → p ≡ p'
          → (k : KeyArgument A B) (k' : KeyArgument A' B') → AlikeKey rel k k'
          → Makes rel.position rel.position (new.flag view at argument l s v p k) (new.flag view' at' argument' l' s' v' p' k')
      flag_alike l s v p k k' h =
          step rel.position _ _ (checked rel.position _ _ (same_some h.value) (broken.flag_value same) (key_place h))
          (λ _ _ _. step rel.position _ _ (wanted_alike k k' l s h) (λ _ _ _.
          step rel.position _ _ (checked rel.position _ _ v (broken.flag_and_value same) (key_place h)) (λ _ _ _.
          step rel.position _ _ (checked rel.position _ _ p (broken.flag_and_pattern same) (key_place h)) (λ _ _ _. made (key_place h)))))

      multiple_alike : {l s : OptionName A B} {l' s' : OptionName A' B'} → AlikeOptionName rel l l' → AlikeOptionName rel s s'
          → (k : KeyArgument A B) (k' : KeyArgument A' B') → AlikeKey rel k k'
          → Makes rel.position rel.position (new.multiple view at argument l s k) (new.multiple view' at' argument' l' s' k')
      multiple_alike l s k k' h =
          step rel.position _ _ (checked rel.position _ _ (same_some h.value) (broken.takes_no_value (key_place h)) (key_place h)) (λ _ _ _.
          step rel.position _ _ (wanted_alike k k' l s h) (λ _ _ _. made (key_place h)))

      bound_alike : (k : KeyArgument A B) (k' : KeyArgument A' B') → AlikeKey rel k k'
          → Makes rel.position (AlikeBound rel) (new.bound view at argument k) (new.bound view' at' argument' k')
      bound_alike k k' h =
          step rel.position _ _ (required_alike k k' h) (λ v v' e. step rel.position _ _ (literal_alike h.key e) (λ q q' j.
          step rel.position _ _ (checked rel.position _ _ (λ i. not (is_count (same_text_of j i))) (broken.no_count (key_place h) (same_text_of j)) (quoted_place j))
          (λ _ _ _.
          step rel.position _ _ (there rel.position (same_option (count_of (text_of view q)) (count_of (text_of view' q')) (ap count_of (same_text_of j)))
          (broken.big_count (key_place h) (same_text_of j)) (quoted_place j))
          (λ n n' m. made (record { key = key_place h; number = m })))))

      bounds_alike : {n m : Option (Bound B)} {n' m' : Option (Bound B')} → AlikeOption (AlikeBound rel) n n' → AlikeOption (AlikeBound rel) m m'
          → Makes rel.position (Checks rel.position) (new.check_bounds view at argument n m) (new.check_bounds view' at' argument' n' m')
      bounds_alike absent m = made tt
      bounds_alike (present n) absent = made tt
      bounds_alike (present n) (present m) = checked rel.position _ _ (λ i. nat_lt (m.number i) (n.number i)) (broken.min_exceeds n.number m.number) n.key

      new_rules_alike : {q : Quoted A} {q' : Quoted A'} {ks : List (KeyArgument A B)} {ks' : List (KeyArgument A' B')} → AlikeQuoted rel q q'
          → Each (AlikeKey rel) ks ks'
          → Makes rel.position (AlikeArgumentRules rel) (new.new_rules view at argument q ks) (new.new_rules view' at' argument' q' ks')
      new_rules_alike q h =
          step rel.position _ _ (option_alike false (key_found (codes "long") h))
          (λ long long' l. step rel.position _ _ (option_alike true (key_found (codes "short") h)) (λ short short' s.
          step rel.position _ _ (given rel.position _ _ (key_found (codes "pattern") h) property_alike) (λ pattern pattern' p.
          step rel.position _ _ (given rel.position _ _ (key_found (codes "value") h) (value_alike l s)) (λ value value' v.
          step rel.position _ _ (given rel.position _ _ (key_found (codes "flag") h) (flag_alike l s (same_some v) (same_some p))) (λ flag flag' f.
          step rel.position _ _ (given rel.position _ _ (key_found (codes "multiple") h) (multiple_alike l s)) (λ multiple multiple' m.
          step rel.position _ _ (given rel.position _ _ (key_found (codes "max") h) bound_alike)
          (λ max max' greatest. step rel.position _ _ (given rel.position _ _ (key_found (codes "min") h) bound_alike) (λ min min' least.
          step rel.position _ _ (bounds_alike least greatest) (λ _ _ _. step rel.position _ _ (given rel.position _ _ (key_found (codes "help") h) property_alike)
          (λ help help' t.
          made (record { flag = f; help = t; long = l; max = greatest; min = least; multiple = m; name = q; pattern = p; short = s; value = v })))))))))))

    -- ---- attributes

    new_arg_alike : {qs : List (Quoted A)} {qs' : List (Quoted A')} {ks : List (KeyArgument A B)} {ks' : List (KeyArgument A' B')}
        → Each (AlikeQuoted rel) qs qs' → Each (AlikeKey rel) ks ks'
        → Makes rel.position (AlikeAttribute rel) (new.new_arg view at qs ks) (new.new_arg view' at' qs' ks')
    new_arg_alike a.nil k = made (alike.plain attributes.Arg)
    new_arg_alike (a.cons {x =
        q} {y = q'} h hs) k = step rel.position _ _ (new_rules_alike (text_of view q) (text_of view' q') (same_text_of h) h k) (λ r r' j. made (alike.arg j))

    new_cache_alike : {ks : List (KeyArgument A B)} {ks' : List (KeyArgument A' B')} → Each (AlikeKey rel) ks ks'
        → Makes rel.position (AlikeAttribute rel) (new.new_cache view at ks) (new.new_cache view' at' ks')
    new_cache_alike k =
        step rel.position _ _ (required_found (codes "extra") k) (λ x x' e. step rel.position _ _ (required_found (codes "inputs") k) (λ y y' i.
        step rel.position _ _ (required_found (codes "outputs") k) (λ z z' o. made (alike.cache e i o))))

    new_continue_alike : {qs : List (Quoted A)} {qs' : List (Quoted A')} → Each (AlikeQuoted rel) qs qs'
        → Makes rel.position (AlikeAttribute rel) (new.new_continue view at qs) (new.new_continue view' at' qs')
    new_continue_alike h = step rel.position _ _ (all_made rel.position _ _ signal_alike h) (λ s s' e. made (signals_alike (same_list e)))

    of_literals_alike : (kind : AttributeKind) {qs : List (Quoted A)} {qs' : List (Quoted A')} {ks : List (KeyArgument A B)} {ks' : List (KeyArgument A' B')}
        → Each (AlikeQuoted rel) qs qs' → Each (AlikeKey rel) ks ks'
        → Makes rel.position (AlikeAttribute rel) (new.new_of_literals view at kind qs ks) (new.new_of_literals view' at' kind qs' ks')
    of_literals_alike attributes.Arg h k = new_arg_alike h k
    of_literals_alike attributes.Cache h k = new_cache_alike k
    of_literals_alike attributes.Continue h k = new_continue_alike h
    of_literals_alike kind h k = made (texts_alike kind h)

    of_expressions_alike : (kind : AttributeKind) {es : List (Expr A B)} {es' : List (Expr A' B')} → Each (Alike rel) es es'
        → AlikeAttribute rel (new.new_of_expressions view at kind es) (new.new_of_expressions view' at' kind es')
    of_expressions_alike attributes.Env a.nil = alike.plain attributes.Env
    of_expressions_alike attributes.Env (a.cons e a.nil) = alike.single attributes.Env e
    of_expressions_alike attributes.Env (a.cons e (a.cons f fs)) = alike.env e f
    of_expressions_alike kind h = single_alike kind h

    from_literals_alike : (kind : AttributeKind) {ps : List (PositionalArgument A B)} {ps' : List (PositionalArgument A' B')} {ks : List (KeyArgument A B)}
        {ks' : List (KeyArgument A' B')} → Each (AlikePositional rel) ps ps' → Each (AlikeKey rel) ks ks'
        → Makes rel.position (AlikeAttribute rel) (new.from_literals view at kind ps ks) (new.from_literals view' at' kind ps' ks')
    from_literals_alike kind h k =
        step rel.position _ _ (all_made rel.position _ _ placed_literal_alike h) (λ qs qs' q. step rel.position _ _ (of_literals_alike kind q k) (λ x x' j.
        step rel.position _ _ (keys_known kind k) (λ _ _ _. made j)))

    from_expressions_alike : (kind : AttributeKind) {ps : List (PositionalArgument A B)} {ps' : List (PositionalArgument A' B')} {ks : List (KeyArgument A B)}
        {ks' : List (KeyArgument A' B')} → Each (AlikePositional rel) ps ps' → Each (AlikeKey rel) ks ks'
        → Makes rel.position (AlikeAttribute rel) (new.from_expressions view at kind ps ks) (new.from_expressions view' at' kind ps' ks')
    from_expressions_alike kind h k = step rel.position _ _ (keys_known kind k) (λ _ _ _. made (of_expressions_alike kind (each_mapped _ _ (λ p p' j. j.value) h)))

    pub new_attribute_alike : (kind : AttributeKind) {ps : List (PositionalArgument A B)} {ps' : List (PositionalArgument A' B')} {ks : List (KeyArgument A B)}
        {ks' : List (KeyArgument A' B')} → Each (AlikePositional rel) ps ps' → Each (AlikeKey rel) ks ks'
        → Makes rel.position (AlikeAttribute rel) (new.new_attribute view at kind ps ks) (new.new_attribute view' at' kind ps' ks')
    unfolding new.new_attribute
    new_attribute_alike kind h k =
        step rel.position _ _ (count_alike kind (each_length h)) (λ _ _ _.
        by_tests rel.position (takes_expressions kind) (takes_expressions kind) refl (from_expressions_alike kind h k) (from_literals_alike kind h k))

  -- ---- attributes that an item has

  label_alike : {x : Attribute A B} {x' : Attribute A' B'} → AlikeAttribute rel x x' → AlikeOption (AlikeQuoted rel) (label_of view x) (label_of view' x')
  label_alike (alike.plain kind) = absent
  label_alike (alike.single kind e) = absent
  label_alike (alike.texts attributes.Group qs) = first_alike qs
  label_alike (alike.texts kind qs) = absent
  label_alike (alike.arg r) = present r.name
  label_alike _ = absent

  labels_alike : {p q : Option (Quoted A)} {p' q' : Option (Quoted A')} → AlikeOption (AlikeQuoted rel) p p' → AlikeOption (AlikeQuoted rel) q q'
      → same_label view p q ≡ same_label view' p' q'
  labels_alike absent k = refl
  labels_alike (present h) absent = refl
  labels_alike (present h) (present k) = λ i. same_text view (same_quoted_text h i) (same_quoted_text k i)

  pub excludes_alike : {x y : Attribute A B} {x' y' : Attribute A' B'} → AlikeAttribute rel x x' → AlikeAttribute rel y y'
      → excludes view x y ≡ excludes view' x' y'
  excludes_alike h k =
      λ i. same_attribute (same_kind rel h i) (same_kind rel k i) && (not (is_repeatable (same_kind rel h i)) || labels_alike (label_alike h) (label_alike k) i)

  pub duplicate_alike : {n f : B} {n' f' : B'} {x : Attribute A B} {x' : Attribute A' B'} → rel.position n n' → AlikeAttribute rel x x' → rel.position f f'
      → AlikeRule rel.position (duplicate_rule view n x f) (duplicate_rule view' n' x' f')
  duplicate_alike n (alike.texts attributes.Group a.nil) f = broken.duplicate n f
  duplicate_alike n (alike.texts attributes.Group (a.cons q qs)) f = broken.duplicate_group (same_value q) (quoted_place q) f
  duplicate_alike n (alike.texts kind qs) f = broken.duplicate n f
  duplicate_alike n (alike.arg r) f = broken.duplicate_arg (same_text_of r.name) f
  duplicate_alike n _ f = broken.duplicate n f

  pub repeated_alike : {ds : List (Entry A B)} {ds' : List (Entry A' B')} {e : Entry A B} {e' : Entry A' B'} → Each (AlikeEntry rel) ds ds'
      → AlikeEntry rel e e'
      → Makes rel.position (Checks rel.position) (new.check_repeated view ds e) (new.check_repeated view' ds' e')
  repeated_alike a.nil k = made tt
  repeated_alike (a.cons h hs) k =
      by_tests rel.position _ _ (excludes_alike h.attribute k.attribute) (refused rel.position (duplicate_alike k.name k.attribute h.name) k.name) (repeated_alike hs k)

  pub new_entry_alike : {ds : List (Entry A B)} {ds' : List (Entry A' B')} {n : B} {n' : B'} (kind : AttributeKind) {ps : List (PositionalArgument A B)}
      {ps' : List (PositionalArgument A' B')} {ks : List (KeyArgument A B)} {ks' : List (KeyArgument A' B')}
      → Each (AlikeEntry rel) ds ds' → rel.position n n' → Each (AlikePositional rel) ps ps' → Each (AlikeKey rel) ks ks'
      → Makes rel.position (AlikeEntry rel) (new.new_entry view ds n kind ps ks) (new.new_entry view' ds' n' kind ps' ks')
  new_entry_alike {n} {n'} kind d place h k =
      step rel.position _ _ (new_attribute_alike n n' place kind h k)
      (λ x x' j. step rel.position _ _ (repeated_alike d (record { name = place; attribute = j; comment = refl }))
      (λ _ _ _. made (record { name = place; attribute = j; comment = refl })))

  -- ---- by the item

  is_invalid : (item : ItemKind) (e : Entry A B) (e' : Entry A' B') → AlikeEntry rel e e'
      → not (is_allowed item (kind_of_attribute e.attribute)) ≡ not (is_allowed item (kind_of_attribute e'.attribute))
  is_invalid item e e' h i = not (is_allowed item (same_kind rel h.attribute i))

  pub invalid_alike : (item : ItemKind) {es : List (Entry A B)} {es' : List (Entry A' B')} → Each (AlikeEntry rel) es es'
      → AlikeOption (AlikeEntry rel) (first_invalid view item es) (first_invalid view' item es')
  invalid_alike item h = found_alike _ _ (is_invalid item) h

  pub allowed_alike : (item : ItemKind) {n : B} {n' : B'} {es : List (Entry A B)} {es' : List (Entry A' B')} → rel.position n n' → Each (AlikeEntry rel) es es'
      → Each (AlikeBroken rel.position) (allowed_broken view item n es) (allowed_broken view' item n' es')
  allowed_alike item n h =
      listed_alike _ _ (λ e e' k. a.cons (record { rule = broken.invalid_attribute (same_kind rel k.attribute); token = n }) a.nil) (invalid_alike item h)

  rules_in_alike : {x : Attribute A B} {x' : Attribute A' B'} → AlikeAttribute rel x x'
      → AlikeOption (AlikeArgumentRules rel) (rules_in x) (rules_in x')
  rules_in_alike (alike.plain kind) = absent
  rules_in_alike (alike.arg r) = present r
  rules_in_alike _ = absent

  pub arg_rules_alike : {es : List (Entry A B)} {es' : List (Entry A' B')} → Each (AlikeEntry rel) es es'
      → Each (AlikeArgumentRules rel) (arg_rules es) (arg_rules es')
  arg_rules_alike h = each_given _ _ (λ e e' k. rules_in_alike k.attribute) h
