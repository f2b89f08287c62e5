-- Related attributes, as they are written, break related rules.
use Rattle.std.proofs.Common.{◌≡◌, ℕ, Bool, true, false, not, ◌&&◌, ◌||◌, ◌==◌, ◌++◌, nat_lt, List, [], ◌∷◌, codes, length, slice_index, Option, Some, None, is_some, if◌then◌else◌, refl, ap, subst}
use Rattle.std.specs.List.{flat_map, list_any}
use Rattle.std.specs.Str.{bytes_eq, chars}
use Rattle.justfile_vocabulary.specs.AttributeKind.{kind_named}
use Rattle.justfile_vocabulary.specs.Signal.{signal_named}
use Rattle.justfile_vocabulary.specs.declared.attribute_kind.AttributeKind.{AttributeKind}
use Rattle.justfile_vocabulary.specs.declared.attribute_kind.AttributeKind.TheVariants as kinds
use Rattle.justfile_model.specs.Meanings.AttributeKinds.{known_keys, least_count, most_count, takes_expressions}
use Rattle.justfile_model.specs.Meanings.AttributeRules.{arg_broken, arguments_broken, attribute_broken, attributes_broken, bound_broken, count_broken, count_text_broken, duplicate_broken, duplicates_broken, exceeds_broken, expression_broken, expressions_broken, flag_broken, has, has_more, kind_broken, literal_broken, missing_broken, multiple_broken, named_broken, number_of, of_some, option_broken, option_key_broken, order_broken, repeats_broken, signal_broken, unknown_broken, value_broken, wants_option}
use Rattle.justfile_model.specs.Meanings.Meaning.{KeyArgument, PositionalArgument, at_key, count_of, entry_of, is_count, quoted_text}
use Rattle.justfile_model.specs.Meanings.Rules.{ArgumentCountParse, ArgumentCountValue, Broken, broken_if}
use Rattle.justfile_model.specs.Trees.LeafView.{LeafView}
use Rattle.justfile_model.specs.Trees.Tree.{Argument, Entry, Expr, Quoted, WrittenAttribute}
use Rattle.justfile_model.proofs.Lists.EachLaws.{AlikeOption, found_alike, kept_alike, least_alike, listed_alike, same_some}
use Rattle.justfile_model.proofs.Relations.AlikeAttributes as alike
use Rattle.justfile_model.proofs.Relations.AlikeAttributes.{AlikeArgument, AlikeEntry, AlikeKey, AlikePositional, AlikeQuoted, AlikeWritten, SeesAlike, keys_alike, positions_alike, quoted_alike}
use Rattle.justfile_model.proofs.Relations.AlikeMeanings.{entry_alike}
use Rattle.justfile_model.proofs.Relations.AlikeRecipes.{broken_if_alike, each_flat}
use Rattle.justfile_model.proofs.Relations.AlikeRules as broken
use Rattle.justfile_model.proofs.Relations.AlikeRules.{AlikeBroken, AlikeRule}
use Rattle.justfile_model.proofs.Relations.NewAttributesAlike as new
use Rattle.justfile_model.proofs.Relations.NewAttributesAlike.{same_option}
use Rattle.justfile_model.proofs.Relations.Related as a
use Rattle.justfile_model.proofs.Relations.Related.{Alike, Each, Relations, each_both, each_length}

module _ {R T A B S D R' T' A' B' S' D' : Type 0} (rel : Relations R T A B S D R' T' A' B' S' D') (view : LeafView A B) (view' : LeafView A' B')
    (sees : SeesAlike rel view view') where
  -- related rules are broken
  abbrev Breaks : List (Broken B) → List (Broken B') → Type 0
  Breaks = Each (AlikeBroken rel.position)

  -- what is broken by an argument with a key
  abbrev Carried : (KeyArgument A B → List (Broken B)) → (KeyArgument A' B' → List (Broken B')) → Type 0
  Carried rules rules' = (k : KeyArgument A B) (k' : KeyArgument A' B') → AlikeKey rel k k' → Breaks (rules k) (rules' k')

  -- what is broken by a literal with its text
  abbrev Texted : (Quoted A → List ℕ → List (Broken B)) → (Quoted A' → List ℕ → List (Broken B')) → Type 0
  Texted rules rules' = (q : Quoted A) (q' : Quoted A') → AlikeQuoted rel q q' → (text text' : List ℕ) → text ≡ text' → Breaks (rules q text) (rules' q' text')

  key_place : {k : KeyArgument A B} {k' : KeyArgument A' B'} → AlikeKey rel k k' → rel.position (view.place k.key) (view'.place k'.key)
  key_place h = new.key_place rel view view' sees h

  quoted_place : {q : Quoted A} {q' : Quoted A'} → AlikeQuoted rel q q' → rel.position (view.place q.token) (view'.place q'.token)
  quoted_place h = new.quoted_place rel view view' sees h

  -- the rules of a literal's text, if there is one
  texts_alike : (rules : Quoted A → List ℕ → List (Broken B)) (rules' : Quoted A' → List ℕ → List (Broken B')) → Texted rules rules'
      → {o : Option (Quoted A)} {o' : Option (Quoted A')} → AlikeOption (AlikeQuoted rel) o o'
      → Breaks (of_some (λ q. of_some (rules q) (quoted_text view q)) o) (of_some (λ q. of_some (rules' q) (quoted_text view' q)) o')
  texts_alike rules rules' f h =
      listed_alike _ _ (λ q q' j. listed_alike (rules q) (rules' q') (f q q' j) (same_option _ _ (new.same_quoted_text rel view view' sees j))) h

  module _ (at : B) (at' : B') (place : rel.position at at') where
    missing_alike : Carried (missing_broken view at) (missing_broken view' at')
    missing_alike k k' h = broken_if_alike rel.position _ _ (λ i. not (same_some h.value i)) (broken.missing_value (key_place h)) (key_place h)

    count_alike : (kind : AttributeKind) {found found' : ℕ} → found ≡ found' → Breaks (count_broken view at kind found) (count_broken view' at' kind found')
    count_alike kind e =
        broken_if_alike rel.position _ _ (λ i. nat_lt (e i) (least_count kind) || has_more (e i) (most_count kind)) (broken.count_mismatch place e) place

    expressions_alike : (kind : AttributeKind) {ps : List (PositionalArgument A B)} {ps' : List (PositionalArgument A' B')} → Each (AlikePositional rel) ps ps'
        → Breaks (expressions_broken view at kind ps) (expressions_broken view' at' kind ps')
    expressions_alike kind {ps} {ps'} h = within (takes_expressions kind)
      where
        within : (b : Bool) → Breaks (if b then [] else flat_map (expression_broken view at) ps) (if b then [] else flat_map (expression_broken view' at') ps')
        within true = a.nil
        within false =
            each_flat _ _
            (λ p p' j. broken_if_alike rel.position _ _ (λ i. not (same_some (quoted_alike rel j.value) i)) (broken.argument_expression place) j.first) h

    order_alike : (after : Bool) {xs : List (Argument A B)} {xs' : List (Argument A' B')} → Each (AlikeArgument rel) xs xs'
        → Breaks (order_broken view at after xs) (order_broken view' at' after xs')
    order_alike after a.nil = a.nil
    order_alike after (a.cons (alike.positional b e) hs) =
        each_both (broken_if_alike rel.position after after refl broken.positional_follows b) (order_alike after hs)
    order_alike after (a.cons (alike.bare k) hs) = order_alike true hs
    order_alike after (a.cons (alike.keyed k e) hs) = order_alike true hs

    repeats_alike : {before keys : List (KeyArgument A B)} {before' keys' : List (KeyArgument A' B')} → Each (AlikeKey rel) before before'
        → Each (AlikeKey rel) keys keys' → Breaks (repeats_broken view at before keys) (repeats_broken view' at' before' keys')
    repeats_alike b a.nil = a.nil
    repeats_alike {before = before} {before' = before'} b (a.cons {x = k} {y = k'} h hs) =
        each_both
        (broken_if_alike rel.position _ _
        (same_some (found_alike _ _ (λ d d' j i. bytes_eq (new.key_bytes rel view view' sees d d' j i) (new.key_bytes rel view view' sees k k' h i)) b))
        (broken.duplicate_key place (key_place h)) (key_place h))
        (repeats_alike {before = before ++ k ∷ []} {before' = before' ++ k' ∷ []} (each_both b (a.cons h a.nil)) hs)

    unknown_alike : (kind : AttributeKind) {keys : List (KeyArgument A B)} {keys' : List (KeyArgument A' B')} → Each (AlikeKey rel) keys keys'
        → Breaks (unknown_broken view at kind keys) (unknown_broken view' at' kind keys')
    unknown_alike kind h =
        let same = new.key_bytes rel view view' sees in
        listed_alike _ _ (λ k k' j. a.cons (record { rule = broken.unknown_key place (key_place j); token = key_place j }) a.nil)
        (least_alike _ _ same (kept_alike _ _ (λ k k' j i. not (list_any (bytes_eq (same k k' j i)) (known_keys kind))) h))

    literal_alike : (rules : Quoted A → List ℕ → List (Broken B)) (rules' : Quoted A' → List ℕ → List (Broken B')) → Texted rules rules'
        → {k : A} {k' : A'} → rel.name k k' → (e : Expr A B) (e' : Expr A' B') → Alike rel e e'
        → Breaks (literal_broken view at rules k e) (literal_broken view' at' rules' k' e')
    literal_alike rules rules' f {k} {k'} h e e' j =
        each_both
        (broken_if_alike rel.position _ _ (λ i. not (same_some (quoted_alike rel j) i)) (broken.argument_expression place) (sees.name_place k k' h))
        (texts_alike rules rules' f (quoted_alike rel j))

    signal_alike : Texted (signal_broken view at) (signal_broken view' at')
    signal_alike q q' j text text' e = broken_if_alike rel.position _ _ (λ i. not (is_some (signal_named (e i)))) (broken.invalid_signal e) (quoted_place j)

    module _ (argument argument' : List ℕ) (same : argument ≡ argument') (keys : List (KeyArgument A B)) (keys' : List (KeyArgument A' B'))
        (ks : Each (AlikeKey rel) keys keys') where
      same_has : (word : List ℕ) → has view at argument keys word ≡ has view' at' argument' keys' word
      same_has word = same_some (new.key_found rel view view' sees word ks)

      option_alike : (is_short : Bool) → Texted (option_broken view at argument keys is_short) (option_broken view' at' argument' keys' is_short)
      option_alike is_short q q' j option option' e =
          each_both
          (each_both
          (each_both (broken_if_alike rel.position _ _ (λ i. list_any (λ b. b == 61) (e i)) (broken.has_equal_sign same) (quoted_place j))
          (broken_if_alike rel.position _ _ (λ i. slice_index (e i) 0 == 45) (broken.has_dash same) (quoted_place j)))
          (broken_if_alike rel.position _ _ (λ i. length (e i) == 0) (broken.empty_name same) (quoted_place j)))
          (broken_if_alike rel.position _ _ (λ i. is_short && not (length (chars (e i)) == 1)) (broken.long_short same) (quoted_place j))

      option_key_alike : (is_short : Bool) → Carried (option_key_broken view at argument keys is_short) (option_key_broken view' at' argument' keys' is_short)
      option_key_alike is_short k k' h = listed_alike _ _ (literal_alike _ _ (option_alike is_short) h.key) h.value

      count_text_alike : {k : A} {k' : A'} → rel.name k k'
          → Texted (count_text_broken view at argument keys k) (count_text_broken view' at' argument' keys' k')
      count_text_alike {k} {k'} h q q' j text text' e =
          subst (λ t. Breaks (count_text_broken view at argument keys k q text) (count_text_broken view' at' argument' keys' k' q' t)) e (within (is_count text))
        where
          within : (b : Bool)
              → Breaks (if b then broken_if (not (is_some (count_of text))) (ArgumentCountParse (view.place k) text) (view.place q.token)
              else broken_if true (ArgumentCountValue (view.place k) text) (view.place q.token))
              (if b then broken_if (not (is_some (count_of text))) (ArgumentCountParse (view'.place k') text) (view'.place q'.token)
              else broken_if true (ArgumentCountValue (view'.place k') text) (view'.place q'.token))
          within true = broken_if_alike rel.position _ _ refl (broken.big_count (sees.name_place k k' h) refl) (quoted_place j)
          within false = broken_if_alike rel.position true true refl (broken.no_count (sees.name_place k k' h) refl) (quoted_place j)

      bound_alike : Carried (bound_broken view at argument keys) (bound_broken view' at' argument' keys')
      bound_alike k k' h = each_both (missing_alike k k' h) (listed_alike _ _ (literal_alike _ _ (count_text_alike h.key) h.key) h.value)

      wants_alike : Carried (wants_option view at argument keys) (wants_option view' at' argument' keys')
      wants_alike k k' h =
          broken_if_alike rel.position _ _ (λ i. not (same_has (codes "long") i) && not (same_has (codes "short") i)) (broken.requires_option (key_place h))
          (key_place h)

      value_alike : Carried (value_broken view at argument keys) (value_broken view' at' argument' keys')
      value_alike k k' h = each_both (missing_alike k k' h) (wants_alike k k' h)

      flag_alike : Carried (flag_broken view at argument keys) (flag_broken view' at' argument' keys')
      flag_alike k k' h =
          each_both
          (each_both (each_both (broken_if_alike rel.position _ _ (same_some h.value) (broken.flag_value same) (key_place h)) (wants_alike k k' h))
          (broken_if_alike rel.position _ _ (same_has (codes "value")) (broken.flag_and_value same) (key_place h)))
          (broken_if_alike rel.position _ _ (same_has (codes "pattern")) (broken.flag_and_pattern same) (key_place h))

      multiple_alike : Carried (multiple_broken view at argument keys) (multiple_broken view' at' argument' keys')
      multiple_alike k k' h =
          each_both (broken_if_alike rel.position _ _ (same_some h.value) (broken.takes_no_value (key_place h)) (key_place h)) (wants_alike k k' h)

      number_alike : {k : KeyArgument A B} {k' : KeyArgument A' B'} → AlikeKey rel k k'
          → Each (λ (n m : ℕ). n ≡ m) (number_of view at argument keys k) (number_of view' at' argument' keys' k')
      number_alike h =
          listed_alike _ _ (λ v v' e. listed_alike _ _ (λ q q' j. listed_alike _ _ (λ t t' s. listed_alike _ _ (λ n n' d. a.cons d a.nil)
          (same_option (count_of t) (count_of t') (ap count_of s))) (same_option _ _ (new.same_quoted_text rel view view' sees j))) (quoted_alike rel e)) h.value

      exceeds_alike : {min : KeyArgument A B} {min' : KeyArgument A' B'} → AlikeKey rel min min'
          → Carried (exceeds_broken view at argument keys min) (exceeds_broken view' at' argument' keys' min')
      exceeds_alike least k k' h =
          each_flat _ _ (λ n n' e. each_flat _ _ (λ m m' d. broken_if_alike rel.position _ _ (λ i. nat_lt (d i) (e i)) (broken.min_exceeds e d) (key_place least))
          (number_alike h)) (number_alike least)

      -- the key with this name
      at_key_alike : (word : List ℕ) (rules : KeyArgument A B → List (Broken B)) (rules' : KeyArgument A' B' → List (Broken B')) → Carried rules rules'
          → Breaks (of_some rules (at_key view word keys)) (of_some rules' (at_key view' word keys'))
      at_key_alike word rules rules' f = listed_alike rules rules' f (new.key_found rel view view' sees word ks)

      arg_alike : Breaks (arg_broken view at argument keys) (arg_broken view' at' argument' keys')
      arg_alike =
          each_both (each_both (each_both (each_both (each_both (each_both (each_both (each_both (each_both
          (at_key_alike (codes "long") _ _ (option_key_alike false))
          (at_key_alike (codes "short") _ _ (option_key_alike true)))
          (at_key_alike (codes "pattern") _ _ missing_alike))
          (at_key_alike (codes "value") _ _ value_alike))
          (at_key_alike (codes "flag") _ _ flag_alike))
          (at_key_alike (codes "multiple") _ _ multiple_alike))
          (at_key_alike (codes "max") _ _ bound_alike))
          (at_key_alike (codes "min") _ _ bound_alike))
          (at_key_alike (codes "min") _ _ (λ min min' h. at_key_alike (codes "max") _ _ (exceeds_alike h))))
          (at_key_alike (codes "help") _ _ missing_alike)

    kind_alike : (kind : AttributeKind) {ps : List (PositionalArgument A B)} {ps' : List (PositionalArgument A' B')} {ks : List (KeyArgument A B)}
        {ks' : List (KeyArgument A' B')} → Each (AlikePositional rel) ps ps' → Each (AlikeKey rel) ks ks'
        → Breaks (kind_broken view at kind ps ks) (kind_broken view' at' kind ps' ks')
    kind_alike kinds.Arg {ks} {ks'} h k =
        each_flat _ _ (λ p p' j. texts_alike _ _ (λ q q' l text text' e. arg_alike text text' e ks ks' k) (quoted_alike rel j.value)) h
    kind_alike kinds.Cache {ks} {ks'} h k =
        let missing = λ (word : List ℕ). listed_alike _ _ missing_alike (new.key_found rel view view' sees word k) in
        each_both (each_both (missing (codes "extra")) (missing (codes "inputs"))) (missing (codes "outputs"))
    kind_alike kinds.Continue h k = each_flat _ _ (λ p p' j. texts_alike _ _ signal_alike (quoted_alike rel j.value)) h
    kind_alike kind h k = a.nil

    -- what an attribute breaks by its arguments
    pub arguments_alike : (kind : AttributeKind) {ps : List (PositionalArgument A B)} {ps' : List (PositionalArgument A' B')} {ks : List (KeyArgument A B)}
        {ks' : List (KeyArgument A' B')} → Each (AlikePositional rel) ps ps' → Each (AlikeKey rel) ks ks'
        → Breaks (arguments_broken view at kind ps ks) (arguments_broken view' at' kind ps' ks')
    arguments_alike kind h k =
        each_both (each_both (each_both (count_alike kind (each_length h)) (expressions_alike kind h)) (kind_alike kind h k)) (unknown_alike kind k)

  -- ---- an attribute as it is written

  named_alike : (w : WrittenAttribute A B) (w' : WrittenAttribute A' B') → AlikeWritten rel w w' → (o : Option AttributeKind)
      → Breaks (named_broken view w o) (named_broken view' w' o)
  named_alike w w' h None =
      let place = sees.name_place w.name w'.name h.name in a.cons (record { rule = broken.unknown_attribute place; token = place }) a.nil
  named_alike w w' h (Some kind) =
      let place = sees.name_place w.name w'.name h.name in
      let keys = keys_alike rel h.arguments in
      each_both (each_both (order_alike _ _ place false h.arguments) (repeats_alike _ _ place a.nil keys))
      (arguments_alike _ _ place kind (positions_alike rel h.arguments) keys)

  -- what one attribute breaks
  pub attribute_broken_alike : (w : WrittenAttribute A B) (w' : WrittenAttribute A' B') → AlikeWritten rel w w' → Breaks (attribute_broken view w) (attribute_broken view' w')
  attribute_broken_alike w w' h =
      subst (λ bytes. Breaks (attribute_broken view w) (named_broken view' w' (kind_named bytes))) (sees.bytes w.name w'.name h.name)
      (named_alike w w' h (kind_named (view.bytes w.name)))

  -- ---- what excludes what

  duplicate_alike : {before : List (Entry A B)} {before' : List (Entry A' B')} → Each (AlikeEntry rel) before before' → (e : Entry A B) (e' : Entry A' B')
      → AlikeEntry rel e e' → Breaks (duplicate_broken view before e) (duplicate_broken view' before' e')
  duplicate_alike b e e' h =
      listed_alike _ _
      (λ first first' j. a.cons (record { rule = new.duplicate_alike rel view view' sees h.name h.attribute j.name; token = h.name }) a.nil)
      (found_alike _ _ (λ d d' j. new.excludes_alike rel view view' sees j.attribute h.attribute) b)

  pub duplicates_alike : {before : List (Entry A B)} {before' : List (Entry A' B')} {ws : List (WrittenAttribute A B)} {ws' : List (WrittenAttribute A' B')}
      → Each (AlikeEntry rel) before before' → Each (AlikeWritten rel) ws ws' → Breaks (duplicates_broken view before ws) (duplicates_broken view' before' ws')
  duplicates_alike b a.nil = a.nil
  duplicates_alike {before = before} {before' = before'} b (a.cons {x = w} {y = w'} h hs) =
      let meant = entry_alike rel view view' sees w w' h in
      each_both (listed_alike _ _ (duplicate_alike b) meant)
      (duplicates_alike {before = before ++ of_some (λ e. e ∷ []) (entry_of view w)} {before' = before' ++ of_some (λ e. e ∷ []) (entry_of view' w')}
      (each_both b (listed_alike _ _ (λ e e' j. a.cons j a.nil) meant)) hs)

  -- what the attributes of an item break
  pub attributes_broken_alike : {ws : List (WrittenAttribute A B)} {ws' : List (WrittenAttribute A' B')} → Each (AlikeWritten rel) ws ws'
      → Breaks (attributes_broken view ws) (attributes_broken view' ws')
  attributes_broken_alike h = each_both (each_flat _ _ attribute_broken_alike h) (duplicates_alike a.nil h)
