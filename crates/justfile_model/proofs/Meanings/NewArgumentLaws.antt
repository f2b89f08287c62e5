-- What is made of the arguments of `arg` is their meaning, and an error is a rule that is broken.
use Rattle.std.proofs.Common.{◌≡◌, ◌∙◌, ℕ, List, [], ◌∷◌, ◌++◌, Bool, true, false, not, cond, ◌&&◌, nat_lt, codes, Option, Some, None, Ok, is_some, refl, sym, ap, subst, true≢false}
use Rattle.std.specs.List.{AllByRecursion, find, flat_map}
use Rattle.std.proofs.lemmas.List.{append-nil}
use Rattle.std.proofs.lemmas.List.Elements.{recursion_from_All}
use Rattle.justfile_model.specs.Meanings.ArgumentTexts.{ValueHasText, KeysHaveTexts}
use Rattle.justfile_model.specs.Meanings.AttributeRules.{arg_broken, has, bound_broken, exceeds_broken, flag_broken, key_broken, multiple_broken, number_of, of_some, option_broken, option_key_broken, value_broken, missing_broken, wants_option}
use Rattle.justfile_model.specs.Meanings.Meaning as means
use Rattle.justfile_model.specs.Meanings.Meaning.{KeyArgument, PositionalArgument, at_key, bare_key, bare_of, bound_of, is_key, count_of, is_count, of_given, option_at, option_named, property_of, quoted, quoted_text, rules_of, text_of, value_of}
use Rattle.justfile_model.specs.Readers.NewAttribute as new
use Rattle.justfile_model.specs.Readers.NewAttribute.{Made, bound, check, check_bounds, check_has_option, flag, if_given, is_option, multiple, new_rules, option, option_by, option_value, or_refuse, property, required}
use Rattle.justfile_model.specs.Meanings.Rules.{ArgAttributeMinExceedsMax, ArgAttributeRequiresOption, ArgumentCountParse, ArgumentCountValue, Broken, FlagAndPatternArgAttribute, FlagAndValueArgAttribute, FlagAttributeTakesNoValue, Rule, broken_if}
use Rattle.justfile_model.specs.Trees.LeafView.{LeafView, or_empty}
use Rattle.justfile_model.specs.Trees.Tree as tree
use Rattle.justfile_model.specs.Trees.Tree.{Bound, Expr, OptionName, Quoted}
use Rattle.justfile_model.proofs.Lists.Binds.{bind_back, some_back}
use Rattle.justfile_model.proofs.Meanings.NewAttributeSteps.{Agrees, given_is_there, if_there, last_check, last_some, last_step, parts_after, parts_are, refused_first, agreed, one_check, one_some, step, step_check, step_some, then_is, unasked}

-- what holds for all elements holds for the element that is found
pub found_has : {X : Type 0} (P : X → Type 0) (test : X → Bool) (xs : List X) (x : X) → AllByRecursion P xs → find test xs ≡ Some x → P x
found_has P test [] x h e = absurd (true≢false (sym (ap is_some e)))
found_has {X} P test (y ∷ ys) x h e = go (test y) e (found_has P test ys x h.1)
  where
    go : (b : Bool) → cond b (Some y) (find test ys) ≡ Some x → (find test ys ≡ Some x → P x) → P x
    go true e later = let same : y ≡ x = cc in subst P same h.0
    go false e later = later e

-- the number of a text that is there
pub text_counts : (o : Option (List ℕ)) (n : ℕ) → count_of (or_empty o) ≡ Some n → of_some (λ text. of_some (λ n. n ∷ []) (count_of text)) o ≡ n ∷ []
text_counts None n e = cc
text_counts (Some text) n e = ap (of_some (λ n. n ∷ [])) e

module _ {A B : Type 0} (view : LeafView A B) (at : B) (T : Type 0) where
  -- what is done with the text of a literal
  pub with_text : {Y : Type 0} (q : Quoted A) (f : List ℕ → Made B Y) (p : List ℕ → Option Y) (l : List ℕ → List (Broken B))
      → (T → is_some (quoted_text view q) ≡ true) → ((s : List ℕ) → Agrees T (f s) (p s) (l s))
      → Agrees T (f (text_of view q)) (p (text_of view q)) (of_some l (quoted_text view q))
  with_text q f p l there h = go (quoted_text view q) there
    where
      go : (o : Option (List ℕ)) → (T → is_some o ≡ true) → Agrees T (f (or_empty o)) (p (or_empty o)) (of_some l o)
      go None t = unasked (λ x. true≢false (sym (t x))) (h [])
      go (Some s) t = h s

  -- ---- names of options

  -- one check of four refuses, or none
  four_checks : {Y : Type 0} (a b c d : Bool) (p q r s : Rule B) (token : B) (y : Y)
      → Agrees T
      (new.◌>>=◌ (new.◌>>=◌ (check a p token) (λ x. new.◌>>=◌ (check b q token) (λ y. check c r token)))
      (λ x. new.◌>>=◌ (check d s token) (λ z. Ok y)))
      (Some y) (broken_if a p token ++ broken_if b q token ++ broken_if c r token ++ broken_if d s token)
  four_checks true b c d p q r s token y = refused_first p token (Some y) (broken_if b q token ++ broken_if c r token ++ broken_if d s token)
  four_checks false true c d p q r s token y = refused_first q token (Some y) (broken_if c r token ++ broken_if d s token)
  four_checks false false true d p q r s token y = refused_first r token (Some y) (broken_if d s token)
  four_checks false false false d p q r s token y = last_check d s token (λ e. refl)

  module _ (argument : List ℕ) (keys : List (KeyArgument A B)) where
    option_named_as_meant : (is_short : Bool) (key : A) (v : Option (Expr A B)) → (T → ValueHasText view v)
        → Agrees T (option_by view at argument is_short key v) (option_named view key v)
        (option_key_broken view at argument keys is_short (record { key = key; value = v }))
    option_named_as_meant is_short key None h = agreed _ _ [] refl refl
    option_named_as_meant is_short key (Some value) h =
        step_some (quoted value) _ _ (λ q e.
        with_text q _ (λ s. Some (tree.Named q)) (option_broken view at argument keys is_short q) (λ t. h t value refl q e)
        (λ s. four_checks _ _ _ _ _ _ _ _ _ (tree.Named q)))

    pub option_as_meant : (is_short : Bool) (o : Option (KeyArgument A B)) → (T → (k : KeyArgument A B) → o ≡ Some k → ValueHasText view k.value)
        → Agrees T (option view at argument is_short o) (option_at view o) (of_some (option_key_broken view at argument keys is_short) o)
    option_as_meant is_short None h = agreed _ _ [] refl refl
    option_as_meant is_short (Some k) h = option_named_as_meant is_short k.key k.value (λ t. h t k refl)

    -- ---- numbers

    abbrev bound_at : (key : A) → ℕ → Bound B
    bound_at key n = record { key = view.place key; number = n }

    -- the text is, or is not, a number as it is written
    count_as_meant : (is_count : Bool) (key : A) (q : Quoted A) (s : List ℕ)
        → Agrees T
        (new.◌>>=◌ (check (not is_count) (ArgumentCountValue (view.place key) s) (view.place q.token))
        (λ digits. new.◌>>=◌ (or_refuse (count_of s) (ArgumentCountParse (view.place key) s) (view.place q.token)) (λ n. Ok (bound_at key n))))
        (means.◌>>=◌ (count_of s) (λ n. Some (bound_at key n)))
        (cond is_count (broken_if (not (is_some (count_of s))) (ArgumentCountParse (view.place key) s) (view.place q.token))
        (broken_if true (ArgumentCountValue (view.place key) s) (view.place q.token)))
    count_as_meant true key q s = last_some (count_of s) _ _ (bound_at key)
    count_as_meant false key q s = refused_first _ _ _ []

    pub bound_as_meant : (k : KeyArgument A B) → (T → ValueHasText view k.value)
        → Agrees T (bound view at argument k) (bound_of view k) (bound_broken view at argument keys k)
    bound_as_meant k h =
        step_some k.value _ _ (λ value v. step_some (quoted value) _ _ (λ q e.
        with_text q _ _ _ (λ t. h t value v q e) (λ s. count_as_meant (is_count s) k.key q s)))

    -- ---- keys of other options

    abbrev wants : (long short : Bool) → KeyArgument A B → List (Broken B)
    wants long short k = broken_if (not long && not short) (ArgAttributeRequiresOption (view.place k.key)) (view.place k.key)

    -- whether there are options, as it was read and as it is written
    record Options (long short : OptionName A B) : Type 0 where
      long_is : is_option view at argument long ≡ has view at argument keys (codes "long")
      short_is : is_option view at argument short ≡ has view at argument keys (codes "short")

    wanted_as_meant : (long short : OptionName A B) → Options long short → (k : KeyArgument A B)
        → Agrees T (check_has_option view at argument long short k) (Some tt) (wants_option view at argument keys k)
    wanted_as_meant long short h k =
        subst (Agrees T (check_has_option view at argument long short k) (Some tt)) (λ i. wants (h.long_is i) (h.short_is i) k) (one_check _ _ _)

    value_as_meant : (long short : OptionName A B) → Options long short → (k : KeyArgument A B)
        → Agrees T (option_value view at argument long short k) (value_of view k) (value_broken view at argument keys k)
    value_as_meant long short h k = step (one_some k.value _ _) (λ value v. last_step (wanted_as_meant long short h k) (λ x e. v))

    bare_is : (k : KeyArgument A B) → is_some k.value ≡ false → bare_of view k ≡ Some (view.place k.key)
    bare_is k e = go k.value e
      where
        go : (v : Option (Expr A B)) → is_some v ≡ false → bare_key view k.key v ≡ Some (view.place k.key)
        go None e = refl
        go (Some value) e = absurd (true≢false e)

    multiple_as_meant : (long short : OptionName A B) → Options long short → (k : KeyArgument A B)
        → Agrees T (multiple view at argument long short k) (bare_of view k) (multiple_broken view at argument keys k)
    multiple_as_meant long short h k = step_check (is_some k.value) _ _ (λ e. last_step (wanted_as_meant long short h k) (λ x y. bare_is k e))

    abbrev pattern_rules : (k : KeyArgument A B) (has_pattern : Bool) → List (Broken B)
    pattern_rules k has_pattern = broken_if has_pattern (FlagAndPatternArgAttribute argument) (view.place k.key)

    abbrev value_rules : (k : KeyArgument A B) (has_value : Bool) → List (Broken B)
    value_rules k has_value = broken_if has_value (FlagAndValueArgAttribute argument) (view.place k.key)

    abbrev bare_rules : (k : KeyArgument A B) → List (Broken B)
    bare_rules k = broken_if (is_some k.value) (FlagAttributeTakesNoValue argument) (view.place k.key)

    abbrev flag_rules : (k : KeyArgument A B) (has_value has_pattern : Bool) → List (List (Broken B))
    flag_rules k has_value has_pattern = wants_option view at argument keys k ∷ value_rules k has_value ∷ pattern_rules k has_pattern ∷ []

    flag_as_meant : (long short : OptionName A B) → Options long short → (has_value has_pattern : Bool)
        → has_value ≡ has view at argument keys (codes "value") → has_pattern ≡ has view at argument keys (codes "pattern") → (k : KeyArgument A B)
        → Agrees T (flag view at argument long short has_value has_pattern k) (bare_of view k) (flag_broken view at argument keys k)
    flag_as_meant long short h has_value has_pattern v p k =
        subst (Agrees T (flag view at argument long short has_value has_pattern k) (bare_of view k))
        (parts_are (bare_rules k) (flag_rules k has_value has_pattern) ∙ (λ i. parts_after (bare_rules k) (flag_rules k (v i) (p i))))
        (step_check (is_some k.value) _ _ (λ e. step (wanted_as_meant long short h k) (λ x y.
        step_check has_value _ _ (λ g. step_check has_pattern _ _ (λ h. agreed (view.place k.key) _ [] (bare_is k e) refl)))))

    property_as_meant : (k : KeyArgument A B) → Agrees T (property view at k) (property_of view k) (missing_broken view at k)
    property_as_meant k = last_some k.value _ _ _

    -- ---- the least number and the greatest

    record Numbered (k : KeyArgument A B) (b : Bound B) : Type 0 where
      number_is : number_of view at argument keys k ≡ b.number ∷ []
      key_is : b.key ≡ view.place k.key

    abbrev literal_numbers : Quoted A → List ℕ
    literal_numbers q = of_some (λ text. of_some (λ n. n ∷ []) (count_of text)) (quoted_text view q)

    numbered : (k : KeyArgument A B) (b : Bound B) → bound_of view k ≡ Some b → Numbered k b
    numbered k b e =
        let v = bind_back k.value _ b e in
        let q = bind_back (quoted v.first) _ b v.gives in
        let n = bind_back (count_of (text_of view q.first)) _ b q.gives in
        let same = some_back (bound_at k.key n.first) b n.gives in
        record {
          number_is = ap (of_some (λ value. of_some literal_numbers (quoted value))) v.is ∙ ap (of_some literal_numbers) q.is
              ∙ text_counts (quoted_text view q.first) n.first n.is ∙ ap (λ (b : Bound B). b.number ∷ []) same;
          key_is = ap (λ (b : Bound B). b.key) (sym same);
        }

    abbrev exceeds : (n m : ℕ) → B → List (Broken B)
    exceeds n m key = broken_if (nat_lt m n) (ArgAttributeMinExceedsMax n m) key

    exceeds_is : (low high : KeyArgument A B) (min max : Bound B) → Numbered low min → Numbered high max
        → exceeds_broken view at argument keys low high ≡ exceeds min.number max.number min.key
    exceeds_is low high min max h k =
        (λ i. flat_map (λ n. flat_map (λ m. exceeds n m (view.place low.key)) (k.number_is i)) (h.number_is i))
        ∙ append-nil (exceeds min.number max.number (view.place low.key) ++ [])
        ∙ append-nil (exceeds min.number max.number (view.place low.key))
        ∙ ap (exceeds min.number max.number) (sym h.key_is)

    record GivenOne (k : KeyArgument A B) (o : Option (Bound B)) : Type 0 where
      one : Bound B
      is : o ≡ Some one
      meant : bound_of view k ≡ Some one

    given_one : (k : KeyArgument A B) (o : Option (Bound B)) → of_given (bound_of view) (Some k) ≡ Some o → GivenOne k o
    given_one k o e =
        let g = bind_back (bound_of view k) (λ b. Some (Some b)) o e in
        record { one = g.first; is = sym (some_back (Some g.first) o g.gives); meant = g.is }

    bounds_as_meant : (low high : Option (KeyArgument A B)) (min max : Option (Bound B))
        → of_given (bound_of view) low ≡ Some min → of_given (bound_of view) high ≡ Some max
        → Agrees T (check_bounds view at argument min max) (Some tt) (of_some (λ low. of_some (exceeds_broken view at argument keys low) high) low)
    bounds_as_meant None high min max e f =
        let same : None ≡ min = cc in
        subst (λ m. Agrees T (check_bounds view at argument m max) (Some tt) []) same (agreed _ _ [] refl refl)
    bounds_as_meant (Some low) None min max e f =
        let same : None ≡ max = cc in
        subst (λ m. Agrees T (check_bounds view at argument min m) (Some tt) []) same (within min)
      where
        within : (min : Option (Bound B)) → Agrees T (check_bounds view at argument min None) (Some tt) []
        within None = agreed _ _ [] refl refl
        within (Some b) = agreed _ _ [] refl refl
    bounds_as_meant (Some low) (Some high) min max e f =
        let l = given_one low min e in
        let h = given_one high max f in
        let rules : exceeds_broken view at argument keys low high ≡ exceeds l.one.number h.one.number l.one.key =
        exceeds_is low high l.one h.one (numbered low l.one l.meant) (numbered high h.one h.meant) in
        rw (l.is, h.is, rules) (one_check (nat_lt h.one.number l.one.number) _ l.one.key)

    -- ---- all of them

    named_is : (key : A) (v : Option (Expr A B)) (o : OptionName A B) → option_named view key v ≡ Some o → is_option view at argument o ≡ true
    named_is key None o e = let same : tree.OwnName (view.place key) ≡ o = cc in ap (is_option view at argument) (sym same)
    named_is key (Some value) o e =
        let q = bind_back (quoted value) (λ name. Some (tree.Named name)) o e in
        ap (is_option view at argument) (sym (some_back (tree.Named q.first) o q.gives))

    option_is : (k : Option (KeyArgument A B)) (o : OptionName A B) → option_at view k ≡ Some o → is_option view at argument o ≡ is_some k
    option_is None o e = let same : tree.NoOption ≡ o = cc in ap (is_option view at argument) (sym same)
    option_is (Some k) o e = named_is k.key k.value o e

    abbrev found : List ℕ → Option (KeyArgument A B)
    found word = at_key view word keys

    text_at : (T → KeysHaveTexts view keys) → (word : List ℕ) → T → (k : KeyArgument A B) → found word ≡ Some k → ValueHasText view k.value
    text_at h word t k e = found_has (λ (k : KeyArgument A B). ValueHasText view k.value) (is_key view word) keys k (recursion_from_All _ keys (h t)) e

    abbrev by : (word : List ℕ) → (KeyArgument A B → List (Broken B)) → List (Broken B)
    by = key_broken view at argument keys

    abbrev later_rules : List (List (Broken B))
    later_rules =
        by (codes "short") (option_key_broken view at argument keys true)
        ∷ by (codes "pattern") (missing_broken view at)
        ∷ by (codes "value") (value_broken view at argument keys)
        ∷ by (codes "flag") (flag_broken view at argument keys)
        ∷ by (codes "multiple") (multiple_broken view at argument keys)
        ∷ by (codes "max") (bound_broken view at argument keys)
        ∷ by (codes "min") (bound_broken view at argument keys)
        ∷ by (codes "min") (λ min. by (codes "max") (exceeds_broken view at argument keys min))
        ∷ by (codes "help") (missing_broken view at)
        ∷ []

    pub rules_as_meant : (name : Quoted A) (texts : List (Quoted A)) → (T → KeysHaveTexts view keys)
        → Agrees T (new_rules view at argument name keys) (rules_of view (name ∷ texts) keys) (arg_broken view at argument keys)
    rules_as_meant name texts h =
        subst (Agrees T (new_rules view at argument name keys) (rules_of view (name ∷ texts) keys))
        (parts_are (by (codes "long") (option_key_broken view at argument keys false)) later_rules)
        (step (option_as_meant false (found (codes "long")) (text_at h (codes "long"))) (λ long is_long.
        step (option_as_meant true (found (codes "short")) (text_at h (codes "short"))) (λ short is_short.
        let options : Options long short = record { long_is = option_is _ long is_long; short_is = option_is _ short is_short } in
        step (if_there (found (codes "pattern")) (λ k e. property_as_meant k)) (λ pattern is_pattern.
        step (if_there (found (codes "value")) (λ k e. value_as_meant long short options k)) (λ value is_value.
        let value_there = given_is_there (value_of view) _ value is_value in
        let pattern_there = given_is_there (property_of view) _ pattern is_pattern in
        step (if_there (found (codes "flag")) (λ k e. flag_as_meant long short options (is_some value) (is_some pattern) value_there pattern_there k))
        (λ flag is_flag.
        step (if_there (found (codes "multiple")) (λ k e. multiple_as_meant long short options k)) (λ multiple is_multiple.
        step (if_there (found (codes "max")) (λ k e. bound_as_meant k (λ t. text_at h (codes "max") t k e))) (λ max is_max.
        step (if_there (found (codes "min")) (λ k e. bound_as_meant k (λ t. text_at h (codes "min") t k e))) (λ min is_min.
        step (bounds_as_meant (found (codes "min")) (found (codes "max")) min max is_min is_max) (λ bounds within.
        step (if_there (found (codes "help")) (λ k e. property_as_meant k)) (λ help is_help.
        agreed _ _ []
        (then_is _ is_flag (then_is _ is_help (then_is _ is_long (then_is _ is_max (then_is _ is_min
        (then_is _ is_multiple (then_is _ is_pattern (then_is _ is_short (then_is _ is_value refl))))))))) refl)))))))))))
