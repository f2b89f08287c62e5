-- The keys as which an `arg` attribute is printed mean the same for its parameter, and break no rule.
use Rattle.std.proofs.Common.{◌≡◌, ◌∙◌, ℕ, Bool, true, false, cond, not, ◌&&◌, nat_lt, List, [], ◌∷◌, ◌++◌, Option, Some, None, Ok, is_some, codes, decimal, if◌then◌else◌, refl, sym, ap, subst}
use Rattle.std.proofs.lemmas.Slice.Eq.{bytes_eq-Decides}
use Rattle.std.specs.List.{flat_map}
use Rattle.std.specs.Option.{option_map}
use Rattle.std.specs.Str.{bytes_eq}
use Rattle.justfile_model.specs.Meanings.AttributeRules.{of_some, missing_broken, option_key_broken, bound_broken, number_of, exceeds_broken, arg_broken}
use Rattle.justfile_model.specs.LiteralTexts.Literals.{Expansions, string_text}
use Rattle.justfile_model.specs.Meanings.Meaning.{◌>>=◌, of_given, quoted, is_count, count_of, quoted_text, text_of, at_key, property_of, value_of, bare_of, option_at, bound_of, rules_of}
use Rattle.justfile_model.specs.Printed.Printing.{fixed_text, number_literal}
use Rattle.justfile_model.specs.Meanings.Rules.{Broken, ArgAttributeRequiresOption, FlagAttributeTakesNoValue, FlagAndValueArgAttribute, FlagAndPatternArgAttribute, ArgAttributeMinExceedsMax, AttributeKeyTakesNoValue, ArgumentCountParse, ArgumentCountValue, broken_if}
use Rattle.justfile_model.specs.Trees.LeafView.{LeafView, views_lexemes, or_empty, text_or_none}
use Rattle.justfile_model.specs.Trees.Tree as tree
use Rattle.justfile_model.specs.Trees.Tree.{Expr, Quoted, OptionName, Property, Bound, ArgumentRules}
use Rattle.justfile_model.proofs.Lists.Binds.{some_back, never_some, bind_back, bind_is, nothing_in}
use Rattle.justfile_model.proofs.Meanings.MeaningParts.{ArgMeaning}
use Rattle.justfile_model.proofs.Meanings.NewArgumentLaws.{text_counts}
use Rattle.justfile_model.proofs.Printed.PrintedKeys.{Value, KeyOf, key_with, keys_in, or_else, look, at_key_in, option_value, property_value, bare_value, bound_value, expr_value, rules_rows, literal_of}
use Rattle.justfile_model.proofs.Printed.PrintedTexts.{count_is, counted, quoted_digits}

-- an expression that is a literal
pub quoted_back : (e : Value) (q : Quoted (List ℕ)) → quoted e ≡ Some q → e ≡ literal_of q
quoted_back (tree.StringLiteral expanded token) q e = ap literal_of (some_back (record { expanded = expanded; token = token }) q e)
quoted_back _ q e = never_some q e

abbrev pub value_in : KeyOf → Option Value
value_in k = k.value

or_nothing : {X : Type 0} (o : Option X) → or_else o None ≡ o
or_nothing None = refl
or_nothing (Some x) = refl

module _ (expander : Expansions) where
  abbrev view : LeafView (List ℕ) (Unit {0})
  view = views_lexemes expander

  -- ---- what is found at a key

  -- the key is the word, and its value is what it has
  pub named : (word : List ℕ) (keys : List KeyOf) → at_key view word keys ≡ option_map (key_with word) (option_map value_in (at_key view word keys))
  named word [] = refl
  named word (k ∷ keys) = within (bytes_eq k.key word) refl (named word keys)
    where
      within : (b : Bool) → bytes_eq k.key word ≡ b → at_key view word keys ≡ option_map (key_with word) (option_map value_in (at_key view word keys))
          → cond b (Some k) (at_key view word keys) ≡ option_map (key_with word) (option_map value_in (cond b (Some k) (at_key view word keys)))
      within true e h = λ i. Some (record { key = (bytes_eq-Decides k.key word).0 e i; value = k.value })
      within false e h = h

  bare_back : (o : Option KeyOf) (r : Option (Unit {0})) → of_given (bare_of view) o ≡ Some r → option_map value_in o ≡ bare_value r
  bare_back None r e = ap bare_value (some_back None r e)
  bare_back (Some k) r e = within k.value e
    where
      within : (v : Option Value) → of_given (bare_of view) (Some (key_with k.key v)) ≡ Some r → Some v ≡ bare_value r
      within None e = ap bare_value (some_back (Some tt) r e)
      within (Some x) e = never_some r e

  property_back : (o : Option KeyOf) (r : Option (Property (List ℕ) (Unit {0}))) → of_given (property_of view) o ≡ Some r
      → option_map value_in o ≡ property_value r
  property_back None r e = ap property_value (some_back None r e)
  property_back (Some k) r e = within k.value e
    where
      within : (v : Option Value) → of_given (property_of view) (Some (key_with k.key v)) ≡ Some r → Some v ≡ property_value r
      within None e = never_some r e
      within (Some x) e = ap property_value (some_back (Some (record { key = tt; value = x })) r e)

  value_back : (o : Option KeyOf) (r : Option Value) → of_given (value_of view) o ≡ Some r → option_map value_in o ≡ expr_value r
  value_back None r e = ap expr_value (some_back None r e)
  value_back (Some k) r e = within k.value e
    where
      within : (v : Option Value) → of_given (value_of view) (Some (key_with k.key v)) ≡ Some r → Some v ≡ expr_value r
      within None e = never_some r e
      within (Some x) e = ap expr_value (some_back (Some x) r e)

  option_back : (o : Option KeyOf) (r : OptionName (List ℕ) (Unit {0})) → option_at view o ≡ Some r → option_map value_in o ≡ option_value r
  option_back None r e = ap option_value (some_back tree.NoOption r e)
  option_back (Some k) r e = within k.value e
    where
      within : (v : Option Value) → option_at view (Some (key_with k.key v)) ≡ Some r → Some v ≡ option_value r
      within None e = ap option_value (some_back (tree.OwnName tt) r e)
      within (Some x) e =
          let q = bind_back (quoted x) (λ name. Some (tree.Named name)) r e in
          (λ i. Some (Some (quoted_back x q.first q.is i))) ∙ ap option_value (some_back (tree.Named q.first) r q.gives)

  -- ---- numbers

  -- facts about a printed number
  pub record NumberIs (n : ℕ) : Type 0 where
    pub cooked : string_text (fixed_text (codes "'") ++ decimal n ++ fixed_text (codes "'")) ≡ Ok (decimal n)
    pub text : quoted_text view (record { expanded = false; token = fixed_text (codes "'") ++ decimal n ++ fixed_text (codes "'") }) ≡ Some (decimal n)
    pub counts : is_count (decimal n) ≡ true
    pub is : count_of (decimal n) ≡ Some n

  number_is : (text : List ℕ) (n : ℕ) → count_of text ≡ Some n → NumberIs n
  number_is text n e =
      let c = counted text n e in
      let counts = ap is_count c.printed ∙ c.counts in
      let k = count_is (decimal n) counts in
      let cooked = quoted_digits (decimal n) k.some k.digits in
      record { cooked = cooked; text = ap text_or_none cooked; counts = counts; is = ap count_of c.printed ∙ e }

  -- a key with a literal that is a number
  pub record IsBound (k : KeyOf) (n : ℕ) : Type 0 where
    pub literal : Quoted (List ℕ)
    pub value : k.value ≡ Some (literal_of literal)
    pub is : count_of (text_of view literal) ≡ Some n

  abbrev pub AreBounds : Option KeyOf → Option (Bound (Unit {0})) → Type 0
  AreBounds None None = Unit {0}
  AreBounds None (Some b) = ⊥
  AreBounds (Some k) None = ⊥
  AreBounds (Some k) (Some b) = IsBound k b.number

  bound_back : (o : Option KeyOf) (r : Option (Bound (Unit {0}))) → of_given (bound_of view) o ≡ Some r → AreBounds o r
  bound_back None r e = subst (AreBounds None) (some_back None r e) tt
  bound_back (Some k) r e =
      let b = bind_back (bound_of view k) (λ y. Some (Some y)) r e in
      let v = bind_back k.value _ b.first b.is in
      let q = bind_back (quoted v.first) _ b.first v.gives in
      let n = bind_back (count_of (text_of view q.first)) _ b.first q.gives in
      let same : record { key = tt; number = n.first } ≡ b.first = some_back _ b.first n.gives in
      subst (AreBounds (Some k)) (some_back (Some b.first) r b.gives)
      (record {
        literal = q.first;
        value = v.is ∙ ap (λ x. Some x) (quoted_back v.first q.first q.is);
        is = n.is
            ∙ ap (λ (x : Bound (Unit {0})). Some x.number) same;
      })

  abbrev pub Numbered : Option (Bound (Unit {0})) → Type 0
  Numbered None = Unit {0}
  Numbered (Some b) = NumberIs b.number

  pub numbered : (o : Option KeyOf) (r : Option (Bound (Unit {0}))) → AreBounds o r → Numbered r
  numbered None None h = tt
  numbered (Some k) (Some b) h = number_is (text_of view h.literal) b.number h.is
  numbered _ _ h = absurd h

  bound_again : (word : List ℕ) (r : Option (Bound (Unit {0}))) → Numbered r → of_given (bound_of view) (option_map (key_with word) (bound_value r)) ≡ Some r
  bound_again word None h = refl
  bound_again word (Some b) h =
      bind_is (bound_of view (key_with word (Some (number_literal b.number)))) (λ y. Some (Some y)) b (Some (Some b))
      (ap (λ t. count_of (or_empty t) >>= (λ n. Some (record { key = tt; number = n }))) h.text
      ∙ ap (λ o. o >>= (λ n. Some (record { key = tt; number = n }))) h.is) refl

  -- ---- the keys that the rules are printed with

  module _ (q : Quoted (List ℕ)) (keys : List KeyOf) (rules : ArgumentRules (List ℕ) (Unit {0})) where
    abbrev printed : List KeyOf
    printed = keys_in (rules_rows rules)

    -- the value of a key among those that are printed
    found : (word : List ℕ) (v : Option (Option Value)) → look word (rules_rows rules) ≡ or_else (option_map (key_with word) v) None
        → at_key view word printed ≡ option_map (key_with word) v
    found word v e = at_key_in expander word (rules_rows rules) ∙ e ∙ or_nothing (option_map (key_with word) v)

    -- a key has the same value as before
    again : (word : List ℕ) (v : Option (Option Value)) → look word (rules_rows rules) ≡ or_else (option_map (key_with word) v) None
        → option_map value_in (at_key view word keys) ≡ v → at_key view word printed ≡ at_key view word keys
    again word v e h = found word v e ∙ ap (option_map (key_with word)) (sym h) ∙ sym (named word keys)

    module _ (s : ArgMeaning view q keys rules) where
      long_again : at_key view (codes "long") printed ≡ at_key view (codes "long") keys
      long_again = again (codes "long") (option_value rules.long) refl (option_back _ rules.long s.long)

      short_again : at_key view (codes "short") printed ≡ at_key view (codes "short") keys
      short_again = again (codes "short") (option_value rules.short) refl (option_back _ rules.short s.short)

      pattern_again : at_key view (codes "pattern") printed ≡ at_key view (codes "pattern") keys
      pattern_again = again (codes "pattern") (property_value rules.pattern) refl (property_back _ rules.pattern s.pattern)

      value_again : at_key view (codes "value") printed ≡ at_key view (codes "value") keys
      value_again = again (codes "value") (expr_value rules.value) refl (value_back _ rules.value s.value)

      flag_again : at_key view (codes "flag") printed ≡ at_key view (codes "flag") keys
      flag_again = again (codes "flag") (bare_value rules.flag) refl (bare_back _ rules.flag s.flag)

      multiple_again : at_key view (codes "multiple") printed ≡ at_key view (codes "multiple") keys
      multiple_again = again (codes "multiple") (bare_value rules.multiple) refl (bare_back _ rules.multiple s.multiple)

      help_again : at_key view (codes "help") printed ≡ at_key view (codes "help") keys
      help_again = again (codes "help") (property_value rules.help) refl (property_back _ rules.help s.help)

      max_found : at_key view (codes "max") printed ≡ option_map (key_with (codes "max")) (bound_value rules.max)
      max_found = found (codes "max") (bound_value rules.max) refl

      min_found : at_key view (codes "min") printed ≡ option_map (key_with (codes "min")) (bound_value rules.min)
      min_found = found (codes "min") (bound_value rules.min) refl

      pub max_bounds : AreBounds (at_key view (codes "max") keys) rules.max
      max_bounds = bound_back _ rules.max s.max

      pub min_bounds : AreBounds (at_key view (codes "min") keys) rules.min
      min_bounds = bound_back _ rules.min s.min

      -- the rules again
      pub rules_again : rules_of view (rules.name ∷ []) printed ≡ Some rules
      rules_again =
          bind_is _ _ rules.flag _ (ap (of_given (bare_of view)) flag_again ∙ s.flag)
          (bind_is _ _ rules.help _ (ap (of_given (property_of view)) help_again ∙ s.help)
          (bind_is _ _ rules.long _ (ap (option_at view) long_again ∙ s.long)
          (bind_is _ _ rules.max _ (ap (of_given (bound_of view)) max_found ∙ bound_again (codes "max") rules.max (numbered _ rules.max max_bounds))
          (bind_is _ _ rules.min _ (ap (of_given (bound_of view)) min_found ∙ bound_again (codes "min") rules.min (numbered _ rules.min min_bounds))
          (bind_is _ _ rules.multiple _ (ap (of_given (bare_of view)) multiple_again ∙ s.multiple)
          (bind_is _ _ rules.pattern _ (ap (of_given (property_of view)) pattern_again ∙ s.pattern)
          (bind_is _ _ rules.short _ (ap (option_at view) short_again ∙ s.short)
          (bind_is _ _ rules.value _ (ap (of_given (value_of view)) value_again ∙ s.value) refl))))))))

      -- ---- the rules that these keys break

      module _ (argument : List ℕ) (unbroken : arg_broken view tt argument keys ≡ []) where
        -- there is neither `long` nor `short`
        wanted : Option KeyOf → Option KeyOf → List (Broken (Unit {0}))
        wanted long short = broken_if (not (is_some long) && not (is_some short)) (ArgAttributeRequiresOption tt) tt

        bound_nothing : (word : List ℕ) (r : Option (Bound (Unit {0}))) → Numbered r
            → of_some (bound_broken view tt argument printed) (option_map (key_with word) (bound_value r)) ≡ []
        bound_nothing word None h = refl
        bound_nothing word (Some b) h =
            ap (of_some (λ text.
            if is_count text then broken_if (not (is_some (count_of text))) (ArgumentCountParse tt text) tt else broken_if true (ArgumentCountValue tt text)
            tt)) h.text
            ∙ (λ i. if h.counts i then broken_if (not (is_some (h.is i))) (ArgumentCountParse tt (decimal b.number)) tt else broken_if true
            (ArgumentCountValue tt (decimal b.number)) tt)

        -- a number above another
        exceeding : Option (List ℕ) → Option (List ℕ) → List (Broken (Unit {0}))
        exceeding max min =
            of_some (λ ns. of_some (λ ms. flat_map (λ n. flat_map (λ m. broken_if (nat_lt m n) (ArgAttributeMinExceedsMax n m) tt) ms) ns) max) min

        exceeds : (ks : List KeyOf) (max min : Option KeyOf) → of_some (λ n. of_some (exceeds_broken view tt argument ks n) max) min
            ≡ exceeding (option_map (number_of view tt argument ks) max) (option_map (number_of view tt argument ks) min)
        unfolding exceeding
        exceeds ks max None = refl
        exceeds ks None (Some n) = refl
        exceeds ks _ (Some n) = refl

        number_before : (o : Option KeyOf) (r : Option (Bound (Unit {0}))) → AreBounds o r
            → option_map (number_of view tt argument keys) o ≡ option_map (λ (b : Bound (Unit {0})). b.number ∷ []) r
        number_before None None h = refl
        number_before (Some k) (Some b) h = ap Some (
            ap (of_some (λ value. of_some (λ q. of_some (λ text. of_some (λ n. n ∷ []) (count_of text)) (quoted_text view q)) (quoted value))) h.value
            ∙ text_counts (quoted_text view h.literal) b.number h.is)
        number_before _ _ h = absurd h

        number_after : (word : List ℕ) (r : Option (Bound (Unit {0}))) → Numbered r
            → option_map (number_of view tt argument printed) (option_map (key_with word) (bound_value r))
            ≡ option_map (λ (b : Bound (Unit {0})). b.number ∷ []) r
        number_after word None h = refl
        number_after word (Some b) h = ap Some (ap (of_some (λ text. of_some (λ n. n ∷ []) (count_of text))) h.text ∙ ap (of_some (λ n. n ∷ [])) h.is)

        same_exceeds : of_some (λ n. of_some (exceeds_broken view tt argument printed n) (at_key view (codes "max") printed))
            (at_key view (codes "min") printed)
            ≡ of_some (λ n. of_some (exceeds_broken view tt argument keys n) (at_key view (codes "max") keys)) (at_key view (codes "min") keys)
        same_exceeds =
            let max = at_key view (codes "max") keys in
            let min = at_key view (codes "min") keys in
            (λ i. of_some (λ n. of_some (exceeds_broken view tt argument printed n) (max_found i)) (min_found i))
            ∙ exceeds printed (option_map (key_with (codes "max")) (bound_value rules.max)) (option_map (key_with (codes "min")) (bound_value rules.min))
            ∙ (λ i. exceeding (number_after (codes "max") rules.max (numbered max rules.max max_bounds) i)
            (number_after (codes "min") rules.min (numbered min rules.min min_bounds) i))
            ∙ (λ i. exceeding (sym (number_before max rules.max max_bounds) i) (sym (number_before min rules.min min_bounds) i))
            ∙ sym (exceeds keys max min)

        -- they break nothing, as those before
        pub unbroken_again : arg_broken view tt argument printed ≡ []
        unfolding wanted
        unbroken_again =
            let a9 = nothing_in _ _ unbroken in
            let a8 = nothing_in _ _ a9.0 in
            let a7 = nothing_in _ _ a8.0 in
            let a6 = nothing_in _ _ a7.0 in
            let a5 = nothing_in _ _ a6.0 in
            let a4 = nothing_in _ _ a5.0 in
            let a3 = nothing_in _ _ a4.0 in
            let a2 = nothing_in _ _ a3.0 in
            let a1 = nothing_in _ _ a2.0 in
            let long = ap (of_some (option_key_broken view tt argument keys false)) long_again ∙ a1.0 in
            let short = ap (of_some (option_key_broken view tt argument keys true)) short_again ∙ a1.1 in
            let pattern = ap (of_some (missing_broken view tt)) pattern_again ∙ a2.1 in
            let value = (λ i. of_some (λ k. missing_broken view tt k ++ wanted (long_again i) (short_again i)) (value_again i)) ∙ a3.1 in
            let flag =
            (λ i. of_some (λ (k : KeyOf). broken_if (is_some k.value) (FlagAttributeTakesNoValue argument) tt ++ wanted (long_again i) (short_again i)
            ++ broken_if (is_some (value_again i)) (FlagAndValueArgAttribute argument) tt
            ++ broken_if (is_some (pattern_again i)) (FlagAndPatternArgAttribute argument) tt) (flag_again i)) ∙ a4.1 in
            let multiple =
            (λ i. of_some (λ (k : KeyOf). broken_if (is_some k.value) (AttributeKeyTakesNoValue tt) tt ++ wanted (long_again i) (short_again i))
            (multiple_again i)) ∙ a5.1 in
            let max = ap (of_some (bound_broken view tt argument printed)) max_found
            ∙ bound_nothing (codes "max") rules.max (numbered _ rules.max max_bounds) in
            let min = ap (of_some (bound_broken view tt argument printed)) min_found
            ∙ bound_nothing (codes "min") rules.min (numbered _ rules.min min_bounds) in
            let exceed = same_exceeds ∙ a8.1 in
            let help = ap (of_some (missing_broken view tt)) help_again ∙ a9.1 in
            λ i. long i ++ short i ++ pattern i ++ value i ++ flag i ++ multiple i ++ max i ++ min i ++ exceed i ++ help i
