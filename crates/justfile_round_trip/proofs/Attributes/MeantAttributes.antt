-- The printed form of attributes is good, if their values are.
use Rattle.std.proofs.Common.{◌≡◌, ℕ, ◌<◌, ◌^◌, Bool, true, false, cond, List, [], ◌∷◌, map, Option, Some, None, refl, sym, ap, ◌∙◌, subst, arith, codes}
use Rattle.std.specs.List.{find, AllByRecursion}
use Rattle.std.specs.Ordering.{is_gt}
use Rattle.std.specs.declared.cmp.Ordering.{Ordering}
use Rattle.std.proofs.lemmas.Bool.Decides.{nat_tests}
use Rattle.justfile_model.proofs.Meanings.MeaningParts.{arg_meaning}
use Rattle.justfile_model.proofs.Lists.AllParts.{both}
use Rattle.justfile_model.proofs.Lists.Binds.{bind_back, never_some, of_some_is}
use Rattle.justfile_vocabulary.specs.ByteClass.{class_of}
use Rattle.justfile_vocabulary.specs.AttributeKind.{attribute_name, kind_named, takes_keys}
use Rattle.justfile_vocabulary.specs.declared.attribute_kind.AttributeKind.{AttributeKind}
use Rattle.justfile_vocabulary.specs.declared.attribute_kind.AttributeKind.TheVariants as attributes
use Rattle.justfile_vocabulary.specs.declared.signal.Signal.{Signal}
use Rattle.justfile_vocabulary.proofs.AttributeKindLaws.{named}
use Rattle.justfile_model.specs.Meanings.AttributeKinds.{named_takes_keys, name_takes_keys, takes_expressions}
use Rattle.justfile_model.specs.Trees.ContentKeys.{kind_of_attribute, entry_cmp}
use Rattle.justfile_model.specs.Meanings.Meaning as meaning
use Rattle.justfile_model.specs.Meanings.Meaning.{all_of, of_given, quoted, PositionalArgument, KeyArgument, by_position, by_key, count_of, signal_set, text_of, at_key, property_of, value_of, option_named, option_at, bound_of, rules_of, single_of, texts_of, env_of, signal_of, of_expressions, of_literals, by_takes, attribute_of, entry_of, entries_of}
use Rattle.justfile_model.specs.Lists.Order.{placed, in_order}
use Rattle.justfile_model.specs.Printed.Printing.{fixed_text, quoted_argument, signal_argument, keyed_if, bare_if, option_argument, number_literal, rules_arguments, attribute_arguments}
use Rattle.justfile_model.specs.Trees.LeafView.{LeafView}
use Rattle.justfile_model.specs.Trees.Tree as tree
use Rattle.justfile_model.specs.Trees.Tree.{Quoted, Property, Bound, OptionName, ArgumentRules, Attribute}
use Rattle.justfile_round_trip.proofs.LiteralTexts.Inline.{IsName, is_word, word_name}
use Rattle.justfile_round_trip.proofs.Canon.{Value}
use Rattle.justfile_round_trip.proofs.Attributes.CanonAttributes.{Argument, Written, ShapeEntry}
use Rattle.justfile_round_trip.proofs.Good.{GoodExpression, GoodOptionalComment}
use Rattle.justfile_round_trip.proofs.Attributes.GoodAttributes.{GoodArguments, GoodEntry, GoodEntries, GoodArgument}
use Rattle.justfile_round_trip.proofs.LiteralTexts.PlainLiterals.{some_limit, number_good, signal_good}

-- ---- names of kinds and of keys

word_good : (w : List ℕ) → is_word w ≡ true → IsName (fixed_text w)
unfolding fixed_text
word_good w h = word_name w h

-- the first clause makes the checker go through all kinds
kind_good : (k : AttributeKind) → IsName (fixed_text (attribute_name k))
unfolding class_of
kind_good attributes.Android = word_good (attribute_name attributes.Android) refl
kind_good kind = word_good (attribute_name kind) refl

-- whether it takes keys is seen from its name
keys_of_name : (k : AttributeKind) → name_takes_keys (fixed_text (attribute_name k)) ≡ takes_keys k
unfolding fixed_text
keys_of_name k = ap named_takes_keys (named k)

-- ---- results of optional steps

abbrev IfGiven : {X : Type 0} (P : X → Type 0) → Option X → Type 0
IfGiven P None = Unit {0}
IfGiven P (Some x) = P x

count_small : (text : List ℕ) (n : ℕ) → count_of text ≡ Some n → n < 2 ^ 64
count_small text n e = grind (arith, nat_tests)

module _ (limit : ℕ) where
  -- ---- written arguments: each value is good

  abbrev pub GoodSource : Argument → Type 0
  GoodSource (tree.Positional first value) = GoodExpression limit value
  GoodSource (tree.Bare key) = Unit {0}
  GoodSource (tree.Keyed key value) = GoodExpression limit value

  abbrev pub AllGoodSource : List Argument → Type 0
  AllGoodSource = AllByRecursion GoodSource

  -- an attribute as it is written in a source, and its comment
  pub record GoodSourceAttribute (w : Written) : Type 0 where
    pub arguments : AllGoodSource w.arguments
    pub comment : GoodOptionalComment w.comment

  abbrev pub AllGoodAttributes : List Written → Type 0
  AllGoodAttributes = AllByRecursion GoodSourceAttribute

  abbrev AllValues : List Value → Type 0
  AllValues = AllByRecursion (GoodExpression limit)

  abbrev GoodKey : KeyArgument (List ℕ) (Unit {0}) → Type 0
  GoodKey k = IfGiven (GoodExpression limit) k.value

  abbrev AllKeys : List (KeyArgument (List ℕ) (Unit {0})) → Type 0
  AllKeys = AllByRecursion GoodKey

  abbrev GoodQuoted : Quoted (List ℕ) → Type 0
  GoodQuoted q = GoodExpression limit (tree.StringLiteral q.expanded q.token)

  abbrev AllQuoted : List (Quoted (List ℕ)) → Type 0
  AllQuoted = AllByRecursion GoodQuoted

  source_values : (arguments : List Argument) → AllGoodSource arguments → AllValues (map (λ (p : PositionalArgument (List ℕ) (Unit {0})). p.value) (by_position arguments))
  source_values [] h = tt
  source_values (tree.Positional first value ∷ arguments) h = (h.0, source_values arguments h.1)
  source_values (_ ∷ arguments) h = source_values arguments h.1

  source_keys : (arguments : List Argument) → AllGoodSource arguments → AllKeys (by_key arguments)
  source_keys [] h = tt
  source_keys (tree.Positional first value ∷ arguments) h = source_keys arguments h.1
  source_keys (tree.Bare key ∷ arguments) h = (tt, source_keys arguments h.1)
  source_keys (tree.Keyed key value ∷ arguments) h = (h.0, source_keys arguments h.1)

  found_good : (test : KeyArgument (List ℕ) (Unit {0}) → Bool) (ks : List (KeyArgument (List ℕ) (Unit {0}))) → AllKeys ks → IfGiven GoodKey (find test ks)
  found_good test [] h = tt
  found_good test (k ∷ ks) h = by (test k) (found_good test ks h.1)
    where
      by : (b : Bool) → IfGiven GoodKey (find test ks) → IfGiven GoodKey (cond b (Some k) (find test ks))
      by true more = h.0
      by false more = more

  quoted_is : (v : Value) (q : Quoted (List ℕ)) → quoted v ≡ Some q → GoodExpression limit v → GoodQuoted q
  quoted_is (tree.StringLiteral expanded token) q e h = of_some_is GoodQuoted _ _ e h
  quoted_is _ q e h = cc

  all_quoted : (values : List Value) (texts : List (Quoted (List ℕ))) → all_of quoted values ≡ Some texts → AllValues values → AllQuoted texts
  all_quoted [] texts e h = of_some_is AllQuoted _ _ e tt
  all_quoted (v ∷ vs) texts e h =
      let first = bind_back (quoted v) _ texts e in
      let others = bind_back (all_of quoted vs) _ texts first.gives in
      of_some_is AllQuoted _ _ others.gives (quoted_is v first.first first.is h.0, all_quoted vs others.first others.is h.1)

  -- ---- what attributes of each form are printed with

  abbrev GoodAttribute : Attribute (List ℕ) (Unit {0}) → Type 0
  GoodAttribute a = GoodArguments limit (takes_keys (kind_of_attribute a)) (attribute_arguments a)

  quoted_arguments : (keys : Bool) (texts : List (Quoted (List ℕ))) → AllQuoted texts → GoodArguments limit keys (map quoted_argument texts)
  quoted_arguments keys [] h = tt
  quoted_arguments keys (q ∷ qs) h = ((h.0, λ k. refl), quoted_arguments keys qs h.1)

  signal_arguments : (ss : List Signal) → 0 < limit → GoodArguments limit false (map signal_argument ss)
  signal_arguments [] some = tt
  signal_arguments (s ∷ ss) some = ((signal_good limit s some, λ k. refl), signal_arguments ss some)

  keyed_good : {X : Type 0} (word : List ℕ) (f : X → Value) (P : X → Type 0) → IsName (fixed_text word) → ((x : X) → P x → GoodExpression limit (f x))
      → (o : Option X) → IfGiven P o
      → GoodArguments limit true (keyed_if word f o)
  keyed_good word f P name step None h = tt
  keyed_good word f P name step (Some x) h = ((name, refl, step x h), tt)

  bare_good : {X : Type 0} (word : List ℕ) → IsName (fixed_text word) → (o : Option X) → GoodArguments limit true (bare_if word o)
  bare_good word name None = tt
  bare_good word name (Some x) = ((name, refl), tt)

  abbrev GoodOption : OptionName (List ℕ) (Unit {0}) → Type 0
  GoodOption (tree.Named q) = GoodQuoted q
  GoodOption _ = Unit {0}

  option_good : (word : List ℕ) → IsName (fixed_text word) → (o : OptionName (List ℕ) (Unit {0})) → GoodOption o
      → GoodArguments limit true (option_argument word o)
  option_good word name tree.NoOption h = tt
  option_good word name (tree.OwnName key) h = ((name, refl), tt)
  option_good word name (tree.Named q) h = ((name, refl, h), tt)

  abbrev GoodProperty : Property (List ℕ) (Unit {0}) → Type 0
  GoodProperty p = GoodExpression limit p.value

  abbrev GoodBound : Bound (Unit {0}) → Type 0
  GoodBound b = b.number < 2 ^ 64

  record GoodRules (a : ArgumentRules (List ℕ) (Unit {0})) : Type 0 where
    name : GoodQuoted a.name
    long : GoodOption a.long
    short : GoodOption a.short
    pattern : IfGiven GoodProperty a.pattern
    value : IfGiven (GoodExpression limit) a.value
    min : IfGiven GoodBound a.min
    max : IfGiven GoodBound a.max
    help : IfGiven GoodProperty a.help

  rules_good : (a : ArgumentRules (List ℕ) (Unit {0})) → GoodRules a → GoodArguments limit true (rules_arguments a)
  unfolding class_of
  rules_good a h =
      let some = some_limit h.name in
      let number : (b : Bound (Unit {0})) → GoodBound b → GoodExpression limit (number_literal b.number) = λ b small. number_good limit b.number some small in
      let join = both (GoodArgument limit true) in (
        (h.name, λ k. refl),
        join _ _ (join _ _ (join _ _ (join _ _ (join _ _ (join _ _ (join _ _ (join _ _
            (option_good (codes "long") (word_good (codes "long") refl) a.long h.long)
            (option_good (codes "short") (word_good (codes "short") refl) a.short h.short))
            (keyed_good (codes "pattern") (λ p. p.value) GoodProperty (word_good (codes "pattern") refl) (λ p good. good) a.pattern h.pattern))
            (keyed_good (codes "value") (λ e. e) (GoodExpression limit) (word_good (codes "value") refl) (λ e good. good) a.value h.value))
            (bare_good (codes "flag") (word_good (codes "flag") refl) a.flag))
            (bare_good (codes "multiple") (word_good (codes "multiple") refl) a.multiple))
            (keyed_good (codes "min") (λ b. number_literal b.number) GoodBound (word_good (codes "min") refl) number a.min h.min))
            (keyed_good (codes "max") (λ b. number_literal b.number) GoodBound (word_good (codes "max") refl) number a.max h.max))
            (keyed_good (codes "help") (λ p. p.value) GoodProperty (word_good (codes "help") refl) (λ p good. good) a.help h.help),
      )

  -- ---- what they mean

  module _ (view : LeafView (List ℕ) (Unit {0})) where
    given_good : {Y : Type 0} (P : Y → Type 0) (f : KeyArgument (List ℕ) (Unit {0}) → Option Y)
        → ((k : KeyArgument (List ℕ) (Unit {0})) (y : Y) → f k ≡ Some y → GoodKey k → P y)
        → (o : Option (KeyArgument (List ℕ) (Unit {0}))) (r : Option Y) → of_given f o ≡ Some r → IfGiven GoodKey o → IfGiven P r
    given_good P f step None r e h = of_some_is (IfGiven P) _ _ e tt
    given_good P f step (Some k) r e h =
        let b = bind_back (f k) (λ y. Some (Some y)) r e in
        of_some_is (IfGiven P) _ _ b.gives (step k b.first b.is h)

    property_good : (k : KeyArgument (List ℕ) (Unit {0})) (p : Property (List ℕ) (Unit {0})) → property_of view k ≡ Some p → GoodKey k → GoodProperty p
    property_good k p e h =
        let b = bind_back k.value _ p e in
        of_some_is GoodProperty _ _ b.gives (subst (IfGiven (GoodExpression limit)) b.is h)

    value_good : (k : KeyArgument (List ℕ) (Unit {0})) (v : Value) → k.value ≡ Some v → GoodKey k → GoodExpression limit v
    value_good k v e h = subst (IfGiven (GoodExpression limit)) e h

    bound_good : (k : KeyArgument (List ℕ) (Unit {0})) (b : Bound (Unit {0})) → bound_of view k ≡ Some b → GoodKey k → GoodBound b
    bound_good k b e h =
        let value = bind_back k.value _ b e in
        let literal = bind_back (quoted value.first) _ b value.gives in
        let number = bind_back (count_of (text_of view literal.first)) _ b literal.gives in
        of_some_is GoodBound _ _ number.gives (count_small (text_of view literal.first) number.first number.is)

    named_good : (key : List ℕ) (value : Option Value) (o : OptionName (List ℕ) (Unit {0})) → option_named view key value ≡ Some o
        → IfGiven (GoodExpression limit) value → GoodOption o
    named_good key None o e h = of_some_is GoodOption _ _ e tt
    named_good key (Some value) o e h =
        let b = bind_back (quoted value) _ o e in
        of_some_is GoodOption _ _ b.gives (quoted_is value b.first b.is h)

    option_at_good : (k : Option (KeyArgument (List ℕ) (Unit {0}))) (o : OptionName (List ℕ) (Unit {0})) → option_at view k ≡ Some o → IfGiven GoodKey k
        → GoodOption o
    option_at_good None o e h = of_some_is GoodOption _ _ e tt
    option_at_good (Some k) o e h = named_good k.key k.value o e h

    meant_rules : (texts : List (Quoted (List ℕ))) (keys : List (KeyArgument (List ℕ) (Unit {0}))) (a : ArgumentRules (List ℕ) (Unit {0}))
        → rules_of view texts keys ≡ Some a → AllQuoted texts → AllKeys keys → GoodRules a
    meant_rules [] keys a e h ks = never_some a e
    meant_rules (q ∷ texts) keys a e h ks =
        let at : (word : List ℕ) → IfGiven GoodKey (at_key view word keys) = λ word. found_good (meaning.is_key view word) keys ks in
        let m = arg_meaning view q keys a e in
        record {
          name = subst GoodQuoted m.name h.0;
          long = option_at_good _ a.long m.long (at (codes "long"));
          short = option_at_good _ a.short m.short (at (codes "short"));
          pattern = given_good GoodProperty (property_of view) property_good _ a.pattern m.pattern (at (codes "pattern"));
          value = given_good (GoodExpression limit) (value_of view) value_good _ a.value m.value (at (codes "value"));
          min = given_good GoodBound (bound_of view) bound_good _ a.min m.min (at (codes "min"));
          max = given_good GoodBound (bound_of view) bound_good _ a.max m.max (at (codes "max"));
          help = given_good GoodProperty (property_of view) property_good _ a.help m.help (at (codes "help"));
        }

    cache_good : (keys : List (KeyArgument (List ℕ) (Unit {0}))) (a : Attribute (List ℕ) (Unit {0})) → of_literals view attributes.Cache [] keys ≡ Some a
        → AllKeys keys → GoodAttribute a
    unfolding class_of
    cache_good keys a e ks =
        let at : (word : List ℕ) → IfGiven GoodKey (at_key view word keys) = λ word. found_good (meaning.is_key view word) keys ks in
        let value : (v : Value) → GoodExpression limit v → GoodExpression limit v = λ v h. h in
        let extra = bind_back (of_given (value_of view) (at_key view (codes "extra") keys)) _ a e in
        let inputs = bind_back (of_given (value_of view) (at_key view (codes "inputs") keys)) _ a extra.gives in
        let outputs = bind_back (of_given (value_of view) (at_key view (codes "outputs") keys)) _ a inputs.gives in
        let join = both (GoodArgument limit true) in
        of_some_is GoodAttribute _ _ outputs.gives
        (join _ _ (join _ _
        (keyed_good (codes "extra") (λ e. e) (GoodExpression limit) (word_good (codes "extra") refl) value extra.first
        (given_good (GoodExpression limit) (value_of view) value_good _ extra.first extra.is (at (codes "extra"))))
        (keyed_good (codes "inputs") (λ e. e) (GoodExpression limit) (word_good (codes "inputs") refl) value inputs.first
        (given_good (GoodExpression limit) (value_of view) value_good _ inputs.first inputs.is (at (codes "inputs")))))
        (keyed_good (codes "outputs") (λ e. e) (GoodExpression limit) (word_good (codes "outputs") refl) value outputs.first
        (given_good (GoodExpression limit) (value_of view) value_good _ outputs.first outputs.is (at (codes "outputs")))))

    signals_good : (texts : List (Quoted (List ℕ))) (given : List Signal) → all_of (signal_of view) texts ≡ Some given → AllQuoted texts
        → GoodArguments limit false (map signal_argument (signal_set given))
    signals_good [] given e h = of_some_is (λ (g : List Signal). GoodArguments limit false (map signal_argument (signal_set g))) _ _ e tt
    signals_good (q ∷ qs) given e h = signal_arguments (signal_set given) (some_limit h.0)

    single_good : (kind : AttributeKind) (values : List Value) → takes_keys kind ≡ false → AllValues values → GoodAttribute (single_of view kind values)
    single_good kind [] no_keys h = tt
    single_good kind (v ∷ vs) no_keys h = ((h.0, λ k. let bad : true ≡ false = sym k ∙ no_keys in cc), tt)

    texts_good : (kind : AttributeKind) (texts : List (Quoted (List ℕ))) → AllQuoted texts → GoodAttribute (texts_of view kind texts)
    texts_good kind [] h = tt
    texts_good kind (q ∷ qs) h = quoted_arguments (takes_keys kind) (q ∷ qs) h

    env_good : (values : List Value) (a : Attribute (List ℕ) (Unit {0})) → env_of view values ≡ Some a → AllValues values → GoodAttribute a
    env_good [] a e h = cc
    env_good (key ∷ []) a e h = cc
    env_good (key ∷ value ∷ values) a e h = of_some_is GoodAttribute _ _ e ((h.0, λ k. cc), ((h.1.0, λ k. cc), tt))

    expressions_good : (kind : AttributeKind) (values : List Value) (a : Attribute (List ℕ) (Unit {0})) → takes_expressions kind ≡ true
        → of_expressions view kind values ≡ Some a → AllValues values → GoodAttribute a
    expressions_good attributes.Env values a takes e h = env_good values a e h
    expressions_good attributes.Confirm values a takes e h = of_some_is GoodAttribute _ _ e (single_good attributes.Confirm values refl h)
    expressions_good attributes.Doc values a takes e h = of_some_is GoodAttribute _ _ e (single_good attributes.Doc values refl h)
    expressions_good attributes.Timestamp values a takes e h = of_some_is GoodAttribute _ _ e (single_good attributes.Timestamp values refl h)
    expressions_good attributes.WorkingDirectory values a takes e h = of_some_is GoodAttribute _ _ e (single_good attributes.WorkingDirectory values refl h)
    expressions_good _ values a takes e h = cc

    literals_good : (kind : AttributeKind) (texts : List (Quoted (List ℕ))) (keys : List (KeyArgument (List ℕ) (Unit {0}))) (a : Attribute (List ℕ) (Unit {0}))
        → of_literals view kind texts keys ≡ Some a → AllQuoted texts → AllKeys keys → GoodAttribute a
    literals_good attributes.Arg texts keys a e h ks =
        let b = bind_back (rules_of view texts keys) _ a e in
        of_some_is GoodAttribute _ _ b.gives (rules_good b.first (meant_rules texts keys b.first b.is h ks))
    literals_good attributes.Cache texts keys a e h ks = cache_good keys a e ks
    literals_good attributes.Continue texts keys a e h ks =
        let b = bind_back (all_of (signal_of view) texts) _ a e in
        of_some_is GoodAttribute _ _ b.gives (signals_good texts b.first b.is h)
    literals_good kind texts keys a e h ks = of_some_is GoodAttribute _ _ e (texts_good kind texts h)

    meant_by : (takes : Bool) (kind : AttributeKind) (values : List Value) (keys : List (KeyArgument (List ℕ) (Unit {0}))) (a : Attribute (List ℕ) (Unit {0}))
        → takes_expressions kind ≡ takes → by_takes view takes kind values keys ≡ Some a → AllValues values → AllKeys keys
        → GoodAttribute a
    meant_by true kind values keys a takes e h ks = expressions_good kind values a takes e h
    meant_by false kind values keys a takes e h ks =
        let b = bind_back (all_of quoted values) _ a e in
        literals_good kind b.first keys a b.gives (all_quoted values b.first b.is h) ks

    -- an attribute whose values are good means one that is
    pub entry_good : (w : Written) (e : ShapeEntry) → entry_of view w ≡ Some e → GoodSourceAttribute w → GoodEntry limit e
    entry_good w e is h =
        let kind = bind_back (kind_named (view.bytes w.name)) _ e is in
        let attribute = bind_back (attribute_of view kind.first (by_position w.arguments) (by_key w.arguments)) _ e kind.gives in
        let good = meant_by (takes_expressions kind.first) kind.first _ (by_key w.arguments) attribute.first refl attribute.is (source_values w.arguments h.arguments)
        (source_keys w.arguments h.arguments) in
        of_some_is (GoodEntry limit) _ _ attribute.gives (record {
          named = kind_good (kind_of_attribute attribute.first);
          arguments = subst (λ k. GoodArguments limit k (attribute_arguments attribute.first)) (sym (keys_of_name (kind_of_attribute attribute.first))) good;
          comment = h.comment;
        })

    all_entries_good : (ws : List Written) (entries : List ShapeEntry) → all_of (entry_of view) ws ≡ Some entries → AllGoodAttributes ws
        → GoodEntries limit entries
    all_entries_good [] entries e h = of_some_is (GoodEntries limit) _ _ e tt
    all_entries_good (w ∷ ws) entries e h =
        let first = bind_back (entry_of view w) _ entries e in
        let others = bind_back (all_of (entry_of view) ws) _ entries first.gives in
        of_some_is (GoodEntries limit) _ _ others.gives (entry_good w first.first first.is h.0, all_entries_good ws others.first others.is h.1)

    placed_good : (cmp : ShapeEntry → ShapeEntry → Ordering) (x : ShapeEntry) (ys : List ShapeEntry) → GoodEntry limit x → GoodEntries limit ys
        → GoodEntries limit (placed cmp x ys)
    placed_good cmp x [] h hs = (h, tt)
    placed_good cmp x (y ∷ ys) h hs = by (is_gt (cmp x y)) (placed_good cmp x ys h hs.1)
      where
        by : (b : Bool) → GoodEntries limit (placed cmp x ys) → GoodEntries limit (cond b (y ∷ placed cmp x ys) (x ∷ y ∷ ys))
        by true more = (hs.0, more)
        by false more = (h, hs)

    in_order_good : (cmp : ShapeEntry → ShapeEntry → Ordering) (xs : List ShapeEntry) → GoodEntries limit xs → GoodEntries limit (in_order cmp xs)
    in_order_good cmp [] h = tt
    in_order_good cmp (x ∷ xs) h = placed_good cmp x (in_order cmp xs) h.0 (in_order_good cmp xs h.1)

    -- attributes whose values are good mean entries that are
    pub entries_good : (ws : List Written) (entries : List ShapeEntry) → entries_of view ws ≡ Some entries → AllGoodAttributes ws → GoodEntries limit entries
    entries_good ws entries e h =
        let b = bind_back (all_of (entry_of view) ws) _ entries e in
        of_some_is (GoodEntries limit) _ _ b.gives (in_order_good (entry_cmp view) b.first (all_entries_good ws b.first b.is h))
