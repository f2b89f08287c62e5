-- The meaning of an attribute consists of parts of its written form: a property of the written expressions, literals and keys holds for
-- those in the meaning.
use Rattle.std.proofs.Common.{◌≡◌, ℕ, Bool, true, false, cond, List, [], ◌∷◌, map, Option, Some, None, codes, refl, subst}
use Rattle.std.proofs.lemmas.Slice.Eq.{bytes_eq-Decides}
use Rattle.std.specs.List.{AllByRecursion}
use Rattle.std.specs.Str.{bytes_eq}
use Rattle.justfile_vocabulary.specs.AttributeKind.{kind_named}
use Rattle.justfile_vocabulary.specs.declared.attribute_kind.AttributeKind.{AttributeKind}
use Rattle.justfile_vocabulary.specs.declared.attribute_kind.AttributeKind.TheVariants as kinds
use Rattle.justfile_model.specs.Meanings.AttributeKinds.{takes_expressions}
use Rattle.justfile_model.specs.Meanings.Meaning.{all_of, of_given, quoted, PositionalArgument, KeyArgument, by_position, by_key, count_of, signal_set, text_of, at_key, property_of, value_of, bare_of, option_at, bound_of, rules_of, single_of, texts_of, env_of, signal_of, of_expressions, of_literals, by_takes, attribute_of, entry_of}
use Rattle.justfile_model.specs.Trees.LeafView.{LeafView}
use Rattle.justfile_model.specs.Trees.Tree as tree
use Rattle.justfile_model.specs.Trees.Tree.{Expr, Quoted, Argument, WrittenAttribute, OptionName, Property, Bound, ArgumentRules, Attribute, Entry}
use Rattle.justfile_model.proofs.Lists.Binds.{of_some_is, some_back, never_some, bind_back}

-- what `arg` means, by its keys
module _ {A B : Type 0} (view : LeafView A B) (q : Quoted A) (keys : List (KeyArgument A B)) (rules : ArgumentRules A B) where
  pub record ArgMeaning : Type 0 where
    pub name : q ≡ rules.name
    pub flag : of_given (bare_of view) (at_key view (codes "flag") keys) ≡ Some rules.flag
    pub help : of_given (property_of view) (at_key view (codes "help") keys) ≡ Some rules.help
    pub long : option_at view (at_key view (codes "long") keys) ≡ Some rules.long
    pub max : of_given (bound_of view) (at_key view (codes "max") keys) ≡ Some rules.max
    pub min : of_given (bound_of view) (at_key view (codes "min") keys) ≡ Some rules.min
    pub multiple : of_given (bare_of view) (at_key view (codes "multiple") keys) ≡ Some rules.multiple
    pub pattern : of_given (property_of view) (at_key view (codes "pattern") keys) ≡ Some rules.pattern
    pub short : option_at view (at_key view (codes "short") keys) ≡ Some rules.short
    pub value : of_given (value_of view) (at_key view (codes "value") keys) ≡ Some rules.value

pub arg_meaning : {A B : Type 0} (view : LeafView A B) (q : Quoted A) (keys : List (KeyArgument A B)) (rules : ArgumentRules A B) → rules_of view (q ∷ []) keys ≡ Some rules
    → ArgMeaning view q keys rules
arg_meaning view q keys rules h =
    let flag = bind_back (of_given (bare_of view) (at_key view (codes "flag") keys)) _ rules h in
    let help = bind_back (of_given (property_of view) (at_key view (codes "help") keys)) _ rules flag.gives in
    let long = bind_back (option_at view (at_key view (codes "long") keys)) _ rules help.gives in
    let max = bind_back (of_given (bound_of view) (at_key view (codes "max") keys)) _ rules long.gives in
    let min = bind_back (of_given (bound_of view) (at_key view (codes "min") keys)) _ rules max.gives in
    let multiple = bind_back (of_given (bare_of view) (at_key view (codes "multiple") keys)) _ rules min.gives in
    let pattern = bind_back (of_given (property_of view) (at_key view (codes "pattern") keys)) _ rules multiple.gives in
    let short = bind_back (option_at view (at_key view (codes "short") keys)) _ rules pattern.gives in
    let value = bind_back (of_given (value_of view) (at_key view (codes "value") keys)) _ rules short.gives in
    subst (ArgMeaning view q keys) (some_back _ rules value.gives)
    (record {
      name = refl;
      flag = flag.is;
      help = help.is;
      long = long.is;
      max = max.is;
      min = min.is;
      multiple = multiple.is;
      pattern = pattern.is;
      short = short.is;
      value = value.is;
    })

-- an argument, by the conditions on expressions and on keys
module _ {A B : Type 0} (OfExpr : Expr A B → Type 0) (OfKey : A → Type 0) where
  abbrev pub InArgument : Argument A B → Type 0
  InArgument (tree.Positional first value) = OfExpr value
  InArgument (tree.Bare key) = OfKey key
  InArgument (tree.Keyed key value) = OfKey key × OfExpr value

-- conditions on expressions, on literals, and on the position of the key of an option's name
module _ {A B : Type 0} (OfExpr : Expr A B → Type 0) (OfQuoted : Quoted A → Type 0) (OfWord : List ℕ → B → Type 0) where
  abbrev pub InOption : List ℕ → OptionName A B → Type 0
  InOption word tree.NoOption = Unit {0}
  InOption word (tree.OwnName key) = OfWord word key
  InOption word (tree.Named q) = OfQuoted q

  abbrev pub InBare : List ℕ → Option B → Type 0
  InBare word None = Unit {0}
  InBare word (Some key) = OfWord word key

  abbrev pub InProperty : List ℕ → Option (Property A B) → Type 0
  InProperty word None = Unit {0}
  InProperty word (Some p) = OfWord word p.key × OfExpr p.value

  abbrev pub InBound : List ℕ → Option (Bound B) → Type 0
  InBound word None = Unit {0}
  InBound word (Some b) = OfWord word b.key

  abbrev pub InValue : Option (Expr A B) → Type 0
  InValue None = Unit {0}
  InValue (Some e) = OfExpr e

  pub record InRules (a : ArgumentRules A B) : Type 0 where
    pub flag : InBare (codes "flag") a.flag
    pub help : InProperty (codes "help") a.help
    pub long : InOption (codes "long") a.long
    pub max : InBound (codes "max") a.max
    pub min : InBound (codes "min") a.min
    pub multiple : InBare (codes "multiple") a.multiple
    pub name : OfQuoted a.name
    pub pattern : InProperty (codes "pattern") a.pattern
    pub short : InOption (codes "short") a.short
    pub value : InValue a.value

  abbrev pub InMeaning : Attribute A B → Type 0
  InMeaning (tree.Plain kind) = Unit {0}
  InMeaning (tree.Single kind value) = OfExpr value
  InMeaning (tree.Texts kind texts) = AllByRecursion OfQuoted texts
  InMeaning (tree.Env key value) = OfExpr key × OfExpr value
  InMeaning (tree.Signals signals) = Unit {0}
  InMeaning (tree.Cache extra inputs outputs) = InValue extra × InValue inputs × InValue outputs
  InMeaning (tree.Arg rules) = InRules rules

  -- conditions on written keys
  module _ (OfKey : A → Type 0) where
    abbrev InKey : KeyArgument A B → Type 0
    InKey k = OfKey k.key × InValue k.value

    module _ (view : LeafView A B) (literal : (e : Expr A B) (q : Quoted A) → OfExpr e → quoted e ≡ Some q → OfQuoted q)
        (word_of : (word : List ℕ) (key : A) → OfKey key → view.bytes key ≡ word → OfWord word (view.place key)) where
      keys_in : (arguments : List (Argument A B)) → AllByRecursion (InArgument OfExpr OfKey) arguments → AllByRecursion InKey (by_key arguments)
      keys_in [] h = tt
      keys_in (tree.Positional first value ∷ arguments) h = keys_in arguments h.1
      keys_in (tree.Bare key ∷ arguments) h = ((h.0, tt), keys_in arguments h.1)
      keys_in (tree.Keyed key value ∷ arguments) h = (h.0, keys_in arguments h.1)

      values_in : (arguments : List (Argument A B)) → AllByRecursion (InArgument OfExpr OfKey) arguments
          → AllByRecursion OfExpr (map (λ (p : PositionalArgument A B). p.value) (by_position arguments))
      values_in [] h = tt
      values_in (tree.Positional first value ∷ arguments) h = (h.0, values_in arguments h.1)
      values_in (tree.Bare key ∷ arguments) h = values_in arguments h.1
      values_in (tree.Keyed key value ∷ arguments) h = values_in arguments h.1

      -- what is found at a key
      abbrev InAt : List ℕ → Option (KeyArgument A B) → Type 0
      InAt word None = Unit {0}
      InAt word (Some k) = OfWord word (view.place k.key) × InValue k.value

      at_in : (word : List ℕ) (keys : List (KeyArgument A B)) → AllByRecursion InKey keys → InAt word (at_key view word keys)
      at_in word [] h = tt
      at_in word (k ∷ keys) h = within (bytes_eq (view.bytes k.key) word) refl (at_in word keys h.1)
        where
          within : (b : Bool) → bytes_eq (view.bytes k.key) word ≡ b → InAt word (at_key view word keys)
              → InAt word (cond b (Some k) (at_key view word keys))
          within true e r = (word_of word k.key h.0.0 ((bytes_eq-Decides (view.bytes k.key) word).0 e), h.0.1)
          within false e r = r

      bare_in : (word : List ℕ) (o : Option (KeyArgument A B)) (r : Option B) → InAt word o → of_given (bare_of view) o ≡ Some r → InBare word r
      bare_in word None r h e = of_some_is (InBare word) None r e tt
      bare_in word (Some k) r h e = within k.value e
        where
          within : (v : Option (Expr A B)) → of_given (bare_of view) (Some (record { key = k.key; value = v })) ≡ Some r → InBare word r
          within None e = of_some_is (InBare word) (Some (view.place k.key)) r e h.0
          within (Some x) e = never_some r e

      property_in : (word : List ℕ) (o : Option (KeyArgument A B)) (r : Option (Property A B)) → InAt word o → of_given (property_of view) o ≡ Some r
          → InProperty word r
      property_in word None r h e = of_some_is (InProperty word) None r e tt
      property_in word (Some k) r h e = within k.value h.1 e
        where
          within : (v : Option (Expr A B)) → InValue v → of_given (property_of view) (Some (record { key = k.key; value = v })) ≡ Some r → InProperty word r
          within None g e = never_some r e
          within (Some x) g e = of_some_is (InProperty word) (Some (record { key = view.place k.key; value = x })) r e (h.0, g)

      value_in : (word : List ℕ) (o : Option (KeyArgument A B)) (r : Option (Expr A B)) → InAt word o → of_given (value_of view) o ≡ Some r → InValue r
      value_in word None r h e = of_some_is InValue None r e tt
      value_in word (Some k) r h e = within k.value h.1 e
        where
          within : (v : Option (Expr A B)) → InValue v → of_given (value_of view) (Some (record { key = k.key; value = v })) ≡ Some r → InValue r
          within None g e = never_some r e
          within (Some x) g e = of_some_is InValue (Some x) r e g

      option_in : (word : List ℕ) (o : Option (KeyArgument A B)) (r : OptionName A B) → InAt word o → option_at view o ≡ Some r → InOption word r
      option_in word None r h e = of_some_is (InOption word) tree.NoOption r e tt
      option_in word (Some k) r h e = within k.value h.1 e
        where
          within : (v : Option (Expr A B)) → InValue v → option_at view (Some (record { key = k.key; value = v })) ≡ Some r → InOption word r
          within None g e = of_some_is (InOption word) (tree.OwnName (view.place k.key)) r e h.0
          within (Some x) g e =
              let q = bind_back (quoted x) (λ name. Some (tree.Named name)) r e in
              of_some_is (InOption word) (tree.Named q.first) r q.gives (literal x q.first g q.is)

      bound_in : (word : List ℕ) (o : Option (KeyArgument A B)) (r : Option (Bound B)) → InAt word o → of_given (bound_of view) o ≡ Some r → InBound word r
      bound_in word None r h e = of_some_is (InBound word) None r e tt
      bound_in word (Some k) r h e =
          let b = bind_back (bound_of view k) (λ y. Some (Some y)) r e in
          let v = bind_back k.value _ b.first b.is in
          let q = bind_back (quoted v.first) _ b.first v.gives in
          let n = bind_back (count_of (text_of view q.first)) _ b.first q.gives in
          of_some_is (InBound word) (Some b.first) r b.gives
          (of_some_is (λ (b : Bound B). OfWord word b.key) (record { key = view.place k.key; number = n.first }) b.first n.gives h.0)

      all_quoted_in : (es : List (Expr A B)) (qs : List (Quoted A)) → AllByRecursion OfExpr es → all_of quoted es ≡ Some qs → AllByRecursion OfQuoted qs
      all_quoted_in [] qs h e = of_some_is (AllByRecursion OfQuoted) [] qs e tt
      all_quoted_in (x ∷ es) qs h e =
          let q = bind_back (quoted x) _ qs e in
          let more = bind_back (all_of quoted es) _ qs q.gives in
          of_some_is (AllByRecursion OfQuoted) (q.first ∷ more.first) qs more.gives (literal x q.first h.0 q.is, all_quoted_in es more.first h.1 more.is)

      rules_in : (qs : List (Quoted A)) (keys : List (KeyArgument A B)) (rules : ArgumentRules A B) → AllByRecursion OfQuoted qs → AllByRecursion InKey keys
          → rules_of view qs keys ≡ Some rules → InRules rules
      rules_in [] keys rules h k e = never_some rules e
      rules_in (q ∷ qs) keys rules h k e =
          let s = arg_meaning view q keys rules e in
          record {
            flag = bare_in (codes "flag") (at_key view (codes "flag") keys) rules.flag (at_in (codes "flag") keys k) s.flag;
            help = property_in (codes "help") (at_key view (codes "help") keys) rules.help (at_in (codes "help") keys k) s.help;
            long = option_in (codes "long") (at_key view (codes "long") keys) rules.long (at_in (codes "long") keys k) s.long;
            max = bound_in (codes "max") (at_key view (codes "max") keys) rules.max (at_in (codes "max") keys k) s.max;
            min = bound_in (codes "min") (at_key view (codes "min") keys) rules.min (at_in (codes "min") keys k) s.min;
            multiple = bare_in (codes "multiple") (at_key view (codes "multiple") keys) rules.multiple (at_in (codes "multiple") keys k) s.multiple;
            name = subst OfQuoted s.name h.0;
            pattern = property_in (codes "pattern") (at_key view (codes "pattern") keys) rules.pattern (at_in (codes "pattern") keys k) s.pattern;
            short = option_in (codes "short") (at_key view (codes "short") keys) rules.short (at_in (codes "short") keys k) s.short;
            value = value_in (codes "value") (at_key view (codes "value") keys) rules.value (at_in (codes "value") keys k) s.value;
          }

      cache_in : (keys : List (KeyArgument A B)) (a : Attribute A B) → AllByRecursion InKey keys → of_literals view kinds.Cache [] keys ≡ Some a → InMeaning a
      cache_in keys a k e =
          let extra = bind_back (of_given (value_of view) (at_key view (codes "extra") keys)) _ a e in
          let inputs = bind_back (of_given (value_of view) (at_key view (codes "inputs") keys)) _ a extra.gives in
          let outputs = bind_back (of_given (value_of view) (at_key view (codes "outputs") keys)) _ a inputs.gives in
          of_some_is InMeaning (tree.Cache extra.first inputs.first outputs.first) a outputs.gives (
            value_in (codes "extra") (at_key view (codes "extra") keys) extra.first (at_in (codes "extra") keys k) extra.is,
            value_in (codes "inputs") (at_key view (codes "inputs") keys) inputs.first (at_in (codes "inputs") keys k) inputs.is,
            value_in (codes "outputs") (at_key view (codes "outputs") keys) outputs.first (at_in (codes "outputs") keys k) outputs.is,
          )

      env_in : (es : List (Expr A B)) (a : Attribute A B) → AllByRecursion OfExpr es → env_of view es ≡ Some a → InMeaning a
      env_in [] a h e = never_some a e
      env_in (x ∷ []) a h e = never_some a e
      env_in (key ∷ value ∷ es) a h e = of_some_is InMeaning (tree.Env key value) a e (h.0, h.1.0)

      single_in : (kind : AttributeKind) (es : List (Expr A B)) → AllByRecursion OfExpr es → InMeaning (single_of view kind es)
      single_in kind [] h = tt
      single_in kind (e ∷ es) h = h.0

      texts_in : (kind : AttributeKind) (qs : List (Quoted A)) → AllByRecursion OfQuoted qs → InMeaning (texts_of view kind qs)
      texts_in kind [] h = tt
      texts_in kind (q ∷ qs) h = h

      expressions_in : (kind : AttributeKind) (es : List (Expr A B)) (a : Attribute A B) → AllByRecursion OfExpr es → of_expressions view kind es ≡ Some a
          → InMeaning a
      expressions_in kinds.Env es a h e = env_in es a h e
      expressions_in kind es a h e = of_some_is InMeaning (single_of view kind es) a e (single_in kind es h)

      literals_in : (kind : AttributeKind) (qs : List (Quoted A)) (keys : List (KeyArgument A B)) (a : Attribute A B) → AllByRecursion OfQuoted qs
          → AllByRecursion InKey keys
          → of_literals view kind qs keys ≡ Some a → InMeaning a
      literals_in kinds.Arg qs keys a h k e =
          let r = bind_back (rules_of view qs keys) _ a e in of_some_is InMeaning (tree.Arg r.first) a r.gives (rules_in qs keys r.first h k r.is)
      literals_in kinds.Cache qs keys a h k e = cache_in keys a k e
      literals_in kinds.Continue qs keys a h k e =
          let g = bind_back (all_of (signal_of view) qs) _ a e in of_some_is InMeaning (tree.Signals (signal_set g.first)) a g.gives tt
      literals_in kind qs keys a h k e = of_some_is InMeaning (texts_of view kind qs) a e (texts_in kind qs h)

      takes_in : (expressions : Bool) (kind : AttributeKind) (es : List (Expr A B)) (keys : List (KeyArgument A B)) (a : Attribute A B)
          → AllByRecursion OfExpr es → AllByRecursion InKey keys
          → by_takes view expressions kind es keys ≡ Some a → InMeaning a
      takes_in true kind es keys a h k e = expressions_in kind es a h e
      takes_in false kind es keys a h k e =
          let q = bind_back (all_of quoted es) _ a e in literals_in kind q.first keys a (all_quoted_in es q.first h q.is) k q.gives

      pub entry_in : (w : WrittenAttribute A B) (e : Entry A B) → AllByRecursion (InArgument OfExpr OfKey) w.arguments → entry_of view w ≡ Some e
          → InMeaning e.attribute
      entry_in w e h m =
          let k = bind_back (kind_named (view.bytes w.name)) _ e m in
          let a = bind_back (attribute_of view k.first (by_position w.arguments) (by_key w.arguments)) _ e k.gives in
          of_some_is (λ (e : Entry A B). InMeaning e.attribute) (record { name = view.place w.name; attribute = a.first; comment = w.comment }) e a.gives
          (takes_in (takes_expressions k.first) k.first (map (λ (p : PositionalArgument A B). p.value) (by_position w.arguments)) (by_key w.arguments) a.first
          (values_in w.arguments h) (keys_in w.arguments h) a.is)

      pub entries_in : (ws : List (WrittenAttribute A B)) (es : List (Entry A B))
          → AllByRecursion (λ (w : WrittenAttribute A B). AllByRecursion (InArgument OfExpr OfKey) w.arguments) ws → all_of (entry_of view) ws ≡ Some es
          → AllByRecursion (λ (e : Entry A B). InMeaning e.attribute) es
      entries_in [] es h m = of_some_is (AllByRecursion (λ (e : Entry A B). InMeaning e.attribute)) [] es m tt
      entries_in (w ∷ ws) es h m =
          let e = bind_back (entry_of view w) _ es m in
          let r = bind_back (all_of (entry_of view) ws) _ es e.gives in
          of_some_is (AllByRecursion (λ (e : Entry A B). InMeaning e.attribute)) (e.first ∷ r.first) es r.gives
          (entry_in w e.first h.0 e.is, entries_in ws r.first h.1 r.is)
