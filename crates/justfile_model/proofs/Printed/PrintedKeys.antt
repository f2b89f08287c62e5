-- The arguments as which an attribute is printed: positional arguments, and then keys.
use Rattle.std.proofs.Common.{◌≡◌, ◌∙◌, ℕ, Bool, true, false, cond, not, List, [], ◌∷◌, ◌++◌, map, Option, Some, None, is_some, codes, refl, sym, ap, append_assoc, append-nil, true≢false}
use Rattle.std.proofs.lemmas.Bool.{or_parts}
use Rattle.std.proofs.lemmas.List.{map-append}
use Rattle.std.specs.List.{AllByRecursion, filter, find, list_any}
use Rattle.std.specs.Option.{option_map}
use Rattle.std.specs.Str.{bytes_eq}
use Rattle.justfile_vocabulary.specs.declared.attribute_kind.AttributeKind.{AttributeKind}
use Rattle.justfile_model.specs.Meanings.AttributeKinds.{known_keys}
use Rattle.justfile_model.specs.Meanings.AttributeRules.{of_some, least, order_broken, repeats_broken, is_known, unknown_broken}
use Rattle.justfile_model.specs.Lists.Distinct.{Distinct}
use Rattle.justfile_model.specs.LiteralTexts.Literals.{Expansions}
use Rattle.justfile_model.specs.Meanings.Meaning.{PositionalArgument, KeyArgument, by_position, by_key, is_key, at_key}
use Rattle.justfile_model.specs.Printed.Printing.{fixed_text, quoted_argument, signal_argument, keyed_if, bare_if, option_argument, number_literal, rules_arguments, cache_arguments, attribute_arguments}
use Rattle.justfile_vocabulary.specs.Signal.{signal_name}
use Rattle.justfile_vocabulary.specs.declared.signal.Signal.{Signal}
use Rattle.justfile_model.specs.Meanings.Rules.{DuplicateAttributeKey, UnknownAttributeKey, broken_if}
use Rattle.justfile_model.specs.Trees.LeafView.{LeafView, views_lexemes}
use Rattle.justfile_model.specs.Trees.Tree as tree
use Rattle.justfile_model.specs.Trees.Tree.{Expr, Quoted, Argument, OptionName, Property, Bound, ArgumentRules, Attribute}

-- a value of a shape
abbrev pub Value : Type 0
Value = Expr (List ℕ) (Unit {0})

-- a key of a shape
abbrev pub KeyOf : Type 0
KeyOf = KeyArgument (List ℕ) (Unit {0})

abbrev pub at_place : Value → PositionalArgument (List ℕ) (Unit {0})
at_place e = record { first = tt; value = e }

abbrev pub positional : Value → Argument (List ℕ) (Unit {0})
positional e = tree.Positional tt e

abbrev pub with_value : List ℕ → Option Value → Argument (List ℕ) (Unit {0})
with_value key None = tree.Bare key
with_value key (Some e) = tree.Keyed key e

abbrev pub key_argument : KeyOf → Argument (List ℕ) (Unit {0})
key_argument k = with_value k.key k.value

-- expressions, and then keys
abbrev pub arguments_of : List Value → List KeyOf → List (Argument (List ℕ) (Unit {0}))
arguments_of values keys = map positional values ++ map key_argument keys

keys_of_keys : (ks : List KeyOf) → by_key (map key_argument ks) ≡ ks
keys_of_keys [] = refl
keys_of_keys (k ∷ ks) = within k.value ∙ ap (λ l. k ∷ l) (keys_of_keys ks)
  where
    within : (v : Option Value) → by_key (with_value k.key v ∷ map key_argument ks) ≡ record { key = k.key; value = v } ∷ by_key (map key_argument ks)
    within None = refl
    within (Some e) = refl

places_of_keys : (ks : List KeyOf) → by_position (map key_argument ks) ≡ []
places_of_keys [] = refl
places_of_keys (k ∷ ks) = within k.value ∙ places_of_keys ks
  where
    within : (v : Option Value) → by_position (with_value k.key v ∷ map key_argument ks) ≡ by_position (map key_argument ks)
    within None = refl
    within (Some e) = refl

pub keys_of_arguments : (es : List Value) (ks : List KeyOf) → by_key (arguments_of es ks) ≡ ks
keys_of_arguments [] ks = keys_of_keys ks
keys_of_arguments (e ∷ es) ks = keys_of_arguments es ks

pub places_of_arguments : (es : List Value) (ks : List KeyOf) → by_position (arguments_of es ks) ≡ map at_place es
places_of_arguments [] ks = places_of_keys ks
places_of_arguments (e ∷ es) ks = ap (λ l. at_place e ∷ l) (places_of_arguments es ks)

-- one after the other
join : (us vs : List (Argument (List ℕ) (Unit {0}))) (ks ls : List KeyOf) → us ≡ map key_argument ks → vs ≡ map key_argument ls
    → us ++ vs ≡ map key_argument (ks ++ ls)
join us vs ks ls p q = (λ i. p i ++ q i) ∙ sym (map-append key_argument ks ls)

-- ---- keys by a table

-- a key with its value, if the attribute has the key
pub record Row : Type 0 where
  pub word : List ℕ
  pub value : Option (Option Value)

abbrev pub keyed : List ℕ → Option (Option Value) → List KeyOf
keyed word None = []
keyed word (Some v) = record { key = word; value = v } ∷ []

abbrev pub keys_in : List Row → List KeyOf
keys_in [] = []
keys_in (r ∷ rows) = keyed r.word r.value ++ keys_in rows

-- the same, after other keys
abbrev keys_from : List KeyOf → List Row → List KeyOf
keys_from before [] = before
keys_from before (r ∷ rows) = keys_from (before ++ keyed r.word r.value) rows

from_is : (before : List KeyOf) (rows : List Row) → keys_from before rows ≡ before ++ keys_in rows
from_is before [] = sym (append-nil before)
from_is before (r ∷ rows) = from_is (before ++ keyed r.word r.value) rows ∙ append_assoc before (keyed r.word r.value) (keys_in rows)

abbrev pub or_else : {X : Type 0} → Option X → Option X → Option X
or_else None o = o
or_else (Some x) o = Some x

-- the key of this name with a value
abbrev pub key_with : List ℕ → Option Value → KeyOf
key_with word v = record { key = word; value = v }

abbrev pub look : List ℕ → List Row → Option KeyOf
look word [] = None
look word (r ∷ rows) = or_else (cond (bytes_eq r.word word) (option_map (key_with r.word) r.value) None) (look word rows)

find_push : {X : Type 0} (p : X → Bool) (xs : List X) (x : X) → find p xs ≡ None → p x ≡ false → find p (xs ++ x ∷ []) ≡ None
find_push p [] x h k = ap (λ b. cond b (Some x) None) k
find_push p (y ∷ ys) x h k = within (p y) h (find_push p ys x)
  where
    within : (b : Bool) → cond b (Some y) (find p ys) ≡ None → (find p ys ≡ None → p x ≡ false → find p (ys ++ x ∷ []) ≡ None)
        → cond b (Some y) (find p (ys ++ x ∷ [])) ≡ None
    within true e f = absurd (true≢false (ap is_some e))
    within false e f = f e k

module _ (expander : Expansions) where
  abbrev view : LeafView (List ℕ) (Unit {0})
  view = views_lexemes expander

  pub at_key_in : (word : List ℕ) (rows : List Row) → at_key view word (keys_in rows) ≡ look word rows
  at_key_in word [] = refl
  at_key_in word (r ∷ rows) =
      within r.value (bytes_eq r.word word) ∙ ap (or_else (cond (bytes_eq r.word word) (option_map (key_with r.word) r.value) None)) (at_key_in word rows)
    where
      found : (b : Bool) (k : KeyOf) → cond b (Some k) (at_key view word (keys_in rows)) ≡ or_else (cond b (Some k) None) (at_key view word (keys_in rows))
      found true k = refl
      found false k = refl

      absent : (b : Bool) → at_key view word (keys_in rows) ≡ or_else (cond b None None) (at_key view word (keys_in rows))
      absent true = refl
      absent false = refl

      within : (v : Option (Option Value)) (b : Bool)
          → at_key view word (keyed r.word v ++ keys_in rows)
          ≡ or_else (cond (bytes_eq r.word word) (option_map (key_with r.word) v) None) (at_key view word (keys_in rows))
      within None b = absent (bytes_eq r.word word)
      within (Some v) b = found (bytes_eq r.word word) (key_with r.word v)

  order_of_keys : (after_key : Bool) (ks : List KeyOf) → order_broken view tt after_key (map key_argument ks) ≡ []
  order_of_keys after_key [] = refl
  order_of_keys after_key (k ∷ ks) = within k.value ∙ order_of_keys true ks
    where
      within : (v : Option Value)
          → order_broken view tt after_key (with_value k.key v ∷ map key_argument ks) ≡ order_broken view tt true (map key_argument ks)
      within None = refl
      within (Some e) = refl

  pub order_of_arguments : (es : List Value) (ks : List KeyOf) → order_broken view tt false (arguments_of es ks) ≡ []
  order_of_arguments [] ks = order_of_keys false ks
  order_of_arguments (e ∷ es) ks = order_of_arguments es ks

  abbrev same_word : Row → Row → Bool
  same_word r s = bytes_eq r.word s.word

  -- none of the keys was there before
  abbrev Fresh : List KeyOf → List Row → Type 0
  Fresh before rows = AllByRecursion (λ (r : Row). at_key view r.word before ≡ None) rows

  fresh_after : (before : List KeyOf) (r : Row) (v : Option Value) (rows : List Row) → Fresh before rows → list_any (same_word r) rows ≡ false
      → Fresh (before ++ key_with r.word v ∷ []) rows
  fresh_after before r v [] h d = tt
  fresh_after before r v (s ∷ rows) h d =
      let n = or_parts (same_word r s) (list_any (same_word r) rows) d in
      (find_push (is_key view s.word) before (key_with r.word v) h.0 n.0, fresh_after before r v rows h.1 n.1)

  once : (before : List KeyOf) (rows : List Row) → Fresh before rows → Distinct same_word rows → repeats_broken view tt before (keys_in rows) ≡ []
  once before [] h d = refl
  once before (r ∷ rows) h d =
      within r.value (once before rows h.1 d.1) (λ v. once (before ++ key_with r.word v ∷ []) rows (fresh_after before r v rows h.1 d.0) d.1)
    where
      within : (v : Option (Option Value)) → repeats_broken view tt before (keys_in rows) ≡ []
          → ((v : Option Value) → repeats_broken view tt (before ++ key_with r.word v ∷ []) (keys_in rows) ≡ [])
          → repeats_broken view tt before (keyed r.word v ++ keys_in rows) ≡ []
      within None e f = e
      within (Some v) e f =
          (λ i. broken_if (is_some (h.0 i)) (DuplicateAttributeKey tt tt) tt ++ repeats_broken view tt (before ++ key_with r.word v ∷ []) (keys_in rows)) ∙ f v

  all_fresh : (rows : List Row) → Fresh [] rows
  all_fresh [] = tt
  all_fresh (r ∷ rows) = (refl, all_fresh rows)

  -- keys of different names are there once
  pub each_once : (rows : List Row) → Distinct same_word rows → repeats_broken view tt [] (keys_in rows) ≡ []
  each_once rows d = once [] rows (all_fresh rows) d

  module _ (kind : AttributeKind) where
    abbrev IsKnown : Row → Type 0
    IsKnown r = list_any (bytes_eq r.word) (known_keys kind) ≡ true

    none_unknown : (rows : List Row) → AllByRecursion IsKnown rows → filter (λ k. not (is_known view tt kind k)) (keys_in rows) ≡ []
    none_unknown [] h = refl
    none_unknown (r ∷ rows) h = within r.value ∙ none_unknown rows h.1
      where
        within : (v : Option (Option Value))
            → filter (λ k. not (is_known view tt kind k)) (keyed r.word v ++ keys_in rows) ≡ filter (λ k. not (is_known view tt kind k)) (keys_in rows)
        within None = refl
        within (Some v) =
            ap
            (λ b. cond (not b) (key_with r.word v ∷ filter (λ k. not (is_known view tt kind k)) (keys_in rows))
            (filter (λ k. not (is_known view tt kind k)) (keys_in rows))) h.0

    pub each_known : (rows : List Row) → AllByRecursion IsKnown rows → unknown_broken view tt kind (keys_in rows) ≡ []
    each_known rows h =
        ap (λ l. of_some (λ (k : KeyOf). record { rule = UnknownAttributeKey tt tt; token = tt } ∷ []) (least (λ (k : KeyOf). k.key) l)) (none_unknown rows h)

-- ---- the arguments of each attribute

abbrev pub option_value : OptionName (List ℕ) (Unit {0}) → Option (Option Value)
option_value tree.NoOption = None
option_value (tree.OwnName key) = Some None
option_value (tree.Named q) = Some (Some (tree.StringLiteral q.expanded q.token))

abbrev pub property_value : Option (Property (List ℕ) (Unit {0})) → Option (Option Value)
property_value = option_map (λ (p : Property (List ℕ) (Unit {0})). Some p.value)

abbrev pub bare_value : Option (Unit {0}) → Option (Option Value)
bare_value = option_map (λ b. None)

abbrev pub bound_value : Option (Bound (Unit {0})) → Option (Option Value)
bound_value = option_map (λ (b : Bound (Unit {0})). Some (number_literal b.number))

abbrev pub expr_value : Option Value → Option (Option Value)
expr_value = option_map (λ (e : Value). Some e)

abbrev pub rules_rows : ArgumentRules (List ℕ) (Unit {0}) → List Row
rules_rows a =
    record { word = codes "long"; value = option_value a.long } ∷ record { word = codes "short"; value = option_value a.short }
    ∷ record { word = codes "pattern"; value = property_value a.pattern } ∷ record { word = codes "value"; value = expr_value a.value }
    ∷ record { word = codes "flag"; value = bare_value a.flag } ∷ record { word = codes "multiple"; value = bare_value a.multiple }
    ∷ record { word = codes "min"; value = bound_value a.min } ∷ record { word = codes "max"; value = bound_value a.max }
    ∷ record { word = codes "help"; value = property_value a.help } ∷ []

abbrev pub cache_rows : (extra inputs outputs : Option Value) → List Row
cache_rows extra inputs outputs =
    record { word = codes "extra"; value = expr_value extra } ∷ record { word = codes "inputs"; value = expr_value inputs }
    ∷ record { word = codes "outputs"; value = expr_value outputs } ∷ []

abbrev pub literal_of : Quoted (List ℕ) → Value
literal_of q = tree.StringLiteral q.expanded q.token

abbrev pub signal_literal : Signal → Value
signal_literal s = tree.StringLiteral false (fixed_text (codes "\"") ++ fixed_text (signal_name s) ++ fixed_text (codes "\""))

-- the expressions
abbrev pub values_of : Attribute (List ℕ) (Unit {0}) → List Value
values_of (tree.Plain kind) = []
values_of (tree.Single kind value) = value ∷ []
values_of (tree.Texts kind texts) = map literal_of texts
values_of (tree.Env key value) = key ∷ value ∷ []
values_of (tree.Signals signals) = map signal_literal signals
values_of (tree.Cache extra inputs outputs) = []
values_of (tree.Arg rules) = literal_of rules.name ∷ []

-- and the keys
abbrev pub rows_of : Attribute (List ℕ) (Unit {0}) → List Row
rows_of (tree.Cache extra inputs outputs) = cache_rows extra inputs outputs
rows_of (tree.Arg rules) = rules_rows rules
rows_of _ = []

module _ (word : List ℕ) where
  option_is : (o : OptionName (List ℕ) (Unit {0})) → option_argument word o ≡ map key_argument (keyed word (option_value o))
  unfolding fixed_text
  option_is tree.NoOption = refl
  option_is _ = refl

  keyed_is : {X : Type 0} (f : X → Value) (o : Option X) → keyed_if word f o ≡ map key_argument (keyed word (option_map (λ x. Some (f x)) o))
  unfolding fixed_text
  keyed_is f None = refl
  keyed_is f (Some x) = refl

  bare_is : (o : Option (Unit {0})) → bare_if word o ≡ map key_argument (keyed word (bare_value o))
  unfolding fixed_text
  bare_is None = refl
  bare_is (Some x) = refl

rules_are : (a : ArgumentRules (List ℕ) (Unit {0})) → rules_arguments a ≡ arguments_of (literal_of a.name ∷ []) (keys_in (rules_rows a))
rules_are a =
    ap (λ l. quoted_argument a.name ∷ l)
    (join _ _ _ _ (join _ _ _ _ (join _ _ _ _ (join _ _ _ _ (join _ _ _ _ (join _ _ _ _ (join _ _ _ _ (join _ _ _ _
    (option_is (codes "long") a.long) (option_is (codes "short") a.short))
    (keyed_is (codes "pattern") (λ (p : Property (List ℕ) (Unit {0})). p.value) a.pattern))
    (keyed_is (codes "value") (λ (e : Value). e) a.value))
    (bare_is (codes "flag") a.flag)) (bare_is (codes "multiple") a.multiple))
    (keyed_is (codes "min") (λ (b : Bound (Unit {0})). number_literal b.number) a.min))
    (keyed_is (codes "max") (λ (b : Bound (Unit {0})). number_literal b.number) a.max))
    (keyed_is (codes "help") (λ (p : Property (List ℕ) (Unit {0})). p.value) a.help)
    ∙ ap (map key_argument) (from_is [] (rules_rows a)))

cache_is : (extra inputs outputs : Option Value) → cache_arguments extra inputs outputs ≡ arguments_of [] (keys_in (cache_rows extra inputs outputs))
cache_is extra inputs outputs =
    join _ _ _ _ (join _ _ _ _ (keyed_is (codes "extra") (λ (e : Value). e) extra) (keyed_is (codes "inputs") (λ (e : Value). e) inputs))
    (keyed_is (codes "outputs") (λ (e : Value). e) outputs)
    ∙ ap (map key_argument) (from_is [] (cache_rows extra inputs outputs))

texts_are : (texts : List (Quoted (List ℕ))) → map quoted_argument texts ≡ arguments_of (map literal_of texts) []
texts_are [] = refl
texts_are (q ∷ qs) = ap (λ l. quoted_argument q ∷ l) (texts_are qs)

signals_are : (signals : List Signal) → map signal_argument signals ≡ arguments_of (map signal_literal signals) []
signals_are [] = refl
signals_are (s ∷ ss) = ap (λ l. signal_argument s ∷ l) (signals_are ss)

-- what an attribute is printed with
pub arguments_are : (a : Attribute (List ℕ) (Unit {0})) → attribute_arguments a ≡ arguments_of (values_of a) (keys_in (rows_of a))
arguments_are (tree.Texts kind texts) = texts_are texts
arguments_are (tree.Signals signals) = signals_are signals
arguments_are (tree.Cache extra inputs outputs) = cache_is extra inputs outputs
arguments_are (tree.Arg rules) = rules_are rules
arguments_are _ = refl
