-- Printed attributes mean the attributes that were printed, and break no rule, if these are the meaning of attributes that break none.
use Rattle.std.proofs.Common.{◌≡◌, ◌∙◌, ℕ, ◌≤◌, Bool, true, false, cond, not, ◌||◌, nat_lt, List, [], ◌∷◌, ◌++◌, map, length, Option, Some, None, is_some, codes, refl, sym, ap, subst, arith, le-ltb, ltb-false}
use denote.Enum.Bare.{sameb}
use Rattle.std.proofs.lemmas.Bool.{or_parts}
use Rattle.std.proofs.lemmas.List.{length-map}
use Rattle.std.specs.List.{filter, flat_map, list_any}
use Rattle.std.specs.Str.{bytes_eq}
use Rattle.justfile_vocabulary.specs.AttributeKind.{attribute_name, kind_named}
use Rattle.justfile_vocabulary.specs.Signal.{signal_name, signal_named}
use Rattle.justfile_vocabulary.specs.contracts.signal.Signal as signal_type
use Rattle.justfile_vocabulary.specs.declared.attribute_kind.AttributeKind.{AttributeKind}
use Rattle.justfile_vocabulary.specs.declared.attribute_kind.AttributeKind.TheVariants as kinds
use Rattle.justfile_vocabulary.specs.declared.signal.Signal.{Signal}
use Rattle.justfile_vocabulary.specs.declared.signal.Signal.TheVariants.{Hangup, Interrupt, Quit}
use Rattle.justfile_vocabulary.proofs.AttributeKindLaws as kind_laws
use Rattle.justfile_vocabulary.proofs.SignalLaws as signal_laws
use Rattle.justfile_model.specs.Meanings.AttributeKinds.{known_keys, least_count, most_count}
use Rattle.justfile_model.specs.Meanings.AttributeRules.{has_more, of_some, least, count_broken, expressions_broken, repeats_broken, unknown_broken, signals_broken, arg_broken, kind_broken, arguments_broken, order_broken, known_broken, named_broken, attribute_broken}
use Rattle.justfile_model.specs.Trees.ContentKeys.{kind_of_attribute}
use Rattle.justfile_model.specs.LiteralTexts.Literals.{Expansions}
use Rattle.justfile_model.specs.Meanings.Meaning.{◌>>=◌, all_of, of_given, value_of, at_key, quoted, PositionalArgument, by_position, by_key, quoted_text, signal_set, single_of, texts_of, signal_of, rules_of, attribute_of, entry_of}
use Rattle.justfile_model.specs.Printed.Printing.{fixed_text, attribute_arguments}
use Rattle.justfile_model.specs.Printed.PrintedAttributes.{rewritten_entry}
use Rattle.justfile_model.specs.Meanings.Rules.{Broken, InvalidSignal, UnknownAttributeKey, AttributeArgumentCountMismatch, broken_if}
use Rattle.justfile_model.specs.Trees.LeafView.{LeafView, views_lexemes, or_empty, text_or_none}
use Rattle.justfile_model.specs.Trees.Tree as tree
use Rattle.justfile_model.specs.Trees.Tree.{Expr, Quoted, WrittenAttribute, ArgumentRules, Attribute, Entry}
use Rattle.justfile_model.proofs.Lists.Binds.{some_back, never_some, bind_back, bind_is, never_nil, nothing_in}
use Rattle.justfile_model.proofs.Meanings.MeaningParts.{arg_meaning}
use Rattle.justfile_model.proofs.Printed.PrintedArg.{quoted_back, Numbered, numbered, max_bounds, min_bounds, rules_again, unbroken_again}
use Rattle.justfile_model.proofs.Printed.PrintedKeys.{Value, KeyOf, at_place, keys_of_arguments, places_of_arguments, order_of_arguments, keys_in, each_once, each_known, rules_rows, cache_rows, literal_of, signal_literal, values_of, rows_of, arguments_are}
use Rattle.justfile_model.proofs.Printed.PrintedTexts.{quoted_signal}

-- ---- what is not broken

unless : {T : Type 0} (b : Bool) (x : T) → cond b (x ∷ []) [] ≡ [] → b ≡ false
unless true x e = never_nil x [] e
unless false x e = refl

-- expressions that are all literals
all_literals : (es : List Value) (texts : List (Quoted (List ℕ))) → all_of quoted es ≡ Some texts → es ≡ map literal_of texts
all_literals [] texts e = ap (map literal_of) (some_back [] texts e)
all_literals (x ∷ es) texts e =
    let q = bind_back (quoted x) _ texts e in
    let qs = bind_back (all_of quoted es) _ texts q.gives in
    (λ i. quoted_back x q.first q.is i ∷ all_literals es qs.first qs.is i) ∙ ap (map literal_of) (some_back (q.first ∷ qs.first) texts qs.gives)

module _ (expander : Expansions) where
  abbrev view : LeafView (List ℕ) (Unit {0})
  view = views_lexemes expander

  abbrev Shaped : Type 0
  Shaped = Attribute (List ℕ) (Unit {0})

  -- its numbers can be printed
  abbrev pub NumbersAre : Shaped → Type 0
  NumbersAre (tree.Arg rules) = Numbered expander rules.max × Numbered expander rules.min
  NumbersAre a = Unit {0}

  -- an attribute of this kind, with the arguments that it is printed with
  pub record Rewrites (kind : AttributeKind) (a : Shaped) : Type 0 where
    pub kind_is : kind_of_attribute a ≡ kind
    pub means : attribute_of view kind (map at_place (values_of a)) (keys_in (rows_of a)) ≡ Some a
    pub once : repeats_broken view tt [] (keys_in (rows_of a)) ≡ []
    pub unbroken : arguments_broken view tt kind (map at_place (values_of a)) (keys_in (rows_of a)) ≡ []
    pub numbers : NumbersAre a

  -- what attributes break in four parts
  record Parts (kind : AttributeKind) (es : List Value) (keys : List KeyOf) : Type 0 where
    count : count_broken view tt kind (length (map at_place es)) ≡ []
    expressions : expressions_broken view tt kind (map at_place es) ≡ []
    of_kind : kind_broken view tt kind (map at_place es) keys ≡ []
    unknown : unknown_broken view tt kind keys ≡ []

  parts : (kind : AttributeKind) (es : List Value) (keys : List KeyOf) → arguments_broken view tt kind (map at_place es) keys ≡ [] → Parts kind es keys
  parts kind es keys h =
      let a = nothing_in _ _ h in
      let b = nothing_in _ _ a.0 in
      let c = nothing_in _ _ b.0 in
      record { count = c.0; expressions = c.1; of_kind = b.1; unknown = a.1 }

  -- at most the bound
  at_most : (kind : AttributeKind) (es : List Value) (most : ℕ) → count_broken view tt kind (length (map at_place es)) ≡ [] → most_count kind ≡ Some most
      → length es ≤ most
  at_most kind es most h e =
      let found = length (map at_place es) in
      let n = unless (nat_lt found (least_count kind) || has_more found (most_count kind)) _ h in
      let m = or_parts (nat_lt found (least_count kind)) (has_more found (most_count kind)) n in
      let le : found ≤ most = ltb-false most found (sym (ap (has_more found) e) ∙ m.1) in
      subst (λ n. n ≤ most) (length-map es at_place) le

  -- without known keys there are none
  no_keys : (kind : AttributeKind) (keys : List KeyOf) → known_keys kind ≡ [] → unknown_broken view tt kind keys ≡ [] → keys ≡ []
  no_keys kind [] e h = refl
  no_keys kind (k ∷ keys) e h =
      never_nil _ _ (sym (ap broken (ap (λ (words : List (List ℕ)). filter (λ (k : KeyOf). not (list_any (bytes_eq k.key) words)) (k ∷ keys)) e)) ∙ h)
    where
      broken : List KeyOf → List (Broken (Unit {0}))
      broken l = of_some (λ (k : KeyOf). record { rule = UnknownAttributeKey tt tt; token = tt } ∷ []) (least (λ (k : KeyOf). k.key) l)

  -- where the attribute is printed as it was written
  as_written : (kind : AttributeKind) (es : List Value) (keys : List KeyOf) (a : Shaped) → attribute_of view kind (map at_place es) keys ≡ Some a
      → arguments_broken view tt kind (map at_place es) keys ≡ []
      → kind_of_attribute a ≡ kind → es ≡ values_of a → keys ≡ [] → rows_of a ≡ [] → NumbersAre a → Rewrites kind a
  as_written kind es keys a m u k e f r n =
      let rows : keys_in (rows_of a) ≡ [] = ap keys_in r in
      record {
        kind_is = k;
        means = (λ i. attribute_of view kind (map at_place (sym e i)) ((rows ∙ sym f) i)) ∙ m;
        once = ap (repeats_broken view tt []) rows;
        unbroken = (λ i. arguments_broken view tt kind (map at_place (sym e i)) ((rows ∙ sym f) i)) ∙ u;
        numbers = n;
      }

  values_at : (es : List Value) → map (λ (p : PositionalArgument (List ℕ) (Unit {0})). p.value) (map at_place es) ≡ es
  values_at [] = refl
  values_at (e ∷ es) = ap (λ l. e ∷ l) (values_at es)

  -- ---- one expression or none

  single_case : (kind : AttributeKind) (es : List Value) (keys : List KeyOf) (a : Shaped) → attribute_of view kind (map at_place es) keys ≡ Some a
      → arguments_broken view tt kind (map at_place es) keys ≡ []
      → attribute_of view kind (map at_place es) keys ≡ Some (single_of view kind (map (λ (p : PositionalArgument (List ℕ) (Unit {0})). p.value) (map at_place es)))
      → known_keys kind ≡ [] → most_count kind ≡ Some 1 → Rewrites kind a
  single_case kind es keys a m u is known most =
      let is' : attribute_of view kind (map at_place es) keys ≡ Some (single_of view kind es) = is ∙ ap (λ l. Some (single_of view kind l)) (values_at es) in
      subst (Rewrites kind) (some_back (single_of view kind es) a (sym is' ∙ m)) (go es is' u)
    where
      go : (es : List Value) → attribute_of view kind (map at_place es) keys ≡ Some (single_of view kind es)
          → arguments_broken view tt kind (map at_place es) keys ≡ [] → Rewrites kind (single_of view kind es)
      go [] m u = as_written kind [] keys (tree.Plain kind) m u refl refl (no_keys kind keys known (parts kind [] keys u).unknown) refl tt
      go (e ∷ []) m u = as_written kind (e ∷ []) keys (tree.Single kind e) m u refl refl (no_keys kind keys known (parts kind (e ∷ []) keys u).unknown) refl tt
      go (e ∷ x ∷ es) m u = absurd (let le = at_most kind (e ∷ x ∷ es) 1 (parts kind (e ∷ x ∷ es) keys u).count most in omega arith)

  -- ---- literals

  text_case : (kind : AttributeKind) (es : List Value) (keys : List KeyOf) (a : Shaped) → attribute_of view kind (map at_place es) keys ≡ Some a
      → arguments_broken view tt kind (map at_place es) keys ≡ []
      → attribute_of view kind (map at_place es) keys
      ≡ (all_of quoted (map (λ (p : PositionalArgument (List ℕ) (Unit {0})). p.value) (map at_place es)) >>= (λ texts. Some (texts_of view kind texts)))
      → known_keys kind ≡ [] → Rewrites kind a
  text_case kind es keys a m u is known =
      let t = bind_back (all_of quoted (map (λ (p : PositionalArgument (List ℕ) (Unit {0})). p.value) (map at_place es))) (λ texts. Some (texts_of view kind texts)) a
      (sym is ∙ m) in
      let same : texts_of view kind t.first ≡ a = some_back (texts_of view kind t.first) a t.gives in
      subst (Rewrites kind) same (go t.first (sym (values_at es) ∙ all_literals _ t.first t.is) (m ∙ ap Some (sym same)))
    where
      go : (texts : List (Quoted (List ℕ))) → es ≡ map literal_of texts → attribute_of view kind (map at_place es) keys ≡ Some (texts_of view kind texts)
          → Rewrites kind (texts_of view kind texts)
      go [] e m = as_written kind es keys (tree.Plain kind) m u refl e (no_keys kind keys known (parts kind es keys u).unknown) refl tt
      go (q ∷ qs) e m = as_written kind es keys (tree.Texts kind (q ∷ qs)) m u refl e (no_keys kind keys known (parts kind es keys u).unknown) refl tt

  -- ---- `env`

  env_case : (es : List Value) (keys : List KeyOf) (a : Shaped) → attribute_of view kinds.Env (map at_place es) keys ≡ Some a
      → arguments_broken view tt kinds.Env (map at_place es) keys ≡ [] → Rewrites kinds.Env a
  env_case [] keys a m u = never_some a m
  env_case (e ∷ []) keys a m u = never_some a m
  env_case (key ∷ value ∷ []) keys a m u =
      subst (Rewrites kinds.Env) (some_back (tree.Env key value) a m)
      (as_written kinds.Env (key ∷ value ∷ []) keys (tree.Env key value) refl u refl refl
      (no_keys kinds.Env keys refl (parts kinds.Env (key ∷ value ∷ []) keys u).unknown) refl tt)
  env_case (key ∷ value ∷ e ∷ es) keys a m u =
      absurd (let le = at_most kinds.Env (key ∷ value ∷ e ∷ es) 2 (parts kinds.Env (key ∷ value ∷ e ∷ es) keys u).count refl in omega arith)

  -- ---- `continue`

  abbrev signal_quoted : Signal → Quoted (List ℕ)
  signal_quoted s = record { expanded = false; token = fixed_text (codes "\"") ++ fixed_text (signal_name s) ++ fixed_text (codes "\"") }

  quoted_signals : (ss : List Signal)
      → all_of quoted (map (λ (p : PositionalArgument (List ℕ) (Unit {0})). p.value) (map at_place (map signal_literal ss))) ≡ Some (map signal_quoted ss)
  quoted_signals [] = refl
  quoted_signals (s ∷ ss) = ap (λ o. o >>= (λ qs. Some (signal_quoted s ∷ qs))) (quoted_signals ss)

  named_signals : (ss : List Signal) → all_of (signal_of view) (map signal_quoted ss) ≡ Some ss
  named_signals [] = refl
  named_signals (s ∷ ss) =
      let one : signal_of view (signal_quoted s) ≡ Some s = ap (λ t. signal_named (or_empty (text_or_none t))) (quoted_signal s) ∙ signal_laws.named s in
      (λ i. one i >>= (λ y. named_signals ss i >>= (λ ys. Some (y ∷ ys))))

  no_expressions : (ss : List Signal) → expressions_broken view tt kinds.Continue (map at_place (map signal_literal ss)) ≡ []
  no_expressions [] = refl
  no_expressions (s ∷ ss) = no_expressions ss

  none_invalid : (ss : List Signal) → flat_map (signals_broken view tt) (map at_place (map signal_literal ss)) ≡ []
  none_invalid [] = refl
  none_invalid (s ∷ ss) =
      (λ i. of_some (λ name. broken_if (not (is_some (signal_named name))) (InvalidSignal name) tt) (text_or_none (quoted_signal s i)) ++ none_invalid ss i)
      ∙ ap (λ o. broken_if (not (is_some o)) (InvalidSignal (signal_name s)) tt ++ []) (signal_laws.named s)

  signals_case : (ss : List Signal) → signal_set ss ≡ ss → Rewrites kinds.Continue (tree.Signals ss)
  signals_case ss e = let found = length (map at_place (map signal_literal ss)) in record {
    kind_is = refl;
    means = ap (λ o. o >>= (λ texts. all_of (signal_of view) texts >>= (λ given. Some (tree.Signals (signal_set given))))) (quoted_signals ss)
        ∙ ap (λ o. o >>= (λ given. Some (tree.Signals (signal_set given)))) (named_signals ss) ∙ ap (λ l. Some (tree.Signals l)) e;
    once = refl;
    unbroken = λ i. broken_if (le-ltb found 0 (omega arith) i || false) (AttributeArgumentCountMismatch tt found 0 None) tt ++ no_expressions ss i
        ++ none_invalid ss i ++ [];
    numbers = tt;
  }

  twice : (h i q : Bool)
      → signal_set
      (cond h (Hangup ∷ cond i (Interrupt ∷ cond q (Quit ∷ []) []) (cond q (Quit ∷ []) []))
      (cond i (Interrupt ∷ cond q (Quit ∷ []) []) (cond q (Quit ∷ []) [])))
      ≡ cond h (Hangup ∷ cond i (Interrupt ∷ cond q (Quit ∷ []) []) (cond q (Quit ∷ []) []))
      (cond i (Interrupt ∷ cond q (Quit ∷ []) []) (cond q (Quit ∷ []) []))
  twice true true true = refl
  twice true true false = refl
  twice true false true = refl
  twice true false false = refl
  twice false true true = refl
  twice false true false = refl
  twice false false true = refl
  twice false false false = refl

  set_twice : (ss : List Signal) → signal_set (signal_set ss) ≡ signal_set ss
  set_twice ss =
      twice (list_any (sameb signal_type.the_type Hangup) ss) (list_any (sameb signal_type.the_type Interrupt) ss)
      (list_any (sameb signal_type.the_type Quit) ss)

  continue_case : (es : List Value) (keys : List KeyOf) (a : Shaped) → attribute_of view kinds.Continue (map at_place es) keys ≡ Some a
      → Rewrites kinds.Continue a
  continue_case es keys a m =
      let t = bind_back (all_of quoted (map (λ (p : PositionalArgument (List ℕ) (Unit {0})). p.value) (map at_place es))) _ a m in
      let g = bind_back (all_of (signal_of view) t.first) _ a t.gives in
      subst (Rewrites kinds.Continue) (some_back _ a g.gives) (signals_case (signal_set g.first) (set_twice g.first))

  -- ---- `cache`

  cache_again : (extra inputs outputs : Option Value)
      → (attribute_of view kinds.Cache [] (keys_in (cache_rows extra inputs outputs)) ≡ Some (tree.Cache extra inputs outputs))
      × (arguments_broken view tt kinds.Cache [] (keys_in (cache_rows extra inputs outputs)) ≡ [])
  cache_again None None None = (refl, refl)
  cache_again None None (Some z) = (refl, refl)
  cache_again None (Some y) None = (refl, refl)
  cache_again None (Some y) (Some z) = (refl, refl)
  cache_again (Some x) None None = (refl, refl)
  cache_again (Some x) None (Some z) = (refl, refl)
  cache_again (Some x) (Some y) None = (refl, refl)
  cache_again (Some x) (Some y) (Some z) = (refl, refl)

  cache_case : (es : List Value) (keys : List KeyOf) (a : Shaped) → attribute_of view kinds.Cache (map at_place es) keys ≡ Some a → Rewrites kinds.Cache a
  cache_case es keys a m =
      let t = bind_back (all_of quoted (map (λ (p : PositionalArgument (List ℕ) (Unit {0})). p.value) (map at_place es))) _ a m in
      let x = bind_back (of_given (value_of view) (at_key view (codes "extra") keys)) _ a t.gives in
      let y = bind_back (of_given (value_of view) (at_key view (codes "inputs") keys)) _ a x.gives in
      let z = bind_back (of_given (value_of view) (at_key view (codes "outputs") keys)) _ a y.gives in
      subst (Rewrites kinds.Cache) (some_back (tree.Cache x.first y.first z.first) a z.gives)
      (record {
        kind_is = refl;
        means = (cache_again x.first y.first z.first).0;
        once = each_once expander (cache_rows x.first y.first z.first)
            (refl, (refl, (refl, tt)));
        unbroken = (cache_again x.first y.first z.first).1;
        numbers = tt;
      })

  -- ---- `arg`

  arg_unbroken : (q : Quoted (List ℕ)) (keys printed : List KeyOf)
      → ((argument : List ℕ) → arg_broken view tt argument keys ≡ [] → arg_broken view tt argument printed ≡ [])
      → kind_broken view tt kinds.Arg (at_place (literal_of q) ∷ []) keys ≡ [] → kind_broken view tt kinds.Arg (at_place (literal_of q) ∷ []) printed ≡ []
  arg_unbroken q keys printed again h = go (quoted_text view q) h
    where
      go : (o : Option (List ℕ)) → of_some (λ argument. arg_broken view tt argument keys) o ++ [] ≡ []
          → of_some (λ argument. arg_broken view tt argument printed) o ++ [] ≡ []
      go None h = refl
      go (Some argument) h = ap (λ l. l ++ []) (again argument (nothing_in (arg_broken view tt argument keys) [] h).0)

  arg_again : (e : Value) (q : Quoted (List ℕ)) (keys : List KeyOf) (rules : ArgumentRules (List ℕ) (Unit {0})) → e ≡ literal_of q
      → rules_of view (q ∷ []) keys ≡ Some rules
      → arguments_broken view tt kinds.Arg (at_place e ∷ []) keys ≡ [] → Rewrites kinds.Arg (tree.Arg rules)
  arg_again e q keys rules is m u =
      let s = arg_meaning view q keys rules m in
      let printed = keys_in (rules_rows rules) in
      let name = is ∙ ap literal_of s.name in
      let before : kind_broken view tt kinds.Arg (at_place (literal_of rules.name) ∷ []) keys ≡ [] =
      ap (λ x. kind_broken view tt kinds.Arg (at_place x ∷ []) keys) (sym name) ∙ (parts kinds.Arg (e ∷ []) keys u).of_kind in
      let of_kind = arg_unbroken rules.name keys printed (λ argument h. unbroken_again expander q keys rules s argument h) before in
      let unknown = each_known expander kinds.Arg (rules_rows rules) (refl, (refl, (refl, (refl, (refl, (refl, (refl, (refl, (refl, tt))))))))) in
      record {
        kind_is = refl;
        means = ap (λ o. o >>= (λ rules. Some (tree.Arg rules))) (rules_again expander q keys rules s);
        once = each_once expander (rules_rows rules) (refl, (refl, (refl, (refl, (refl, (refl, (refl, (refl, (refl, tt)))))))));
        unbroken = λ i. of_kind i ++ unknown i;
        numbers = (numbered expander _ rules.max (max_bounds expander q keys rules s), numbered expander _ rules.min (min_bounds expander q keys rules s));
      }

  arg_case : (es : List Value) (keys : List KeyOf) (a : Shaped) → attribute_of view kinds.Arg (map at_place es) keys ≡ Some a
      → arguments_broken view tt kinds.Arg (map at_place es) keys ≡ [] → Rewrites kinds.Arg a
  arg_case [] keys a m u = never_some a m
  arg_case (e ∷ x ∷ es) keys a m u = absurd (let le = at_most kinds.Arg (e ∷ x ∷ es) 1 (parts kinds.Arg (e ∷ x ∷ es) keys u).count refl in omega arith)
  arg_case (e ∷ []) keys a m u =
      let t = bind_back (all_of quoted (e ∷ [])) _ a m in
      let q = bind_back (quoted e) _ t.first t.is in
      let texts : q.first ∷ [] ≡ t.first = some_back (q.first ∷ []) t.first q.gives in
      let r = bind_back (rules_of view t.first keys) _ a t.gives in
      subst (Rewrites kinds.Arg) (some_back (tree.Arg r.first) a r.gives)
      (arg_again e q.first keys r.first (quoted_back e q.first q.is) (ap (λ l. rules_of view l keys) texts ∙ r.is) u)

  -- ---- each kind

  pub kept : (kind : AttributeKind) (es : List Value) (keys : List KeyOf) (a : Shaped) → attribute_of view kind (map at_place es) keys ≡ Some a
      → arguments_broken view tt kind (map at_place es) keys ≡ [] → Rewrites kind a
  kept kinds.Arg es keys a m u = arg_case es keys a m u
  kept kinds.Cache es keys a m u = cache_case es keys a m
  kept kinds.Continue es keys a m u = continue_case es keys a m
  kept kinds.Env es keys a m u = env_case es keys a m u
  kept kinds.Confirm es keys a m u = single_case kinds.Confirm es keys a m u refl refl refl
  kept kinds.Doc es keys a m u = single_case kinds.Doc es keys a m u refl refl refl
  kept kinds.Timestamp es keys a m u = single_case kinds.Timestamp es keys a m u refl refl refl
  kept kinds.WorkingDirectory es keys a m u = single_case kinds.WorkingDirectory es keys a m u refl refl refl
  kept kind es keys a m u = text_case kind es keys a m u refl refl

  -- ---- as they are written

  -- an attribute that means itself where it is printed, and breaks no rule
  pub record MeansItself (e : Entry (List ℕ) (Unit {0})) : Type 0 where
    pub means : entry_of view (rewritten_entry e) ≡ Some e
    pub unbroken : attribute_broken view (rewritten_entry e) ≡ []
    pub numbers : NumbersAre e.attribute

  name_again : (kind : AttributeKind) → kind_named (fixed_text (attribute_name kind)) ≡ Some kind
  unfolding fixed_text
  name_again kind = kind_laws.named kind

  itself : (e : Entry (List ℕ) (Unit {0})) (kind : AttributeKind) → Rewrites kind e.attribute → MeansItself e
  itself e kind h =
      let a = e.attribute in
      let name = name_again (kind_of_attribute a) ∙ ap Some h.kind_is in
      let keys = ap by_key (arguments_are a) ∙ keys_of_arguments (values_of a) (keys_in (rows_of a)) in
      let places = ap by_position (arguments_are a) ∙ places_of_arguments (values_of a) (keys_in (rows_of a)) in
      record {
        means = bind_is (kind_named (fixed_text (attribute_name (kind_of_attribute a)))) _ kind (Some e) name
            (bind_is (attribute_of view kind (by_position (attribute_arguments a)) (by_key (attribute_arguments a))) _ a (Some e)
            ((λ i. attribute_of view kind (places i) (keys i)) ∙ h.means) refl);
        unbroken = ap (named_broken view (rewritten_entry e)) name
            ∙ (λ i.
            order_broken view tt false (arguments_are a i) ++ repeats_broken view tt [] (keys i) ++ arguments_broken view tt kind (places i) (keys i))
            ∙ (λ i. order_of_arguments expander (values_of a) (keys_in (rows_of a)) i ++ h.once i ++ h.unbroken i);
        numbers = h.numbers;
      }

  all_places : (ps : List (PositionalArgument (List ℕ) (Unit {0}))) → ps ≡ map at_place (map (λ (p : PositionalArgument (List ℕ) (Unit {0})). p.value) ps)
  all_places [] = refl
  all_places (p ∷ ps) = ap (λ l. p ∷ l) (all_places ps)

  -- what an unbroken attribute means, means itself
  pub entry_means_itself : (w : WrittenAttribute (List ℕ) (Unit {0})) (e : Entry (List ℕ) (Unit {0})) → entry_of view w ≡ Some e
      → attribute_broken view w ≡ [] → MeansItself e
  entry_means_itself w e m u =
      let k = bind_back (kind_named w.name) _ e m in
      let a = bind_back (attribute_of view k.first (by_position w.arguments) (by_key w.arguments)) _ e k.gives in
      let es = map (λ (p : PositionalArgument (List ℕ) (Unit {0})). p.value) (by_position w.arguments) in
      let places = all_places (by_position w.arguments) in
      let broken : known_broken view w k.first ≡ [] = ap (named_broken view w) (sym k.is) ∙ u in
      let h = kept k.first es (by_key w.arguments) a.first (ap (λ ps. attribute_of view k.first ps (by_key w.arguments)) (sym places) ∙ a.is)
      (ap (λ ps. arguments_broken view tt k.first ps (by_key w.arguments)) (sym places) ∙ (nothing_in _ _ broken).1) in
      subst MeansItself (some_back (record { name = tt; attribute = a.first; comment = w.comment }) e a.gives)
      (itself (record { name = tt; attribute = a.first; comment = w.comment }) k.first h)
