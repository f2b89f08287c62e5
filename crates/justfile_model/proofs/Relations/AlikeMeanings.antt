-- Related attributes, as they are written, mean related attributes.
use Rattle.std.proofs.Common.{◌≡◌, ℕ, Bool, true, false, List, codes, Option, ap, subst}
use Rattle.justfile_vocabulary.specs.AttributeKind.{kind_named}
use Rattle.justfile_vocabulary.specs.Signal.{signal_named}
use Rattle.justfile_vocabulary.specs.declared.attribute_kind.AttributeKind.{AttributeKind}
use Rattle.justfile_vocabulary.specs.declared.attribute_kind.AttributeKind.TheVariants as kinds
use Rattle.justfile_model.specs.Meanings.AttributeKinds.{takes_expressions}
use Rattle.justfile_model.specs.Meanings.Meaning.{◌>>=◌, KeyArgument, PositionalArgument, all_of, at_key, attribute_of, bare_key, bare_of, bound_of, by_key, by_position, by_takes, count_of, entries_of, entry_of, env_of, of_expressions, of_given, of_literals, option_at, option_named, property_of, rules_of, signal_of, text_of, value_of}
use Rattle.justfile_model.specs.Trees.LeafView.{LeafView}
use Rattle.justfile_model.specs.Trees.Tree.{Expr, Quoted, WrittenAttribute}
use Rattle.justfile_model.proofs.Lists.EachLaws.{AlikeOption, absent, each_mapped, first_alike, present}
use Rattle.justfile_model.proofs.Relations.AlikeAttributes as alike
use Rattle.justfile_model.proofs.Relations.AlikeAttributes.{AlikeArgumentRules, AlikeAttribute, AlikeBound, AlikeEntry, AlikeKey, AlikeOptionName, AlikePositional, AlikeProperty, AlikeQuoted, AlikeWritten, SeesAlike, SeesContent, keys_alike, ordered_alike, positions_alike, quoted_alike}
use Rattle.justfile_model.proofs.Relations.NewAttributesAlike.{key_found, key_place, same_list, same_option, same_text_of, signals_alike, single_alike, texts_alike}
use Rattle.justfile_model.proofs.Relations.Related as a
use Rattle.justfile_model.proofs.Relations.Related.{Alike, Each, Relations}

-- ---- options

module _ {X X' Y Y' : Type 0} {Q : X → X' → Type 0} {P : Y → Y' → Type 0} (f : X → Option Y) (f' : X' → Option Y')
    (k : (x : X) (x' : X') → Q x x' → AlikeOption P (f x) (f' x')) where
  bound_alike : {o : Option X} {o' : Option X'} → AlikeOption Q o o' → AlikeOption P (o >>= f) (o' >>= f')
  bound_alike absent = absent
  bound_alike (present {x = x} {y = x'} h) = k x x' h

-- one after the other
bind : {X X' Y Y' : Type 0} {Q : X → X' → Type 0} {P : Y → Y' → Type 0} {f : X → Option Y} {f' : X' → Option Y'} {o : Option X} {o' : Option X'}
    → AlikeOption Q o o' → ((x : X) (x' : X') → Q x x' → AlikeOption P (f x) (f' x')) → AlikeOption P (o >>= f) (o' >>= f')
bind h k = bound_alike _ _ k h

module _ {X X' Y Y' : Type 0} {Q : X → X' → Type 0} {P : Y → Y' → Type 0} (f : X → Option Y) (f' : X' → Option Y')
    (k : (x : X) (x' : X') → Q x x' → AlikeOption P (f x) (f' x')) where
  given_alike : {o : Option X} {o' : Option X'} → AlikeOption Q o o' → AlikeOption (AlikeOption P) (of_given f o) (of_given f' o')
  given_alike absent = present absent
  given_alike (present {x = x} {y = x'} h) = bind (k x x' h) (λ y y' p. present (present p))

  pub all_alike : {xs : List X} {xs' : List X'} → Each Q xs xs' → AlikeOption (Each P) (all_of f xs) (all_of f' xs')
  all_alike a.nil = present a.nil
  all_alike (a.cons {x = x} {y = x'} h hs) = bind (k x x' h) (λ y y' p. bind (all_alike hs) (λ ys ys' ps. present (a.cons p ps)))

module _ {R T A B S D R' T' A' B' S' D' : Type 0} (rel : Relations R T A B S D R' T' A' B' S' D') (view : LeafView A B) (view' : LeafView A' B')
    (sees : SeesAlike rel view view') where
  property_alike : (k : KeyArgument A B) (k' : KeyArgument A' B') → AlikeKey rel k k' → AlikeOption (AlikeProperty rel) (property_of view k) (property_of view' k')
  property_alike k k' h = bind h.value (λ v v' e. present (record { key = key_place rel view view' sees h; value = e }))

  bare_key_alike : {k : A} {k' : A'} {o : Option (Expr A B)} {o' : Option (Expr A' B')} → rel.name k k' → AlikeOption (Alike rel) o o'
      → AlikeOption rel.position (bare_key view k o) (bare_key view' k' o')
  bare_key_alike {k} {k'} h absent = present (sees.name_place k k' h)
  bare_key_alike h (present e) = absent

  bare_alike : (k : KeyArgument A B) (k' : KeyArgument A' B') → AlikeKey rel k k' → AlikeOption rel.position (bare_of view k) (bare_of view' k')
  bare_alike k k' h = bare_key_alike h.key h.value

  named_alike : {k : A} {k' : A'} {o : Option (Expr A B)} {o' : Option (Expr A' B')} → rel.name k k' → AlikeOption (Alike rel) o o'
      → AlikeOption (AlikeOptionName rel) (option_named view k o) (option_named view' k' o')
  named_alike {k} {k'} h absent = present (alike.own_name (sees.name_place k k' h))
  named_alike h (present e) = bind (quoted_alike rel e) (λ q q' j. present (alike.option_named j))

  option_alike : {o : Option (KeyArgument A B)} {o' : Option (KeyArgument A' B')} → AlikeOption (AlikeKey rel) o o'
      → AlikeOption (AlikeOptionName rel) (option_at view o) (option_at view' o')
  option_alike absent = present alike.no_option
  option_alike (present h) = named_alike h.key h.value

  number_alike : (k : KeyArgument A B) (k' : KeyArgument A' B') → AlikeKey rel k k' → AlikeOption (AlikeBound rel) (bound_of view k) (bound_of view' k')
  number_alike k k' h =
      bind h.value (λ v v' e. bind (quoted_alike rel e) (λ q q' j.
      bind (same_option (count_of (text_of view q)) (count_of (text_of view' q')) (ap count_of (same_text_of rel view view' sees j)))
      (λ n n' m. present (record { key = key_place rel view view' sees h; number = m }))))

  value_alike : (k : KeyArgument A B) (k' : KeyArgument A' B') → AlikeKey rel k k' → AlikeOption (Alike rel) (value_of view k) (value_of view' k')
  value_alike k k' h = h.value

  rules_alike : {qs : List (Quoted A)} {qs' : List (Quoted A')} {ks : List (KeyArgument A B)} {ks' : List (KeyArgument A' B')} → Each (AlikeQuoted rel) qs qs'
      → Each (AlikeKey rel) ks ks' → AlikeOption (AlikeArgumentRules rel) (rules_of view qs ks) (rules_of view' qs' ks')
  rules_alike {ks} {ks'} h k =
      let found : (word : List ℕ) → AlikeOption (AlikeKey rel) (at_key view word ks) (at_key view' word ks') = λ word. key_found rel view view' sees word k in
      bind (first_alike h) (λ name name' q.
      bind (given_alike _ _ bare_alike (found (codes "flag"))) (λ flag flag' f.
      bind (given_alike _ _ property_alike (found (codes "help"))) (λ help help' t.
      bind (option_alike (found (codes "long"))) (λ long long' l.
      bind (given_alike _ _ number_alike (found (codes "max"))) (λ max max' greatest.
      bind (given_alike _ _ number_alike (found (codes "min"))) (λ min min' least.
      bind (given_alike _ _ bare_alike (found (codes "multiple"))) (λ multiple multiple' m.
      bind (given_alike _ _ property_alike (found (codes "pattern"))) (λ pattern pattern' p.
      bind (option_alike (found (codes "short"))) (λ short short' s.
      bind (given_alike _ _ value_alike (found (codes "value"))) (λ value value' v.
      present (record { flag = f; help = t; long = l; max = greatest; min = least; multiple = m; name = q; pattern = p; short = s; value = v })))))))))))

  env_alike : {es : List (Expr A B)} {es' : List (Expr A' B')} → Each (Alike rel) es es' → AlikeOption (AlikeAttribute rel) (env_of view es) (env_of view' es')
  env_alike a.nil = absent
  env_alike (a.cons e a.nil) = absent
  env_alike (a.cons e (a.cons f fs)) = present (alike.env e f)

  expressions_alike : (kind : AttributeKind) {es : List (Expr A B)} {es' : List (Expr A' B')} → Each (Alike rel) es es'
      → AlikeOption (AlikeAttribute rel) (of_expressions view kind es) (of_expressions view' kind es')
  expressions_alike kinds.Env h = env_alike h
  expressions_alike kind h = present (single_alike rel view view' sees kind h)

  signal_alike : (q : Quoted A) (q' : Quoted A') → AlikeQuoted rel q q' → AlikeOption (λ s s'. s ≡ s') (signal_of view q) (signal_of view' q')
  signal_alike q q' h = same_option _ _ (ap signal_named (same_text_of rel view view' sees h))

  literals_alike : (kind : AttributeKind) {qs : List (Quoted A)} {qs' : List (Quoted A')} {ks : List (KeyArgument A B)} {ks' : List (KeyArgument A' B')}
      → Each (AlikeQuoted rel) qs qs' → Each (AlikeKey rel) ks ks' → AlikeOption (AlikeAttribute rel) (of_literals view kind qs ks) (of_literals view' kind qs' ks')
  literals_alike kinds.Arg h k = bind (rules_alike h k) (λ r r' j. present (alike.arg j))
  literals_alike kinds.Cache h k =
      bind (given_alike _ _ value_alike (key_found rel view view' sees (codes "extra") k)) (λ x x' e.
      bind (given_alike _ _ value_alike (key_found rel view view' sees (codes "inputs") k)) (λ y y' i.
      bind (given_alike _ _ value_alike (key_found rel view view' sees (codes "outputs") k)) (λ z z' o. present (alike.cache e i o))))
  literals_alike kinds.Continue h k = bind (all_alike _ _ signal_alike h) (λ s s' e. present (signals_alike rel view view' sees (same_list e)))
  literals_alike kind h k = present (texts_alike rel view view' sees kind h)

  takes_alike : (expressions : Bool) (kind : AttributeKind) {es : List (Expr A B)} {es' : List (Expr A' B')} {ks : List (KeyArgument A B)}
      {ks' : List (KeyArgument A' B')} → Each (Alike rel) es es' → Each (AlikeKey rel) ks ks'
      → AlikeOption (AlikeAttribute rel) (by_takes view expressions kind es ks) (by_takes view' expressions kind es' ks')
  takes_alike true kind h k = expressions_alike kind h
  takes_alike false kind h k = bind (all_alike _ _ (λ e e' j. quoted_alike rel j) h) (λ qs qs' q. literals_alike kind q k)

  pub attribute_alike : (kind : AttributeKind) {ps : List (PositionalArgument A B)} {ps' : List (PositionalArgument A' B')} {ks : List (KeyArgument A B)}
      {ks' : List (KeyArgument A' B')} → Each (AlikePositional rel) ps ps' → Each (AlikeKey rel) ks ks'
      → AlikeOption (AlikeAttribute rel) (attribute_of view kind ps ks) (attribute_of view' kind ps' ks')
  attribute_alike kind h k = takes_alike (takes_expressions kind) kind (each_mapped _ _ (λ p p' j. j.value) h) k

  pub entry_alike : (w : WrittenAttribute A B) (w' : WrittenAttribute A' B') → AlikeWritten rel w w' → AlikeOption (AlikeEntry rel) (entry_of view w) (entry_of view' w')
  entry_alike w w' h =
      bind (same_option _ _ (ap kind_named (sees.bytes w.name w'.name h.name))) (λ kind kind' e.
      bind (subst (λ k. AlikeOption (AlikeAttribute rel) (attribute_of view kind (by_position w.arguments) (by_key w.arguments))
      (attribute_of view' k (by_position w'.arguments) (by_key w'.arguments))) e
      (attribute_alike kind (positions_alike rel h.arguments) (keys_alike rel h.arguments)))
      (λ x x' j. present (record { name = sees.name_place w.name w'.name h.name; attribute = j; comment = h.comment })))

  -- what the attributes of an item mean, in order
  pub entries_alike : SeesContent rel view view' → {ws : List (WrittenAttribute A B)} {ws' : List (WrittenAttribute A' B')} → Each (AlikeWritten rel) ws ws'
      → AlikeOption (Each (AlikeEntry rel)) (entries_of view ws) (entries_of view' ws')
  entries_alike contents h = bind (all_alike _ _ entry_alike h) (λ es es' k. present (ordered_alike rel view view' contents k))
