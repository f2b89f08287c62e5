-- The literals of printed attributes have texts, if those of the attributes have.
use Rattle.std.proofs.Common.{◌≡◌, ℕ, List, [], ◌∷◌, ◌++◌, map, Option, Some, None, Ok, codes, sym, subst}
use Rattle.std.proofs.lemmas.List.Elements.{All-from_recursion, recursion_from_All}
use Rattle.std.specs.List.{AllByRecursion, flat_map}
use Rattle.justfile_vocabulary.specs.Signal.{signal_name}
use Rattle.justfile_vocabulary.specs.declared.signal.Signal.{Signal}
use Rattle.justfile_model.specs.Meanings.AttributeRules.{attributes_broken}
use Rattle.justfile_model.specs.Trees.ContentKeys.{entry_cmp}
use Rattle.justfile_model.specs.Grammars.Files.{expr_literals, optional_literals, argument_literals, written_literals, quoted_literals, option_literals, rules_literals, attribute_literals, entries_literals}
use Rattle.justfile_model.specs.LiteralTexts.Literals.{Literal, Expansions, string_of, cooked_text, AreCookedTexts}
use Rattle.justfile_model.specs.Meanings.Meaning.{all_of, quoted, entry_of, entries_of}
use Rattle.justfile_model.specs.Lists.Order.{in_order}
use Rattle.justfile_model.specs.Printed.Printing.{attribute_arguments}
use Rattle.justfile_model.specs.Printed.PrintedAttributes.{rewritten_entries}
use Rattle.justfile_model.specs.Trees.LeafView.{LeafView}
use Rattle.justfile_model.specs.Trees.Tree as tree
use Rattle.justfile_model.specs.Trees.Tree.{Expr, Quoted, Argument, WrittenAttribute, OptionName, Property, Bound, ArgumentRules, Attribute, Entry}
use Rattle.justfile_model.proofs.Lists.AllParts.{both, each_of, flat, parts, unflat}
use Rattle.justfile_model.proofs.Lists.Binds.{of_some_is, never_some, bind_back}
use Rattle.justfile_model.proofs.Meanings.MeaningParts.{InArgument, InOption, InProperty, InValue, InMeaning, entries_in}
use Rattle.justfile_model.proofs.Lists.OrderLaws.{all_in_order}
use Rattle.justfile_model.proofs.Printed.PrintedArg.{Numbered}
use Rattle.justfile_model.proofs.Printed.PrintedEntries.{sees, Entries, Written, entries_in_order}
use Rattle.justfile_model.proofs.Printed.PrintedKeys.{Value, Row, keys_in, keyed, arguments_of, key_argument, literal_of, signal_literal, values_of, rows_of, option_value, property_value, bare_value, bound_value, expr_value, arguments_are}
use Rattle.justfile_model.proofs.Printed.PrintedMeanings.{NumbersAre, MeansItself}
use Rattle.justfile_model.proofs.Printed.PrintedTexts.{quoted_signal}

-- ---- what holds of the literals that are written, holds of those that are meant

module _ {A : Type 0} (P : Literal A → Type 0) where
  abbrev OfLiterals : List (Literal A) → Type 0
  OfLiterals ls = AllByRecursion P ls

  abbrev OfQuoted : Quoted A → Type 0
  OfQuoted q = P (string_of q.expanded q.token)

  abbrev OfKey : A → Type 0
  OfKey key = Unit {0}

  module _ {B : Type 0} where
    abbrev OfExpr : Expr A B → Type 0
    OfExpr e = OfLiterals (expr_literals e)

    abbrev OfWord : List ℕ → B → Type 0
    OfWord word key = Unit {0}

    literal_in : (e : Expr A B) (q : Quoted A) → OfExpr e → quoted e ≡ Some q → OfQuoted q
    literal_in (tree.StringLiteral expanded t) q h e = of_some_is OfQuoted (record { expanded = expanded; token = t }) q e h.0
    literal_in _ q h e = never_some q e

    argument_in : (a : Argument A B) → OfLiterals (argument_literals a) → InArgument OfExpr OfKey a
    argument_in (tree.Positional first value) h = h
    argument_in (tree.Bare key) h = tt
    argument_in (tree.Keyed key value) h = (tt, h)

    arguments_in : (w : WrittenAttribute A B) → OfLiterals (flat_map argument_literals w.arguments) → AllByRecursion (InArgument OfExpr OfKey) w.arguments
    arguments_in w h =
        each_of (λ a. OfLiterals (argument_literals a)) (InArgument OfExpr OfKey) argument_in w.arguments (unflat P argument_literals w.arguments h)

    option_of : (word : List ℕ) (o : OptionName A B) → InOption OfExpr OfQuoted OfWord word o → OfLiterals (option_literals o)
    option_of word (tree.Named q) h = (h, tt)
    option_of word _ h = tt

    property_of : (word : List ℕ) (o : Option (Property A B)) → InProperty OfExpr OfQuoted OfWord word o
        → OfLiterals (optional_literals (λ (p : Property A B). expr_literals p.value) o)
    property_of word None h = tt
    property_of word (Some p) h = h.1

    value_of : (o : Option (Expr A B)) → InValue OfExpr OfQuoted OfWord o → OfLiterals (optional_literals expr_literals o)
    value_of None h = tt
    value_of (Some e) h = h

    meaning_of : (a : Attribute A B) → InMeaning OfExpr OfQuoted OfWord a → OfLiterals (attribute_literals a)
    meaning_of (tree.Plain kind) h = tt
    meaning_of (tree.Single kind value) h = h
    meaning_of (tree.Texts kind texts) h = flat P quoted_literals texts (each_of OfQuoted (λ q. OfLiterals (quoted_literals q)) (λ q k. (k, tt)) texts h)
    meaning_of (tree.Env key value) h = both P (expr_literals key) (expr_literals value) h.0 h.1
    meaning_of (tree.Signals signals) h = tt
    meaning_of (tree.Cache extra inputs outputs) h =
        both P (optional_literals expr_literals extra ++ optional_literals expr_literals inputs) (optional_literals expr_literals outputs)
        (both P (optional_literals expr_literals extra) (optional_literals expr_literals inputs) (value_of extra h.0) (value_of inputs h.1))
        (value_of outputs h.2)
    meaning_of (tree.Arg a) h =
        let name = quoted_literals a.name in
        let long = name ++ option_literals a.long in
        let short = long ++ option_literals a.short in
        let pattern = short ++ optional_literals (λ (p : Property A B). expr_literals p.value) a.pattern in
        let value = pattern ++ optional_literals expr_literals a.value in
        both P value (optional_literals (λ (p : Property A B). expr_literals p.value) a.help)
        (both P pattern (optional_literals expr_literals a.value)
        (both P short (optional_literals (λ (p : Property A B). expr_literals p.value) a.pattern)
        (both P long (option_literals a.short) (both P name (option_literals a.long) (h.name, tt) (option_of (codes "long") a.long h.long))
        (option_of (codes "short") a.short h.short))
        (property_of (codes "pattern") a.pattern h.pattern)) (value_of a.value h.value)) (property_of (codes "help") a.help h.help)

    module _ (view : LeafView A B) where
      all_meant : (ws : List (WrittenAttribute A B)) (es : List (Entry A B)) → all_of (entry_of view) ws ≡ Some es → OfLiterals (written_literals ws)
          → AllByRecursion (λ (e : Entry A B). OfLiterals (attribute_literals e.attribute)) es
      all_meant ws es m h =
          each_of (λ (e : Entry A B). InMeaning OfExpr OfQuoted OfWord e.attribute) (λ (e : Entry A B). OfLiterals (attribute_literals e.attribute))
          (λ e. meaning_of e.attribute) es
          (entries_in OfExpr OfQuoted OfWord OfKey view literal_in (λ word key k e. tt) ws es
          (each_of (λ (w : WrittenAttribute A B). OfLiterals (flat_map argument_literals w.arguments))
          (λ (w : WrittenAttribute A B). AllByRecursion (InArgument OfExpr OfKey) w.arguments) arguments_in ws
          (unflat P (λ (w : WrittenAttribute A B). flat_map argument_literals w.arguments) ws h)) m)

      -- the literals of the meaning of attributes are among the written literals
      pub literals_meant : (ws : List (WrittenAttribute A B)) (entries : List (Entry A B)) → entries_of view ws ≡ Some entries
          → OfLiterals (written_literals ws) → OfLiterals (entries_literals entries)
      literals_meant ws entries m h =
          let es = bind_back (all_of (entry_of view) ws) _ entries m in
          let Q : Entry A B → Type 0 = λ e. OfLiterals (attribute_literals e.attribute) in
          let all = recursion_from_All Q (in_order (entry_cmp view) es.first)
          (all_in_order (entry_cmp view) Q es.first (All-from_recursion Q es.first (all_meant ws es.first es.is h))) in
          flat P (λ (e : Entry A B). attribute_literals e.attribute) entries
          (of_some_is (AllByRecursion Q) (in_order (entry_cmp view) es.first) entries es.gives all)

-- ---- where they are printed

module _ (expander : Expansions) where
  -- a literal with a text
  pub record HasText (l : Literal (List ℕ)) : Type 0 where
    pub text : List ℕ
    pub is : cooked_text expander l ≡ Ok text

  abbrev pub HaveTexts : List (Literal (List ℕ)) → Type 0
  HaveTexts ls = AllByRecursion HasText ls

  pub texts_are_there : (ls : List (Literal (List ℕ))) (texts : List (List ℕ)) → AreCookedTexts expander ls texts → HaveTexts ls
  texts_are_there [] [] h = tt
  texts_are_there (l ∷ ls) (t ∷ texts) h = (record { text = t; is = h.0 }, texts_are_there ls texts h.1)
  texts_are_there _ _ h = absurd h

  -- the texts of literals that have some
  pub texts_of : (ls : List (Literal (List ℕ))) → HaveTexts ls → List (List ℕ)
  texts_of [] h = []
  texts_of (l ∷ ls) h = h.0.text ∷ texts_of ls h.1

  pub texts_cook : (ls : List (Literal (List ℕ))) (h : HaveTexts ls) → AreCookedTexts expander ls (texts_of ls h)
  unfolding texts_of
  texts_cook [] h = tt
  texts_cook (l ∷ ls) h = (h.0.is, texts_cook ls h.1)

  -- of the values of keys
  abbrev OfValue : Option (Option Value) → Type 0
  OfValue None = Unit {0}
  OfValue (Some None) = Unit {0}
  OfValue (Some (Some e)) = HaveTexts (expr_literals e)

  abbrev OfRow : Row → Type 0
  OfRow r = OfValue r.value

  rows_have : (rows : List Row) → AllByRecursion OfRow rows → HaveTexts (flat_map argument_literals (map key_argument (keys_in rows)))
  rows_have [] h = tt
  rows_have (r ∷ rows) h = within r.value h.0 (rows_have rows h.1)
    where
      within : (v : Option (Option Value)) → OfValue v → HaveTexts (flat_map argument_literals (map key_argument (keys_in rows)))
          → HaveTexts (flat_map argument_literals (map key_argument (keyed r.word v ++ keys_in rows)))
      within None k g = g
      within (Some None) k g = g
      within (Some (Some e)) k g = both HasText (expr_literals e) _ k g

  arguments_have : (es : List Value) (rows : List Row) → AllByRecursion (λ e. HaveTexts (expr_literals e)) es → AllByRecursion OfRow rows
      → HaveTexts (flat_map argument_literals (arguments_of es (keys_in rows)))
  arguments_have [] rows h k = rows_have rows k
  arguments_have (e ∷ es) rows h k = both HasText (expr_literals e) _ h.0 (arguments_have es rows h.1 k)

  signals_have : (ss : List Signal) → AllByRecursion (λ e. HaveTexts (expr_literals e)) (map signal_literal ss)
  signals_have [] = tt
  signals_have (s ∷ ss) = ((record { text = signal_name s; is = quoted_signal s }, tt), signals_have ss)

  texts_have : (qs : List (Quoted (List ℕ))) → HaveTexts (flat_map quoted_literals qs) → AllByRecursion (λ e. HaveTexts (expr_literals e)) (map literal_of qs)
  texts_have [] h = tt
  texts_have (q ∷ qs) h = ((h.0, tt), texts_have qs h.1)

  option_row : (o : OptionName (List ℕ) (Unit {0})) → HaveTexts (option_literals o) → OfValue (option_value o)
  option_row (tree.Named q) h = h
  option_row _ h = tt

  property_row : (o : Option (Property (List ℕ) (Unit {0}))) → HaveTexts (optional_literals (λ (p : Property (List ℕ) (Unit {0})). expr_literals p.value) o)
      → OfValue (property_value o)
  property_row None h = tt
  property_row (Some p) h = h

  expr_row : (o : Option Value) → HaveTexts (optional_literals expr_literals o) → OfValue (expr_value o)
  expr_row None h = tt
  expr_row (Some e) h = h

  bare_row : (o : Option (Unit {0})) → OfValue (bare_value o)
  bare_row None = tt
  bare_row (Some key) = tt

  bound_row : (o : Option (Bound (Unit {0}))) → Numbered expander o → OfValue (bound_value o)
  bound_row None h = tt
  bound_row (Some b) h = (record { text = _; is = h.cooked }, tt)

  record RulesHave (a : ArgumentRules (List ℕ) (Unit {0})) : Type 0 where
    name : HasText (string_of a.name.expanded a.name.token)
    long : HaveTexts (option_literals a.long)
    short : HaveTexts (option_literals a.short)
    pattern : HaveTexts (optional_literals (λ (p : Property (List ℕ) (Unit {0})). expr_literals p.value) a.pattern)
    value : HaveTexts (optional_literals expr_literals a.value)
    help : HaveTexts (optional_literals (λ (p : Property (List ℕ) (Unit {0})). expr_literals p.value) a.help)

  rules_parts : (a : ArgumentRules (List ℕ) (Unit {0})) → HaveTexts (rules_literals a) → RulesHave a
  rules_parts a h =
      let name = quoted_literals a.name in
      let long = name ++ option_literals a.long in
      let short = long ++ option_literals a.short in
      let pattern = short ++ optional_literals (λ (p : Property (List ℕ) (Unit {0})). expr_literals p.value) a.pattern in
      let value = pattern ++ optional_literals expr_literals a.value in
      let e = parts HasText value (optional_literals (λ (p : Property (List ℕ) (Unit {0})). expr_literals p.value) a.help) h in
      let d = parts HasText pattern (optional_literals expr_literals a.value) e.0 in
      let c = parts HasText short (optional_literals (λ (p : Property (List ℕ) (Unit {0})). expr_literals p.value) a.pattern) d.0 in
      let b = parts HasText long (option_literals a.short) c.0 in
      let r = parts HasText name (option_literals a.long) b.0 in
      record { name = r.0.0; long = r.1; short = b.1; pattern = c.1; value = d.1; help = e.1 }

  values_have : (a : Attribute (List ℕ) (Unit {0})) → HaveTexts (attribute_literals a) → AllByRecursion (λ e. HaveTexts (expr_literals e)) (values_of a)
  values_have (tree.Plain kind) h = tt
  values_have (tree.Single kind value) h = (h, tt)
  values_have (tree.Texts kind texts) h = texts_have texts h
  values_have (tree.Env key value) h = let r = parts HasText (expr_literals key) (expr_literals value) h in (r.0, (r.1, tt))
  values_have (tree.Signals signals) h = signals_have signals
  values_have (tree.Cache extra inputs outputs) h = tt
  values_have (tree.Arg a) h = (((rules_parts a h).name, tt), tt)

  rows_of_have : (a : Attribute (List ℕ) (Unit {0})) → HaveTexts (attribute_literals a) → NumbersAre expander a → AllByRecursion OfRow (rows_of a)
  rows_of_have (tree.Cache extra inputs outputs) h n =
      let r = parts HasText (optional_literals expr_literals extra ++ optional_literals expr_literals inputs) (optional_literals expr_literals outputs) h in
      let s = parts HasText (optional_literals expr_literals extra) (optional_literals expr_literals inputs) r.0 in
      (expr_row extra s.0, (expr_row inputs s.1, (expr_row outputs r.1, tt)))
  rows_of_have (tree.Arg a) h n =
      let r = rules_parts a h in (
        option_row a.long r.long,
        (
          option_row a.short r.short,
          (
            property_row a.pattern r.pattern,
            (
              expr_row a.value r.value,
              (
                bare_row a.flag,
                (
                  bare_row a.multiple,
                  (bound_row a.min n.1, (bound_row a.max n.0, (property_row a.help r.help, tt))),
                ),
              ),
            ),
          ),
        ),
      )
  rows_of_have _ h n = tt

  -- the literals that an attribute is printed with
  printed_have : (a : Attribute (List ℕ) (Unit {0})) → HaveTexts (attribute_literals a) → NumbersAre expander a
      → HaveTexts (flat_map argument_literals (attribute_arguments a))
  printed_have a h n =
      subst (λ l. HaveTexts (flat_map argument_literals l)) (sym (arguments_are a))
      (arguments_have (values_of a) (rows_of a) (values_have a h) (rows_of_have a h n))

  rewritten_have : (es : Entries expander) → AllByRecursion (MeansItself expander) es → HaveTexts (entries_literals es)
      → HaveTexts (written_literals (rewritten_entries es))
  rewritten_have [] m h = tt
  rewritten_have (e ∷ es) m h =
      let r = parts HasText (attribute_literals e.attribute) (entries_literals es) h in
      both HasText (flat_map argument_literals (attribute_arguments e.attribute)) (written_literals (rewritten_entries es))
      (printed_have e.attribute r.0 m.0.numbers) (rewritten_have es m.1 r.1)

  -- the literals of attributes as they are printed have texts
  pub literals_again : (ws : Written expander) (entries : Entries expander) → entries_of (sees expander) ws ≡ Some entries
      → attributes_broken (sees expander) ws ≡ []
      → HaveTexts (entries_literals entries) → HaveTexts (written_literals (rewritten_entries entries))
  literals_again ws entries means unbroken h = rewritten_have entries (entries_in_order expander ws entries means unbroken).each h

  -- where those of the attributes as they are written have
  pub literals_from_written : (ws : Written expander) (entries : Entries expander) → entries_of (sees expander) ws ≡ Some entries
      → attributes_broken (sees expander) ws ≡ []
      → HaveTexts (written_literals ws) → HaveTexts (written_literals (rewritten_entries entries))
  literals_from_written ws entries means unbroken h = literals_again ws entries means unbroken (literals_meant HasText (sees expander) ws entries means h)
