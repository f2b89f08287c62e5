-- If lines of attributes derive, where the depth limit doesn't apply to expressions that begin at some tokens, they are parsed with their
-- meaning, or the error is a literal without a text, the depth at one of these tokens, or a rule that they break.
use Rattle.std.proofs.Common.{◌≡◌, ℕ, Bool, true, false, List, [], ◌∷◌, ◌++◌, map, Contains, Option, Some, None, Ok, Err, is_some, refl, sym, subst, ap, ◌∙◌, append_assoc, append-nil, arith}
use Rattle.std.specs.List.{AllByRecursion, flat_map}
use Rattle.std.specs.Option.{option_map}
use Rattle.std.proofs.lemmas.Grind.{flat_map-append}
use Rattle.std.proofs.lemmas.List.{map-append}
use Rattle.std.proofs.lemmas.List.Elements.{All-from_recursion}
use Rattle.justfile_vocabulary.specs.AttributeKind.{kind_named, takes_keys}
use Rattle.justfile_vocabulary.specs.declared.attribute_kind.AttributeKind.{AttributeKind}
use Rattle.justfile_vocabulary.specs.declared.token_kind.TokenKind.TheVariants as kinds
use Rattle.justfile_model.specs.Meanings.AttributeKinds.{name_takes_keys, named_takes_keys}
use Rattle.justfile_model.specs.Grammars.AttributeLines as g
use Rattle.justfile_model.specs.Grammars.AttributeLines.{IsKey, ArgumentOf, Arguments, AttributeOf, AttributesEnd, AttributeLines, Bracketed}
use Rattle.justfile_model.specs.Readers.AttributeReader as r
use Rattle.justfile_model.specs.Readers.AttributeReader.{read_made}
use Rattle.justfile_model.specs.Meanings.AttributeRules.{arguments_broken, attribute_broken, attributes_broken, duplicate_broken, duplicates_broken, known_broken, named_broken, order_broken, repeats_broken}
use Rattle.justfile_model.specs.Grammars.Conditions.{Conditions}
use Rattle.justfile_model.specs.Grammars.Expressions.{Tokens, Expression, IsKind, NotNext, PastLimitAt}
use Rattle.justfile_model.specs.Grammars.Features.{Noted}
use Rattle.justfile_model.specs.Grammars.Grammar.{NotEmpty}
use Rattle.justfile_model.specs.Grammars.Files.{argument_literals, expr_literals, written_literals}
use Rattle.justfile_model.specs.LiteralTexts.Literals.{string_of}
use Rattle.justfile_model.specs.Meanings.Meaning.{KeyArgument, PositionalArgument, attribute_of, by_key, by_position, entry_of}
use Rattle.justfile_model.specs.Readers.NewAttribute.{Made, new_entry}
use Rattle.justfile_model.specs.Meanings.ReadAttribute.{ReadAttribute, commented_both, entry_read, keep_both, token_view}
use Rattle.justfile_model.specs.Readers.ReaderState.{◌>>=◌, comment_in}
use Rattle.justfile_model.specs.Meanings.Rules.{Broken, UnknownAttribute}
use Rattle.justfile_model.specs.Trees.LeafView.{text_or_none}
use Rattle.justfile_model.specs.Lexing.SignificantTokens.{SignificantToken}
use Rattle.justfile_model.specs.Lexing.Tok.{Tok}
use Rattle.justfile_model.specs.Trees.Tree as tree
use Rattle.justfile_model.specs.Trees.Tree.{Argument, Entry, Expr, Quoted, WrittenAttribute, bare_attribute, bare_entry, commented, commented_line, itself}
use Rattle.justfile_model.specs.Readers.TreeReader.{Read, State, read_attributes, token_leaves}
use Rattle.justfile_model.proofs.Completeness.AttributeCovers.{AreReadings, Covers, CoversAll, IsReading, argument_starts, covers_after, covers_duplicate, covers_line, covers_lines, covers_one, covers_order, covers_others, covers_repeat, none, more, readings_append, readings_commented}
use Rattle.justfile_model.proofs.Completeness.AttributeSteps.{key_left, key_taken, keys_append}
use Rattle.justfile_model.proofs.Printed.Commented.{commented_after, commented_broken, commented_literals, commented_repeats, some_bracketed}
use Rattle.justfile_model.proofs.Derivations.CookedTexts.{AllCook, first_cook, then_cook}
use Rattle.justfile_model.proofs.Completeness.ExpressionDeep.{expression_deep}
use Rattle.justfile_model.specs.Meanings.ArgumentTexts.{ValueHasText, HasText, HasTexts}
use Rattle.justfile_model.proofs.Meanings.NewAttributeLaws.{Breaks, alone, entry_made, entry_refused, repeated}
use Rattle.justfile_model.proofs.Completeness.Reaching as plain
use Rattle.justfile_model.proofs.Completeness.Reaching.{Reaches}
use Rattle.justfile_model.proofs.Completeness.ReachingRules.{Among, IsAt, ReachesOne, ReachesSome, all_among, among_first, among_others, breaks_one, by, last_one, plainly, read_as, read_now, regrouped, same_one, then_at, then_one}
use Rattle.justfile_model.proofs.Readers.ReadingSteps.{after_test, first_alike}
use Rattle.justfile_model.proofs.Readers.Steps.{input, accept_taken, accept_left, expect_taken}
use Rattle.justfile_model.proofs.Readers.TokenAttributes as reader

-- a key before `=` marks no string
key_before : (key equals : SignificantToken) (ts : Tokens) → IsKind kinds.Identifier key → IsKind kinds.Equals equals → IsKey (key ∷ equals ∷ ts)
key_before key equals ts kind kind2 = (kind, λ m. let k = m.is_string in cc)

key_named : (key : SignificantToken) (ts : Tokens) → IsKey (key ∷ ts) → IsKind kinds.Identifier key
key_named key [] is = is
key_named key (t ∷ ts) is = is.0

module _ (conditions : Conditions) (Hit : Option SignificantToken → Type 0) where
  abbrev MayEnter : ℕ → Option SignificantToken → Type 0
  MayEnter = PastLimitAt conditions.limit Hit

  -- ---- an argument

  placed_reached : (ns : List (Noted Tok)) {e : Expr Tok Tok} {fs : List (Noted Tok)} {first : SignificantToken} {ts rest : Tokens}
      → Expression itself itself MayEnter false 0 e fs (first ∷ ts) rest
      → Reaches conditions Hit (reader.placed (input conditions 0 (first ∷ ts) ns)) (tree.Positional first.tok e, input conditions 0 rest (ns ++ fs))
      (expr_literals e)
  unfolding r.placed
  placed_reached ns h = plain.pass conditions Hit _ (expression_deep conditions Hit ns false (omega arith) h) refl

  -- a positional argument after one by key is an error
  order_reached : (name : Tok) (before : List (KeyArgument Tok Tok)) (first : Tok) (value : Expr Tok Tok) (others : List (Argument Tok Tok)) (s : State)
      {rules : List (Broken Tok)} (b : Bool) → reader.some_key before ≡ b
      → Covers (token_view conditions) name before (tree.Positional first value ∷ others) rules
      → ReachesOne conditions Hit (reader.after_keys b (tree.Positional first value, s)) (tree.Positional first value, s) [] rules
  order_reached name before first value others s true some h =
      breaks_one conditions Hit _ (covers_order (token_view conditions) name before first value others h some) refl
  order_reached name before first value others s false some h = read_now conditions Hit _ refl refl

  -- a key of an earlier argument is an error
  distinct_reached : (name : SignificantToken) (before : List (Argument Tok Tok)) (key : SignificantToken) (value : Option (Expr Tok Tok))
      (others : List (Argument Tok Tok)) (ts : Tokens) (ns : List (Noted Tok)) {rules : List (Broken Tok)}
      → Covers (token_view conditions) name.tok (by_key before) (reader.argument_of_key key.tok value ∷ others) rules
      → ReachesOne conditions Hit (reader.distinct name before key (value, input conditions 0 ts ns))
      (reader.argument_of_key key.tok value, input conditions 0 ts ns) [] rules
  distinct_reached name before key value others ts ns {rules = rules} h =
      after_test (reader.is_repeated conditions before key) _ _ (λ o. ReachesOne conditions Hit o
      (reader.argument_of_key key.tok value, input conditions 0 ts ns) [] rules)
      (λ e. breaks_one conditions Hit _ (covers_repeat (token_view conditions) name.tok (by_key before) key.tok value others h e) refl)
      (λ _. read_now conditions Hit _ refl refl)

  bare_read : (ts : Tokens) (ns : List (Noted Tok)) → NotNext kinds.Equals ts
      → reader.key_value (input conditions 0 ts ns) ≡ Ok (None, input conditions 0 ts ns)
  unfolding r.key_value
  bare_read ts ns not = rw (accept_left kinds.Equals ts conditions 0 ns not) refl

  value_reached : (ns : List (Noted Tok)) (equals : SignificantToken) {e : Expr Tok Tok} {fs : List (Noted Tok)} {ts rest : Tokens} → IsKind kinds.Equals equals
      → Expression itself itself MayEnter false 0 e fs ts rest
      → Reaches conditions Hit (reader.key_value (input conditions 0 (equals ∷ ts) ns)) (Some e, input conditions 0 rest (ns ++ fs)) (expr_literals e)
  unfolding r.key_value
  value_reached ns equals {ts = ts} kind h =
      rw (accept_taken kinds.Equals equals ts conditions 0 ns kind) (plain.pass conditions Hit _ (expression_deep conditions Hit ns false (omega arith) h) refl)

  unkeyed : (name : SignificantToken) (keys : Bool) (before : List (Argument Tok Tok)) (s : State) → (keys ≡ true → IsKey s.left → ⊥)
      → reader.argument name keys before s ≡ reader.positional before s
  unfolding r.argument
  unkeyed name false before s not = refl
  unkeyed name true before s not = rw (key_left s (not refl)) refl

  with_key : (name : SignificantToken) (before : List (Argument Tok Tok)) (s : State) → IsKey s.left
      → reader.argument name true before s ≡ reader.keyed name before s
  unfolding r.argument
  with_key name before s is = rw (key_taken s is) refl

  abbrev ArgumentReached : SignificantToken → Bool → List (Argument Tok Tok) → List (Noted Tok) → Argument Tok Tok → List (Noted Tok) → Tokens → Tokens
      → List (Broken Tok) → Type 0
  ArgumentReached name keys before ns a fs ts rest rules =
      ReachesOne conditions Hit (reader.argument name keys before (input conditions 0 ts ns)) (a, input conditions 0 rest (ns ++ fs)) (argument_literals a)
      rules

  argument_reached : (name : SignificantToken) (before others : List (Argument Tok Tok)) (ns : List (Noted Tok)) {keys : Bool} {a : Argument Tok Tok}
      {fs : List (Noted Tok)} {ts rest : Tokens} {rules : List (Broken Tok)}
      → ArgumentOf itself itself MayEnter keys a fs ts rest → Covers (token_view conditions) name.tok (by_key before) (a ∷ others) rules
      → ArgumentReached name keys before ns a fs ts rest rules
  unfolding r.positional r.keyed
  argument_reached name before others ns {keys = keys} {ts = ts} {rest = rest} (g.positional {e = e} {fs = fs} {first = first} not h) covers =
      by conditions Hit (unkeyed name keys before (input conditions 0 ts ns) not)
      (last_one conditions Hit _ _ (plainly conditions Hit (placed_reached ns h))
      (λ _. order_reached name.tok (by_key before) first.tok e others (input conditions 0 rest (ns ++ fs)) (reader.some_key (by_key before)) refl covers))
  argument_reached name before others ns {ts = ts} (g.bare {key = key} {rest = rest} is not) covers =
      by conditions Hit (with_key name before (input conditions 0 ts ns) is)
      (rw (append-nil ns, expect_taken kinds.Identifier key rest conditions 0 ns (key_named key rest is), bare_read rest ns not)
      (distinct_reached name before key None others rest ns covers))
  argument_reached name before others ns {ts = ts} {rest = rest} (g.keyed {e = e} {fs = fs} {key = key} {equals = equals} {tokens = tokens} kind kind2 h)
      covers =
      by conditions Hit (with_key name before (input conditions 0 ts ns) (key_before key equals tokens kind kind2))
      (rw (expect_taken kinds.Identifier key (equals ∷ tokens) conditions 0 ns kind)
      (last_one conditions Hit _ _ (plainly conditions Hit (value_reached ns equals kind2 h))
      (λ _. distinct_reached name before key (Some e) others rest (ns ++ fs) covers)))

  -- ---- arguments up to the closing parenthesis

  end_read : (all : List (Argument Tok Tok)) (closer : SignificantToken) (ts : Tokens) (ns : List (Noted Tok)) → IsKind kinds.ParenR closer
      → reader.arguments_end all (input conditions 0 (closer ∷ ts) ns) ≡ Ok (all, input conditions 0 ts ns)
  unfolding r.arguments_end
  end_read all closer ts ns kind = rw (expect_taken kinds.ParenR closer ts conditions 0 ns kind) refl

  covers_next : (name : SignificantToken) (before : List (Argument Tok Tok)) (a : Argument Tok Tok) (others : List (Argument Tok Tok))
      {rules : List (Broken Tok)} → Covers (token_view conditions) name.tok (by_key before) (a ∷ others) rules
      → Covers (token_view conditions) name.tok (by_key (before ++ a ∷ [])) others rules
  covers_next name before a others {rules = rules} h =
      subst (λ ks. Covers (token_view conditions) name.tok ks others rules) (sym (keys_append before (a ∷ [])))
      (covers_others (token_view conditions) name.tok (by_key before) a others h)

  arguments_reached : (name : SignificantToken) (before : List (Argument Tok Tok)) (ns : List (Noted Tok)) {keys : Bool} {all : List (Argument Tok Tok)}
      {fs : List (Noted Tok)} {ts rest : Tokens} {rules : List (Broken Tok)}
      → Arguments itself itself MayEnter keys all fs ts rest → Covers (token_view conditions) name.tok (by_key before) all rules
      → ReachesOne conditions Hit (reader.arguments_from name keys (before, input conditions 0 ts ns)) (before ++ all, input conditions 0 rest (ns ++ fs))
      (flat_map argument_literals all) rules
  arguments_reached name before ns {keys = keys} {rest = rest} (g.none {closer = closer} kind) covers =
      by conditions Hit (reader.arguments_from_is name keys (before, input conditions 0 (closer ∷ rest) ns))
      (rw (accept_taken kinds.ParenR closer rest conditions 0 ns kind, append-nil before, append-nil ns) (read_now conditions Hit _ refl refl))
  arguments_reached name before ns {keys = keys} {ts = ts} {rest = rest} (g.last {a = a} {fs = fs} {closer = closer} h kind) covers =
      by conditions Hit (reader.arguments_from_is name keys (before, input conditions 0 ts ns))
      (rw (accept_left kinds.ParenR ts conditions 0 ns (argument_starts itself itself MayEnter h))
      (then_one conditions Hit _ _ (argument_reached name before [] ns h covers)
      (rw (accept_left kinds.Comma (closer ∷ rest) conditions 0 (ns ++ fs) (λ e. cc))
      (read_now conditions Hit _ refl (end_read (before ++ a ∷ []) closer rest (ns ++ fs) kind)))))
  arguments_reached name before ns {keys = keys} {ts = ts} {rest = rest} (g.more {a = a} {others = others} {fs = fs} {gs = gs} {comma = comma} {next = next} h
      kind k) covers =
      by conditions Hit (reader.arguments_from_is name keys (before, input conditions 0 ts ns))
      (rw (accept_left kinds.ParenR ts conditions 0 ns (argument_starts itself itself MayEnter h))
      (then_one conditions Hit _ _ (argument_reached name before others ns h covers)
      (rw (accept_taken kinds.Comma comma next conditions 0 (ns ++ fs) kind)
      (same_one conditions Hit (λ i. (append_assoc before (a ∷ []) others i, input conditions 0 rest (append_assoc ns fs gs i)))
      (arguments_reached name (before ++ a ∷ []) (ns ++ fs) k (covers_next name before a others covers))))))

  -- ---- what follows the name of an attribute

  given_reached : (name : SignificantToken) (ns : List (Noted Tok)) {w : WrittenAttribute Tok Tok} {fs : List (Noted Tok)} {ts rest : Tokens}
      {rules : List (Broken Tok)} → AttributeOf itself itself MayEnter w fs (name ∷ ts) rest
      → Covers (token_view conditions) name.tok [] w.arguments rules
      → ReachesOne conditions Hit (reader.arguments name (name_takes_keys name.tok.lexeme) (input conditions 0 ts ns))
      (w.arguments, input conditions 0 rest (ns ++ fs))
      (flat_map argument_literals w.arguments) rules
  unfolding r.arguments
  given_reached name ns {ts = ts} (g.plain kind no_colon no_paren) covers =
      rw (accept_left kinds.Colon ts conditions 0 ns no_colon, accept_left kinds.ParenL ts conditions 0 ns no_paren, append-nil ns)
      (read_now conditions Hit _ refl refl)
  given_reached name ns (g.short {colon = colon} {first = first} {tokens = tokens} kind kind2 h) covers =
      rw (accept_taken kinds.Colon colon (first ∷ tokens) conditions 0 ns kind2)
      (then_one conditions Hit _ _ (plainly conditions Hit (placed_reached ns h)) (read_now conditions Hit _ refl refl))
  given_reached name ns (g.long {opener = opener} {tokens = tokens} kind kind2 all) covers =
      rw (accept_left kinds.Colon (opener ∷ tokens) conditions 0 ns (λ e. cc), accept_taken kinds.ParenL opener tokens conditions 0 ns kind2)
      (arguments_reached name [] ns all covers)

  -- ---- the literals among arguments have texts

  has_text : (e : Expr Tok Tok) → AllCook conditions.expander (expr_literals e) → HasText (token_view conditions) e
  has_text (tree.StringLiteral expanded token) a q is =
      let same : record { expanded = expanded; token = token } ≡ q = cc in
      subst (λ (q : Quoted Tok). is_some ((token_view conditions).cooked (string_of q.expanded q.token)) ≡ true) same
      (ap (λ t. is_some (text_or_none t)) a.0.is)
  has_text _ a q is = cc

  placed_texts : (all : List (Argument Tok Tok)) → AllCook conditions.expander (flat_map argument_literals all)
      → AllByRecursion (λ (p : PositionalArgument Tok Tok). HasText (token_view conditions) p.value) (by_position all)
  placed_texts [] a = tt
  placed_texts (tree.Positional first value ∷ all) a = (
    has_text value (first_cook conditions.expander (expr_literals value) (flat_map argument_literals all) a),
    placed_texts all
        (then_cook conditions.expander (expr_literals value) (flat_map argument_literals all) a),
  )
  placed_texts (tree.Bare key ∷ all) a = placed_texts all a
  placed_texts (tree.Keyed key value ∷ all) a = placed_texts all (then_cook conditions.expander (expr_literals value) (flat_map argument_literals all) a)

  given_text : (o : Option (Expr Tok Tok)) (e : Expr Tok Tok) → o ≡ Some e → HasText (token_view conditions) e
      → ValueHasText (token_view conditions) o
  given_text o e is h d is2 = let same : e ≡ d = some_inside e d (sym is ∙ is2) in subst (HasText (token_view conditions)) same h
    where
      some_inside : (x y : Expr Tok Tok) → ◌≡◌ {A = Option (Expr Tok Tok)} (Some x) (Some y) → x ≡ y
      some_inside x y e = cc

  key_texts : (all : List (Argument Tok Tok)) → AllCook conditions.expander (flat_map argument_literals all)
      → AllByRecursion (λ (k : KeyArgument Tok Tok). ValueHasText (token_view conditions) k.value) (by_key all)
  key_texts [] a = tt
  key_texts (tree.Positional first value ∷ all) a = key_texts all (then_cook conditions.expander (expr_literals value) (flat_map argument_literals all) a)
  key_texts (tree.Bare key ∷ all) a = ((λ e is. cc), key_texts all a)
  key_texts (tree.Keyed key value ∷ all) a = (
    given_text (Some value) value refl (has_text value (first_cook conditions.expander (expr_literals value) (flat_map argument_literals all) a)),
    key_texts all (then_cook conditions.expander (expr_literals value) (flat_map argument_literals all) a),
  )

  have_texts : (all : List (Argument Tok Tok)) → AllCook conditions.expander (flat_map argument_literals all)
      → HasTexts (token_view conditions) (by_position all) (by_key all)
  have_texts all a = record {
    values = All-from_recursion (λ (p : PositionalArgument Tok Tok). HasText (token_view conditions) p.value) (by_position all) (placed_texts all a);
    given = All-from_recursion (λ (k : KeyArgument Tok Tok). ValueHasText (token_view conditions) k.value) (by_key all) (key_texts all a);
  }

  -- ---- an attribute

  abbrev entries_in : List ReadAttribute → List (Entry Tok Tok)
  entries_in = map entry_read

  -- what an attribute breaks, alone and by those before it, is among the rules
  record CoversOne (before : List ReadAttribute) (w : WrittenAttribute Tok Tok) (rules : List (Broken Tok)) : Type 0 where
    alone : Among (attribute_broken (token_view conditions) w) rules
    repeated : (e : Entry Tok Tok) → entry_of (token_view conditions) w ≡ Some e
        → Among (duplicate_broken (token_view conditions) (entries_in before) e) rules

  named_covers : (w : WrittenAttribute Tok Tok) (kind : AttributeKind) {rules : List (Broken Tok)} → kind_named w.name.lexeme ≡ Some kind
      → Among (attribute_broken (token_view conditions) w) rules → Among (known_broken (token_view conditions) w kind) rules
  named_covers w kind {rules = rules} is h = subst (λ o. Among (named_broken (token_view conditions) w o) rules) is h

  means_by : (w : WrittenAttribute Tok Tok) (kind : AttributeKind) (e : Entry Tok Tok) → kind_named w.name.lexeme ≡ Some kind → e.name ≡ w.name → e.comment ≡ w.comment
      → attribute_of (token_view conditions) kind (by_position w.arguments) (by_key w.arguments) ≡ Some e.attribute
      → entry_of (token_view conditions) w ≡ Some e
  means_by w kind e is named comment_is means =
      rw (is, means) (λ i. Some (record { name = sym named i; attribute = e.attribute; comment = sym comment_is i }))

  made_reached : (before : List ReadAttribute) (name : SignificantToken) (kind : AttributeKind) (all : List (Argument Tok Tok)) (ts : Tokens)
      (ns : List (Noted Tok)) {rules : List (Broken Tok)} → kind_named name.tok.lexeme ≡ Some kind
      → AllCook conditions.expander (flat_map argument_literals all) → CoversOne before (bare_attribute name.tok all) rules
      → ReachesSome conditions Hit (reader.made before name kind all (input conditions 0 ts ns))
      (IsAt (IsReading (token_view conditions) (bare_attribute name.tok all)) (input conditions 0 ts ns)) [] rules
  unfolding r.made
  made_reached before name kind all ts ns {rules = rules} is texts h = go made refl
    where
      s : State
      s = input conditions 0 ts ns

      w : WrittenAttribute Tok Tok
      w = bare_attribute name.tok all

      made : Made Tok (Entry Tok Tok)
      made = new_entry (token_view conditions) (entries_in before) name.tok kind (by_position all) (by_key all)

      known : Among (known_broken (token_view conditions) w kind) rules
      known = named_covers w kind is h.alone

      own : List (Broken Tok)
      own = arguments_broken (token_view conditions) name.tok kind (by_position all) (by_key all)

      arguments_covered : Among own rules
      arguments_covered =
          among_others (order_broken (token_view conditions) name.tok false all ++ repeats_broken (token_view conditions) name.tok [] (by_key all)) own known

      broken : (rule : Broken Tok) → Breaks (token_view conditions) (entries_in before) name.tok kind (by_position all) (by_key all) rule → Contains rules rule
      broken rule (alone c) = arguments_covered.carries rule c
      broken rule (repeated attribute means c) =
          let e : Entry Tok Tok = bare_entry name.tok attribute in
          (h.repeated e (means_by w kind e is refl refl means)).carries rule c

      go : (m : Made Tok (Entry Tok Tok)) → made ≡ m → ReachesSome conditions Hit (read_made m s >>= λ e. Ok (keep_both w e.0, e.1))
          (IsAt (IsReading (token_view conditions) w) s) [] rules
      go (Ok e) eq =
          let m = entry_made (token_view conditions) (entries_in before) name.tok kind (by_position all) (by_key all) e eq in
          read_now conditions Hit (keep_both w e, s) (record { written_is = refl; means = means_by w kind e is m.name_is m.comment_is m.meant }, refl) refl
      go (Err rule) eq =
          breaks_one conditions Hit rule (broken rule (entry_refused (token_view conditions) (entries_in before) name.tok kind (by_position all) (by_key all)
          rule (have_texts all texts) eq)) refl

  known_covers : (before : List ReadAttribute) (w : WrittenAttribute Tok Tok) (kind : AttributeKind) {rules : List (Broken Tok)}
      → kind_named w.name.lexeme ≡ Some kind → CoversOne before w rules → Covers (token_view conditions) w.name [] w.arguments rules
  known_covers before w kind is h =
      let own : List (Broken Tok) = arguments_broken (token_view conditions) w.name kind (by_position w.arguments) (by_key w.arguments) in
      let orders : List (Broken Tok) = order_broken (token_view conditions) w.name false w.arguments in
      let repeats : List (Broken Tok) = repeats_broken (token_view conditions) w.name [] (by_key w.arguments) in
      let both = among_first (orders ++ repeats) own (named_covers w kind is h.alone) in
      record { orders = among_first orders repeats both; repeats = among_others orders repeats both }

  abbrev AttributeReached : List ReadAttribute → List (Noted Tok) → WrittenAttribute Tok Tok → List (Noted Tok) → Tokens → Tokens → List (Broken Tok) → Type 0
  AttributeReached before ns w fs ts rest rules =
      ReachesSome conditions Hit (reader.attribute before (input conditions 0 ts ns))
      (IsAt (IsReading (token_view conditions) w) (input conditions 0 rest (ns ++ fs)))
      (flat_map argument_literals w.arguments) rules

  unknown_rule : (w : WrittenAttribute Tok Tok) {rules : List (Broken Tok)} → kind_named w.name.lexeme ≡ None
      → Among (attribute_broken (token_view conditions) w) rules → Contains rules (record { rule = UnknownAttribute w.name; token = w.name })
  unknown_rule w {rules = rules} is h = (subst (λ o. Among (named_broken (token_view conditions) w o) rules) is h).carries _ (0, omega arith, refl)

  named_reached : (before : List ReadAttribute) (ns : List (Noted Tok)) (name : SignificantToken) (all : List (Argument Tok Tok)) {fs : List (Noted Tok)}
      {ts rest : Tokens} {rules : List (Broken Tok)} → IsKind kinds.Identifier name
      → AttributeOf itself itself MayEnter (bare_attribute name.tok all) fs (name ∷ ts) rest
      → CoversOne before (bare_attribute name.tok all) rules
      → AttributeReached before ns (bare_attribute name.tok all) fs (name ∷ ts) rest rules
  unfolding r.attribute
  named_reached before ns name all {fs = fs} {ts = ts} {rest = rest} {rules = rules} kind h covers =
      rw (expect_taken kinds.Identifier name ts conditions 0 ns kind)
      (by conditions Hit (first_alike _ _ after (reader.kind_at_is name s)) (go (kind_named name.tok.lexeme) refl))
    where
      s : State
      s = input conditions 0 ts ns

      w : WrittenAttribute Tok Tok
      w = bare_attribute name.tok all

      after : AttributeKind × State → Read ReadAttribute
      after k = reader.arguments name (takes_keys k.0) k.1 >>= λ x. reader.made before name k.0 x.0 x.1

      Found : Read ReadAttribute → Type 0
      Found o =
          ReachesSome conditions Hit o (IsAt (IsReading (token_view conditions) w) (input conditions 0 rest (ns ++ fs))) (flat_map argument_literals all) rules

      go : (o : Option AttributeKind) → kind_named name.tok.lexeme ≡ o → Found (reader.kind_or_refused name s o >>= after)
      go None is = breaks_one conditions Hit _ (unknown_rule w is covers.alone) refl
      go (Some k) is =
          subst (λ b. Found (reader.arguments name b s >>= λ x. reader.made before name k x.0 x.1)) (ap named_takes_keys is)
          (last_one conditions Hit _ _ (given_reached name ns h (known_covers before w k is covers))
          (λ texts. made_reached before name k all rest (ns ++ fs) is texts covers))

  attribute_reached : (before : List ReadAttribute) (ns : List (Noted Tok)) {w : WrittenAttribute Tok Tok} {fs : List (Noted Tok)} {ts rest : Tokens}
      {rules : List (Broken Tok)} → AttributeOf itself itself MayEnter w fs ts rest
      → CoversOne before w rules → AttributeReached before ns w fs ts rest rules
  attribute_reached before ns (g.plain {name = name} kind no_colon no_paren) covers =
      named_reached before ns name [] kind (g.plain kind no_colon no_paren) covers
  attribute_reached before ns (g.short {e = e} {name = name} {first = first} kind kind2 h) covers =
      named_reached before ns name (tree.Positional first.tok e ∷ []) kind (g.short kind kind2 h) covers
  attribute_reached before ns (g.long {arguments = all} {name = name} kind kind2 h) covers = named_reached before ns name all kind (g.long kind kind2 h) covers

  -- ---- attributes up to the closing bracket

  -- those that were read before, and readings of these
  record ReadsOn (before : List ReadAttribute) (ws : List (WrittenAttribute Tok Tok)) (all : List ReadAttribute) : Type 0 where
    others : List ReadAttribute
    all_are : all ≡ before ++ others
    readings : AreReadings (token_view conditions) ws others

  reads_one : (before : List ReadAttribute) (w : WrittenAttribute Tok Tok) (ws : List (WrittenAttribute Tok Tok)) (x : ReadAttribute)
      → IsReading (token_view conditions) w x → (all : List ReadAttribute) → ReadsOn (before ++ x ∷ []) ws all → ReadsOn before (w ∷ ws) all
  reads_one before w ws x is all h =
      record { others = x ∷ h.others; all_are = h.all_are ∙ append_assoc before (x ∷ []) h.others; readings = more is h.readings }

  covers_first : (before : List ReadAttribute) (w : WrittenAttribute Tok Tok) (ws : List (WrittenAttribute Tok Tok)) {rules : List (Broken Tok)}
      → CoversAll (token_view conditions) (entries_in before) (w ∷ ws) rules → CoversOne before w rules
  covers_first before w ws h =
      record {
        alone = covers_one (token_view conditions) (entries_in before) w ws h;
        repeated = covers_duplicate (token_view conditions) (entries_in before)
            w ws h;
      }

  covers_rest : (before : List ReadAttribute) (w : WrittenAttribute Tok Tok) (ws : List (WrittenAttribute Tok Tok)) (x : ReadAttribute)
      {rules : List (Broken Tok)} → IsReading (token_view conditions) w x
      → CoversAll (token_view conditions) (entries_in before) (w ∷ ws) rules → CoversAll (token_view conditions) (entries_in (before ++ x ∷ [])) ws rules
  covers_rest before w ws x {rules = rules} is h =
      subst (λ es. CoversAll (token_view conditions) es ws rules) (sym (map-append entry_read before (x ∷ [])))
      (covers_after (token_view conditions) (entries_in before) w ws h x.entry is.means)

  bracket_end_read : (all : List ReadAttribute) (closer : SignificantToken) (ts : Tokens) (ns : List (Noted Tok)) → IsKind kinds.BracketR closer
      → reader.bracket_end all (input conditions 0 (closer ∷ ts) ns) ≡ Ok (all, input conditions 0 ts ns)
  unfolding r.bracket_end
  bracket_end_read all closer ts ns kind = rw (expect_taken kinds.BracketR closer ts conditions 0 ns kind) refl

  bracketed_reached : (before : List ReadAttribute) (ns : List (Noted Tok)) {ws : List (WrittenAttribute Tok Tok)} {fs : List (Noted Tok)} {ts rest : Tokens}
      {rules : List (Broken Tok)} → Bracketed itself itself MayEnter ws fs ts rest
      → CoversAll (token_view conditions) (entries_in before) ws rules
      → ReachesSome conditions Hit (reader.bracketed (before, input conditions 0 ts ns)) (IsAt (ReadsOn before ws) (input conditions 0 rest (ns ++ fs)))
      (written_literals ws) rules
  bracketed_reached before ns {ts = ts} {rest = rest} (g.last {w = w} {fs = fs} {closer = closer} h kind) covers =
      by conditions Hit (reader.bracketed_is (before, input conditions 0 ts ns))
      (then_at conditions Hit _ _ (attribute_reached before ns h (covers_first before w [] covers)) (λ x is.
      rw (accept_left kinds.Comma (closer ∷ rest) conditions 0 (ns ++ fs) (λ e. cc))
      (read_now conditions Hit (before ++ x ∷ [], input conditions 0 rest (ns ++ fs))
      (record { others = x ∷ []; all_are = refl; readings = more is none }, refl) (bracket_end_read (before ++ x ∷ []) closer rest (ns ++ fs) kind))))
  bracketed_reached before ns {ts = ts} (g.more {w = w} {ws = ws} {fs = fs} {gs = gs} {comma = comma} {next = next} {rest = rest} h kind k) covers =
      by conditions Hit (reader.bracketed_is (before, input conditions 0 ts ns))
      (then_at conditions Hit _ _ (attribute_reached before ns h (covers_first before w ws covers)) (λ x is.
      rw (accept_taken kinds.Comma comma next conditions 0 (ns ++ fs) kind)
      (read_as conditions Hit (ReadsOn before (w ∷ ws)) (reads_one before w ws x is) (λ i. input conditions 0 rest (append_assoc ns fs gs i))
      (bracketed_reached (before ++ x ∷ []) (ns ++ fs) k (covers_rest before w ws x is covers)))))

  -- ---- lines of attributes

  -- the end of a line is read
  record EndRead (comment : Option (List ℕ)) (ts rest : Tokens) (ns : List (Noted Tok)) : Type 0 where
    token : Option SignificantToken
    says : option_map (comment_in token_leaves) token ≡ comment
    is : reader.attributes_end (input conditions 0 ts ns) ≡ Ok (token, input conditions 0 rest ns)

  line_end_read : (ns : List (Noted Tok)) {comment : Option (List ℕ)} {ts rest : Tokens} → AttributesEnd itself itself MayEnter comment ts rest → EndRead comment ts rest ns
  unfolding r.attributes_end r.line_end_after
  line_end_read ns {rest = rest} (g.bare {newline = newline} kind) =
      record {
        token = None;
        says = refl;
        is = rw (
          accept_left kinds.Comment (newline ∷ rest) conditions 0 ns (λ e. cc),
          expect_taken kinds.Eol newline rest conditions
              0 ns kind,
        ) refl;
      }
  line_end_read ns {rest = rest} (g.commented {comment = comment} {newline = newline} kind kind2) =
      record {
        token = Some comment;
        says = refl;
        is = rw (
          accept_taken kinds.Comment comment (newline ∷ rest) conditions 0 ns kind,
          expect_taken kinds.Eol newline rest
              conditions 0 ns kind2,
        ) refl;
      }

  -- a line after its comment
  some_read : {ws : List (WrittenAttribute Tok Tok)} {xs : List ReadAttribute} → NotEmpty ws → AreReadings (token_view conditions) ws xs → NotEmpty xs
  some_read some none = some
  some_read some (more is h) = tt

  reads_commented : (comment : Option (List ℕ)) (before : List ReadAttribute) (ws : List (WrittenAttribute Tok Tok)) (x : List ReadAttribute) → NotEmpty ws
      → ReadsOn before ws x → ReadsOn before (commented_line comment ws) (commented commented_both comment x)
  reads_commented comment before ws x some h = record {
    others = commented commented_both comment h.others;
    all_are = ap (commented commented_both comment) h.all_are ∙ commented_after commented_both comment before h.others (some_read some h.readings);
    readings = readings_commented (token_view conditions) comment h.readings;
  }

  covers_uncommented : (comment : Option (List ℕ)) (before : List (Entry Tok Tok)) (ws : List (WrittenAttribute Tok Tok)) {rules : List (Broken Tok)}
      → CoversAll (token_view conditions) before (commented_line comment ws) rules → CoversAll (token_view conditions) before ws rules
  covers_uncommented comment before ws {rules = rules} h = record {
    each = subst (λ l. Among l rules) (commented_broken (token_view conditions) comment ws) h.each;
    repeats = subst (λ l. Among l rules) (commented_repeats (token_view conditions) comment before ws) h.repeats;
  }

  reads_lines : (before : List ReadAttribute) (ws vs : List (WrittenAttribute Tok Tok)) (x : List ReadAttribute) → ReadsOn before ws x
      → (all : List ReadAttribute) → ReadsOn x vs all → ReadsOn before (ws ++ vs) all
  reads_lines before ws vs x h all k = record {
    others = h.others ++ k.others;
    all_are = k.all_are ∙ ap (λ (l : List ReadAttribute). l ++ k.others) h.all_are ∙ append_assoc before h.others k.others;
    readings = readings_append (token_view conditions) h.readings k.readings;
  }

  covers_other_lines : (before : List ReadAttribute) (ws vs : List (WrittenAttribute Tok Tok)) (x : List ReadAttribute) {rules : List (Broken Tok)}
      → ReadsOn before ws x → CoversAll (token_view conditions) (entries_in before) (ws ++ vs) rules
      → CoversAll (token_view conditions) (entries_in x) vs rules
  covers_other_lines before ws vs x {rules = rules} h covers =
      subst (λ es. CoversAll (token_view conditions) es vs rules) (sym (ap entries_in h.all_are ∙ map-append entry_read before h.others))
      (covers_lines (token_view conditions) (entries_in before) ws vs covers h.others h.readings)

  lines_reached : (before : List ReadAttribute) (ns : List (Noted Tok)) {ws : List (WrittenAttribute Tok Tok)} {fs : List (Noted Tok)} {ts rest : Tokens}
      {rules : List (Broken Tok)} → AttributeLines itself itself MayEnter ws fs ts rest
      → CoversAll (token_view conditions) (entries_in before) ws rules
      → ReachesSome conditions Hit (reader.attribute_lines_from (before, input conditions 0 ts ns))
      (IsAt (ReadsOn before ws) (input conditions 0 rest (ns ++ fs))) (written_literals ws) rules
  lines_reached before ns {ts = ts} (g.none not) covers =
      by conditions Hit (reader.attribute_lines_from_is (before, input conditions 0 ts ns))
      (rw (accept_left kinds.BracketL ts conditions 0 ns not)
      (read_now conditions Hit (before, input conditions 0 ts ns) (
        record { others = []; all_are = sym (append-nil before); readings = none },
        λ i. input
            conditions 0 ts (sym (append-nil ns) i),
      ) refl))
  lines_reached before ns {ts = ts} {rest = rest} (g.line {ws = ws} {others = vs} {fs = fs} {gs = gs} {comment = comment} {opener = opener}
      {tokens = tokens} {end = end} {next = next} kind b e k) covers =
      let closed : EndRead comment end next (ns ++ fs) = line_end_read (ns ++ fs) e in
      let us : List (WrittenAttribute Tok Tok) = commented_line comment ws in
      let literals : written_literals ws ++ written_literals vs ≡ written_literals (us ++ vs) =
      ap (λ l. l ++ written_literals vs) (sym (commented_literals comment ws))
      ∙ sym (flat_map-append (λ (w : WrittenAttribute Tok Tok). flat_map argument_literals w.arguments) us vs) in
      by conditions Hit (reader.attribute_lines_from_is (before, input conditions 0 ts ns))
      (rw (accept_taken kinds.BracketL opener tokens conditions 0 ns kind)
      (regrouped conditions Hit literals
      (then_at conditions Hit _ _
      (bracketed_reached before ns b (covers_uncommented comment (entries_in before) ws (covers_line (token_view conditions) (entries_in before) us vs covers)))
      (λ x is.
      let all : List ReadAttribute = commented commented_both comment x in
      let read : ReadsOn before us all = reads_commented comment before ws x (some_bracketed itself itself MayEnter b) is in
      rw (closed.is, closed.says)
      (read_as conditions Hit (ReadsOn before (us ++ vs)) (reads_lines before us vs all read) (λ i. input conditions 0 rest (append_assoc ns fs gs i))
      (lines_reached all (ns ++ fs) k (covers_other_lines before us vs all read covers)))))))

  whole_covered : (ws : List (WrittenAttribute Tok Tok)) → CoversAll (token_view conditions) [] ws (attributes_broken (token_view conditions) ws)
  whole_covered ws =
      let alone : List (Broken Tok) = flat_map (attribute_broken (token_view conditions)) ws in
      let repeated : List (Broken Tok) = duplicates_broken (token_view conditions) [] ws in
      record { each = among_first alone repeated (all_among (alone ++ repeated)); repeats = among_others alone repeated (all_among (alone ++ repeated)) }

  readings_of : (ws : List (WrittenAttribute Tok Tok)) (all : List ReadAttribute) → ReadsOn [] ws all → AreReadings (token_view conditions) ws all
  readings_of ws all h = subst (AreReadings (token_view conditions) ws) (sym h.all_are) h.readings

  -- the attributes before a construct are parsed, or a due error is reported
  pub attributes_reached : (ns : List (Noted Tok)) {ws : List (WrittenAttribute Tok Tok)} {fs : List (Noted Tok)} {ts rest : Tokens}
      → AttributeLines itself itself MayEnter ws fs ts rest
      → ReachesSome conditions Hit (read_attributes (input conditions 0 ts ns)) (IsAt (AreReadings (token_view conditions) ws)
      (input conditions 0 rest (ns ++ fs))) (written_literals ws) (attributes_broken (token_view conditions) ws)
  unfolding r.attribute_lines
  attributes_reached ns {ws = ws} h = read_as conditions Hit (AreReadings (token_view conditions) ws) (readings_of ws) refl (lines_reached [] ns h (whole_covered ws))
