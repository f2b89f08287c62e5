-- Attribute lines that are parsed derive, with the features that the parser notes. Their literals have texts, they break no rule, and each
-- attribute has the meaning that was made of it.
use Rattle.std.proofs.Common.{◌≡◌, ℕ, Bool, true, false, List, [], ◌∷◌, ◌++◌, map, Option, Some, None, Ok, Err, refl, sym, subst, subst₂, ap, ◌∙◌, append_assoc, append-nil}
use Rattle.std.specs.List.{flat_map}
use Rattle.std.specs.Option.{option_map}
use Rattle.std.proofs.lemmas.Grind.{flat_map-append}
use Rattle.std.proofs.lemmas.List.{map-append}
use Rattle.justfile_vocabulary.specs.AttributeKind.{kind_named, takes_keys}
use Rattle.justfile_vocabulary.specs.declared.attribute_kind.AttributeKind.{AttributeKind}
use Rattle.justfile_vocabulary.specs.declared.token_kind.TokenKind.TheVariants as kinds
use Rattle.justfile_model.specs.Meanings.AttributeKinds.{name_takes_keys, named_takes_keys}
use Rattle.justfile_model.specs.Grammars.AttributeLines as g
use Rattle.justfile_model.specs.Grammars.AttributeLines.{IsKey}
use Rattle.justfile_model.specs.Readers.AttributeReader as r
use Rattle.justfile_model.specs.Readers.AttributeReader.{read_made}
use Rattle.justfile_model.specs.Meanings.AttributeRules.{arguments_broken, attribute_broken, attributes_broken, duplicate_broken, named_broken}
use Rattle.justfile_model.specs.Grammars.Conditions.{Conditions}
use Rattle.justfile_model.specs.Grammars.Expressions.{Tokens, IsKind, NotNext, BelowLimit, front}
use Rattle.justfile_model.specs.Grammars.Features.{Noted}
use Rattle.justfile_model.specs.Grammars.Grammar.{NotEmpty}
use Rattle.justfile_model.specs.Grammars.Files.{argument_literals, expr_literals, optional_literals, written_literals}
use Rattle.justfile_model.specs.Meanings.Meaning.{KeyArgument, all_of, attribute_of, by_key, by_position, entry_of}
use Rattle.justfile_model.specs.Readers.NewAttribute.{Made, new_entry}
use Rattle.justfile_model.specs.Meanings.ReadAttribute.{ReadAttribute, commented_both, entry_read, token_view}
use Rattle.justfile_model.specs.Readers.ReaderState.{◌>>=◌, at, comment_in}
use Rattle.justfile_model.specs.Lexing.SignificantTokens.{SignificantToken}
use Rattle.justfile_model.specs.Lexing.Tok.{Tok}
use Rattle.justfile_model.specs.Trees.Tree as tree
use Rattle.justfile_model.specs.Trees.Tree.{Argument, Entry, Expr, WrittenAttribute, bare_attribute, commented, commented_attribute, commented_entry, commented_line, itself}
use Rattle.justfile_model.specs.Readers.TreeReader.{Read, State, token_leaves, read_attributes}
use Rattle.justfile_model.proofs.Completeness.AttributeSteps.{AllMade, Follow, Follows, IsNew, key_is_next, key_taken, keys_append, none, more, none_broken, made_append, made_commented, made_mean, none_follow, one_follows}
use Rattle.justfile_model.proofs.Printed.Commented.{commented_after, commented_literals, commented_map, some_bracketed}
use Rattle.justfile_model.proofs.Sound.ExpressionSound as e
use Rattle.justfile_model.proofs.Sound.ExpressionSound.{Derived, Here, again, alone, begins, ends, followed, plainly}
use Rattle.justfile_model.proofs.Meanings.NewAttributeLaws.{entry_made}
use Rattle.justfile_model.proofs.Readers.ReadingSteps.{after_test, loop_has}
use Rattle.justfile_model.proofs.Readers.Steps.{Holds, failed, holds, if_expected, if_next, read_then, true_not_false, weaken}
use Rattle.justfile_model.proofs.Readers.TokenAttributes as reader
use Rattle.justfile_model.proofs.Sound.HeaderSound.{Passed, passed, quiet}

-- an argument of an attribute with what is left
abbrev ReadArgument : Type 0
ReadArgument = Argument Tok Tok × State

-- what the attributes that were read mean, and how they are written

abbrev pub entries_in : List ReadAttribute → List (Entry Tok Tok)
entries_in = map entry_read

abbrev pub written_in : List ReadAttribute → List (WrittenAttribute Tok Tok)
written_in = map (λ (x : ReadAttribute). x.written)

module _ (conditions : Conditions) where
  -- trees with their tokens, under the limit
  abbrev Expression : Expr Tok Tok → List (Noted Tok) → Tokens → Tokens → Type 0
  Expression = e.Expression conditions false 0

  abbrev pub ArgumentOf : Bool → Argument Tok Tok → List (Noted Tok) → Tokens → Tokens → Type 0
  ArgumentOf = g.ArgumentOf itself itself (BelowLimit conditions.limit)

  abbrev pub Arguments : Bool → List (Argument Tok Tok) → List (Noted Tok) → Tokens → Tokens → Type 0
  Arguments = g.Arguments itself itself (BelowLimit conditions.limit)

  abbrev pub AttributeOf : WrittenAttribute Tok Tok → List (Noted Tok) → Tokens → Tokens → Type 0
  AttributeOf = g.AttributeOf itself itself (BelowLimit conditions.limit)

  abbrev pub Bracketed : List (WrittenAttribute Tok Tok) → List (Noted Tok) → Tokens → Tokens → Type 0
  Bracketed = g.Bracketed itself itself (BelowLimit conditions.limit)

  abbrev pub AttributesEnd : Option (List ℕ) → Tokens → Tokens → Type 0
  AttributesEnd = g.AttributesEnd itself itself (BelowLimit conditions.limit)

  abbrev pub AttributeLines : List (WrittenAttribute Tok Tok) → List (Noted Tok) → Tokens → Tokens → Type 0
  AttributeLines = g.AttributeLines itself itself (BelowLimit conditions.limit)

  -- ---- an argument by position

  -- an expression with its first token
  data IsPlaced : Argument Tok Tok → List (Noted Tok) → Tokens → Tokens → Type 0 where
    placed : {e : Expr Tok Tok} {fs : List (Noted Tok)} {first : SignificantToken} {tokens rest : Tokens} → Expression e fs (first ∷ tokens) rest
        → IsPlaced (tree.Positional first.tok e) fs (first ∷ tokens) rest

  abbrev PlacedAt : State → ReadArgument → Type 0
  PlacedAt s x = Derived conditions (IsPlaced x.0) (argument_literals x.0) 0 s x.1

  placed_from : (ts : Tokens) (s : State) (e : Expr Tok Tok × State) → s.left ≡ ts → Derived conditions (Expression e.0) (expr_literals e.0) 0 s e.1
      → Holds (PlacedAt s) (reader.placed_at (front ts) e)
  placed_from [] s e split h = failed
  placed_from (t ∷ ts) s e split h =
      let V : Tokens → Type 0 = λ us. Expression e.0 h.features us e.1.left in
      holds (begins split (again h (placed (subst V split h.derives))))

  placed_sound : (s : State) → Here conditions 0 s → Holds (PlacedAt s) (reader.placed s)
  unfolding r.placed
  placed_sound s here = read_then (e.expression_sound conditions s here) (λ x found. placed_from s.left s x refl found)

  -- ---- an argument after others

  -- an argument that can follow these
  record IsArgument (keys : Bool) (name : Tok) (before : List (Argument Tok Tok)) (s : State) (x : ReadArgument) : Type 0 where
    derived : Derived conditions (ArgumentOf keys x.0) (argument_literals x.0) 0 s x.1
    follows : Follows (token_view conditions) name (by_key before) x.0

  by_position_derives : {keys : Bool} {a : Argument Tok Tok} {fs : List (Noted Tok)} {ts rest : Tokens} → (keys ≡ true → IsKey ts → ⊥) → IsPlaced a fs ts rest
      → ArgumentOf keys a fs ts rest
  by_position_derives not (placed e) = g.positional not e

  placed_follows : (name : Tok) (ks : List (KeyArgument Tok Tok)) {a : Argument Tok Tok} {fs : List (Noted Tok)} {ts rest : Tokens} → reader.some_key ks ≡ false
      → IsPlaced a fs ts rest → Follows (token_view conditions) name ks a
  placed_follows name ks first (placed e) = first

  after_a_key : (P : ReadArgument → Type 0) {a : Argument Tok Tok} {fs : List (Noted Tok)} {ts rest : Tokens} (s : State) → IsPlaced a fs ts rest
      → Holds P (reader.after_keys true (a, s))
  after_a_key P s (placed e) = failed

  ordered_sound : (keys : Bool) (name : Tok) (before : List (Argument Tok Tok)) (s : State) (b : Bool) (x : ReadArgument) → reader.some_key (by_key before) ≡ b
      → (keys ≡ true → IsKey s.left → ⊥) → PlacedAt s x
      → Holds (IsArgument keys name before s) (reader.after_keys b x)
  ordered_sound keys name before s true x some not h = after_a_key (IsArgument keys name before s) x.1 h.derives
  ordered_sound keys name before s false x some not h =
      holds (record { derived = again h (by_position_derives not h.derives); follows = placed_follows name (by_key before) some h.derives })

  positional_sound : (keys : Bool) (name : Tok) (before : List (Argument Tok Tok)) (s : State) → Here conditions 0 s → (keys ≡ true → IsKey s.left → ⊥)
      → Holds (IsArgument keys name before s) (reader.positional before s)
  unfolding r.positional
  positional_sound keys name before s here not =
      read_then (placed_sound s here) (λ x found. ordered_sound keys name before s (reader.some_key (by_key before)) x refl not found)

  -- the tokens after a key: its value, or no `=`
  data IsValue : Option (Expr Tok Tok) → List (Noted Tok) → Tokens → Tokens → Type 0 where
    nothing : {rest : Tokens} → NotNext kinds.Equals rest → IsValue None [] rest rest
    value : {e : Expr Tok Tok} {fs : List (Noted Tok)} {equals : SignificantToken} {tokens rest : Tokens} → IsKind kinds.Equals equals
        → Expression e fs tokens rest → IsValue (Some e) fs (equals ∷ tokens) rest

  abbrev ValueAt : State → Option (Expr Tok Tok) × State → Type 0
  ValueAt s x = Derived conditions (IsValue x.0) (optional_literals expr_literals x.0) 0 s x.1

  key_value_sound : (s : State) → Here conditions 0 s → Holds (ValueAt s) (reader.key_value s)
  unfolding r.key_value
  key_value_sound s here =
      if_next kinds.Equals s _ (λ not. holds (plainly here (nothing not)))
      (λ equals rest split kind. read_then (e.expression_sound conditions (at s rest) here) (λ x found.
      holds (begins split (again found (value kind found.derives)))))

  key_derives : {v : Option (Expr Tok Tok)} {fs : List (Noted Tok)} {key : SignificantToken} {ts rest : Tokens} → IsKey (key ∷ ts) → IsKind kinds.Identifier key
      → IsValue v fs ts rest → ArgumentOf true (reader.argument_of_key key.tok v) fs (key ∷ ts) rest
  key_derives is kind (nothing not) = g.bare is not
  key_derives is kind (value equals e) = g.keyed kind equals e

  key_literals : (key : Tok) (v : Option (Expr Tok Tok)) → argument_literals (reader.argument_of_key key v) ≡ optional_literals expr_literals v
  key_literals key None = refl
  key_literals key (Some e) = refl

  key_follows : (name : Tok) (ks : List (KeyArgument Tok Tok)) (key : Tok) (v : Option (Expr Tok Tok)) → IsNew (token_view conditions) name ks key
      → Follows (token_view conditions) name ks (reader.argument_of_key key v)
  key_follows name ks key None new = new
  key_follows name ks key (Some e) new = new

  keyed_sound : (name : SignificantToken) (before : List (Argument Tok Tok)) (s : State) → Here conditions 0 s → IsKey s.left
      → Holds (IsArgument true name.tok before s) (reader.keyed name before s)
  unfolding r.keyed
  keyed_sound name before s here is_key =
      if_expected kinds.Identifier s _ (λ key t1 split kind.
      read_then (key_value_sound (at s t1) here) (λ v found.
      after_test (reader.is_repeated v.1.run before key) _ _ (Holds (IsArgument true name.tok before s)) (λ _. failed) (λ new. holds (record {
        derived = subst (λ ls. Derived conditions (ArgumentOf true (reader.argument_of_key key.tok v.0)) ls 0 s v.1) (sym (key_literals key.tok v.0))
            (begins split (again found (key_derives (subst IsKey split is_key) kind found.derives)));
        follows = key_follows name.tok (by_key before) key.tok v.0 new;
      }))))

  argument_sound : (name : SignificantToken) (keys : Bool) (before : List (Argument Tok Tok)) (s : State) → Here conditions 0 s
      → Holds (IsArgument keys name.tok before s) (reader.argument name keys before s)
  unfolding r.argument
  argument_sound name true before s here =
      after_test (reader.begins_key s) _ _ (Holds (IsArgument true name.tok before s))
      (λ e. keyed_sound name before s here (key_is_next s e))
      (λ e. positional_sound true name.tok before s here (λ _ k. true_not_false _ (key_taken s k) e))
  argument_sound name false before s here = positional_sound false name.tok before s here (λ e. cc)

  -- ---- arguments up to the closing parenthesis

  -- more arguments that can follow the earlier ones
  record AreArguments (keys : Bool) (name : Tok) (x y : reader.ArgumentPlace) : Type 0 where
    others : List (Argument Tok Tok)
    all_are : y.0 ≡ x.0 ++ others
    derived : Derived conditions (Arguments keys others) (flat_map argument_literals others) 0 x.1 y.1
    follow : Follow (token_view conditions) name (by_key x.0) others

  follow_last : (name : Tok) (before : List (Argument Tok Tok)) (a : Argument Tok Tok) (others : List (Argument Tok Tok))
      → Follows (token_view conditions) name (by_key before) a
      → Follow (token_view conditions) name (by_key (before ++ a ∷ [])) others → Follow (token_view conditions) name (by_key before) (a ∷ others)
  follow_last name before a others follows h =
      one_follows (token_view conditions) name (by_key before) a others follows (subst (λ ks. Follow (token_view conditions) name ks others)
      (keys_append before (a ∷ [])) h)

  last_argument : (keys : Bool) (name : Tok) (before : List (Argument Tok Tok)) (s : State) (x : ReadArgument) → IsArgument keys name before s x
      → Holds (AreArguments keys name (before, s)) (reader.arguments_end (before ++ x.0 ∷ []) x.1)
  unfolding r.arguments_end
  last_argument keys name before s x one =
      if_expected kinds.ParenR x.1 _ (λ closer rest split kind. holds (record {
        others = x.0 ∷ [];
        all_are = refl;
        derived = alone one.derived (g.last (ends split one.derived).derives kind);
        follow = follow_last name before x.0 [] one.follows (none_follow (token_view conditions) name (by_key (before ++ x.0 ∷ [])));
      }))

  more_arguments : (keys : Bool) (name : Tok) (before : List (Argument Tok Tok)) (s : State) (x : ReadArgument) (comma : SignificantToken) (rest : Tokens)
      → x.1.left ≡ comma ∷ rest → IsKind kinds.Comma comma → IsArgument keys name before s x
      → (y : reader.ArgumentPlace) → AreArguments keys name (before ++ x.0 ∷ [], at x.1 rest) y → AreArguments keys name (before, s) y
  more_arguments keys name before s x comma rest split kind one y h =
      let here = ends split one.derived in
      record {
        others = x.0 ∷ h.others;
        all_are = h.all_are ∙ append_assoc before (x.0 ∷ []) h.others;
        derived = followed here h.derived (g.more here.derives kind h.derived.derives);
        follow = follow_last name before x.0 h.others one.follows h.follow;
      }

  -- all arguments that are left are read
  abbrev AllArguments : Bool → Tok → reader.ArgumentPlace → reader.ReadArguments → Type 0
  AllArguments keys name x found = Here conditions 0 x.1 → Holds (AreArguments keys name x) found

  arguments_from_sound : (name : SignificantToken) (keys : Bool) (x : reader.ArgumentPlace) → AllArguments keys name.tok x (reader.arguments_from name keys x)
  unfolding r.arguments_from
  arguments_from_sound name keys =
      loop_has (λ x. x.1) (reader.arguments_rule name keys) (AllArguments keys name.tok) (λ x here. failed) (λ f h x here.
      if_next kinds.ParenR x.1 _
      (λ not. read_then (argument_sound name keys x.0 x.1 here) (λ a one.
      if_next kinds.Comma a.1 _ (λ _. last_argument keys name.tok x.0 x.1 a one) (λ comma rest split kind.
      weaken (h (x.0 ++ a.0 ∷ [], at a.1 rest) one.derived.stays) (more_arguments keys name.tok x.0 x.1 a comma rest split kind one))))
      (λ closer rest split kind. holds (record {
        others = [];
        all_are = sym (append-nil x.0);
        derived = begins split (plainly here (g.none kind));
        follow = none_follow (token_view conditions) name.tok (by_key x.0);
      })))

  -- ---- what follows the name of an attribute

  abbrev written_at : SignificantToken → List (Argument Tok Tok) → WrittenAttribute Tok Tok
  written_at name all = bare_attribute name.tok all

  -- an attribute from its name on
  abbrev Named : SignificantToken → List (Argument Tok Tok) → List (Noted Tok) → Tokens → Tokens → Type 0
  Named name all fs ts rest = AttributeOf (written_at name all) fs (name ∷ ts) rest

  record AreAllArguments (name : SignificantToken) (s : State) (x : reader.ArgumentPlace) : Type 0 where
    derived : Derived conditions (Named name x.0) (flat_map argument_literals x.0) 0 s x.1
    follow : Follow (token_view conditions) name.tok [] x.0

  short_derives : {name colon : SignificantToken} {a : Argument Tok Tok} {fs : List (Noted Tok)} {ts rest : Tokens} → IsKind kinds.Identifier name
      → IsKind kinds.Colon colon → IsPlaced a fs ts rest → Named name (a ∷ []) fs (colon ∷ ts) rest
  short_derives kind kind2 (placed e) = g.short kind kind2 e

  long_sound : (name opener : SignificantToken) (s : State) (rest : Tokens) → s.left ≡ opener ∷ rest → IsKind kinds.Identifier name → IsKind kinds.ParenL opener
      → (x : reader.ArgumentPlace) → AreArguments (name_takes_keys name.tok.lexeme) name.tok ([], at s rest) x → AreAllArguments name s x
  long_sound name opener s rest split kind kind2 x h =
      let V : List (Argument Tok Tok) → Type 0 = λ all. Derived conditions (Named name all) (flat_map argument_literals all) 0 s x.1 in
      record {
        derived = subst V (sym h.all_are) (begins split (again h.derived (g.long kind kind2 h.derived.derives)));
        follow = subst (Follow (token_view conditions) name.tok []) (sym h.all_are) h.follow;
      }

  arguments_sound : (name : SignificantToken) (s : State) → Here conditions 0 s → IsKind kinds.Identifier name
      → Holds (AreAllArguments name s) (reader.arguments name (name_takes_keys name.tok.lexeme) s)
  unfolding r.arguments
  arguments_sound name s here kind =
      let keys = name_takes_keys name.tok.lexeme in
      if_next kinds.Colon s _
      (λ no_colon. if_next kinds.ParenL s _
      (λ no_paren. holds (record { derived = plainly here (g.plain kind no_colon no_paren); follow = none_follow (token_view conditions) name.tok [] }))
      (λ opener rest split kind2. weaken (arguments_from_sound name keys ([], at s rest) here) (long_sound name opener s rest split kind kind2)))
      (λ colon rest split kind2. read_then (placed_sound (at s rest) here) (λ a found. holds (record {
        derived = begins split (alone found (short_derives kind kind2 found.derives));
        follow = one_follows (token_view conditions) name.tok [] a.0 [] (placed_follows name.tok [] refl found.derives)
            (none_follow (token_view conditions) name.tok (by_key (a.0 ∷ [])));
      })))

module _ (conditions : Conditions) where
  -- ---- an attribute after others

  -- an attribute that breaks no rule after these, with its meaning
  record IsAttribute (before : List ReadAttribute) (s : State) (x : ReadAttribute × State) : Type 0 where
    derived : Derived conditions (AttributeOf conditions x.0.written) (flat_map argument_literals x.0.written.arguments) 0 s x.1
    means : entry_of (token_view conditions) x.0.written ≡ Some x.0.entry
    unbroken : attribute_broken (token_view conditions) x.0.written ≡ []
    distinct : duplicate_broken (token_view conditions) (entries_in before) x.0.entry ≡ []

  -- a name of a kind, or an error
  after_kind : {X : Type 0} {P : X × State → Type 0} (name : SignificantToken) (s : State) (f : AttributeKind × State → Read X)
      → ((kind : AttributeKind) → kind_named name.tok.lexeme ≡ Some kind → Holds P (f (kind, s))) → Holds P (reader.kind_at name s >>= f)
  after_kind {P = P} name s f goes =
      subst (λ o. Holds P (o >>= f)) (sym (reader.kind_at_is name s)) (go (kind_named name.tok.lexeme) goes)
    where
      go : (o : Option AttributeKind) → ((kind : AttributeKind) → o ≡ Some kind → Holds P (f (kind, s))) → Holds P (reader.kind_or_refused name s o >>= f)
      go None h = failed
      go (Some kind) h = h kind refl

  after_made : {X : Type 0} {P : X × State → Type 0} (found : Made Tok (Entry Tok Tok)) (s : State) (f : Entry Tok Tok × State → Read X)
      → ((e : Entry Tok Tok) → found ≡ Ok e → Holds P (f (e, s))) → Holds P (read_made found s >>= f)
  after_made (Ok e) s f goes = goes e refl
  after_made (Err rule) s f goes = failed

  named_means : (w : WrittenAttribute Tok Tok) (kind : AttributeKind) (e : Entry Tok Tok) → kind_named w.name.lexeme ≡ Some kind → e.name ≡ w.name → e.comment ≡ w.comment
      → attribute_of (token_view conditions) kind (by_position w.arguments) (by_key w.arguments) ≡ Some e.attribute
      → entry_of (token_view conditions) w ≡ Some e
  named_means w kind e is named comment_is means =
      rw (is, means) (λ i. Some (record { name = sym named i; attribute = e.attribute; comment = sym comment_is i }))

  named_unbroken : (w : WrittenAttribute Tok Tok) (kind : AttributeKind) → kind_named w.name.lexeme ≡ Some kind
      → Follow (token_view conditions) w.name [] w.arguments
      → arguments_broken (token_view conditions) w.name kind (by_position w.arguments) (by_key w.arguments) ≡ []
      → attribute_broken (token_view conditions) w ≡ []
  named_unbroken w kind is follow unbroken =
      ap (named_broken (token_view conditions) w) is
      ∙ rw (follow.in_order, follow.distinct) unbroken

  made_sound : (before : List ReadAttribute) (name : SignificantToken) (kind : AttributeKind) (s : State) (ts : Tokens) (x : reader.ArgumentPlace) → s.left ≡ name ∷ ts
      → kind_named name.tok.lexeme ≡ Some kind → AreAllArguments conditions name (at s ts) x
      → Holds (IsAttribute before s) (reader.made before name kind x.0 x.1)
  unfolding r.made
  made_sound before name kind s ts x split is h =
      let w : WrittenAttribute Tok Tok = written_at conditions name x.0 in
      let made : Conditions → Made Tok (Entry Tok Tok) = λ c. new_entry (token_view c) (entries_in before) name.tok kind (by_position x.0) (by_key x.0) in
      after_made (made x.1.run) x.1 _ (λ e made_is.
      let m = entry_made (token_view conditions) (entries_in before) name.tok kind (by_position x.0) (by_key x.0) e
      (subst (λ c. made c ≡ Ok e) h.derived.stays.1 made_is) in
      holds (record {
        derived = begins split (again h.derived h.derived.derives);
        means = named_means w kind e is m.name_is m.comment_is m.meant;
        unbroken = named_unbroken w kind is h.follow m.unbroken;
        distinct = m.distinct;
      }))

  keys_taken : (name : List ℕ) (kind : AttributeKind) → kind_named name ≡ Some kind → name_takes_keys name ≡ takes_keys kind
  keys_taken name kind is = ap named_takes_keys is

  attribute_sound : (before : List ReadAttribute) (s : State) → Here conditions 0 s → Holds (IsAttribute before s) (reader.attribute before s)
  unfolding r.attribute
  attribute_sound before s here =
      if_expected kinds.Identifier s _ (λ name rest split kind.
      after_kind name (at s rest) _ (λ k is.
      read_then (subst (λ b. Holds (AreAllArguments conditions name (at s rest)) (reader.arguments name b (at s rest))) (keys_taken name.tok.lexeme k is)
      (arguments_sound conditions name (at s rest) here kind)) (λ all found.
      made_sound before name k s rest all split is found)))

  -- ---- attributes up to the closing bracket, and lines of them

  abbrev Rule : Type 1
  Rule = List (WrittenAttribute Tok Tok) → List (Noted Tok) → Tokens → Tokens → Type 0

  -- more attributes, which break no rule after those before
  record AreAttributes (rule : Rule) (x y : reader.AttributePlace) : Type 0 where
    others : List ReadAttribute
    all_are : y.0 ≡ x.0 ++ others
    derived : Derived conditions (rule (written_in others)) (written_literals (written_in others)) 0 x.1 y.1
    made : AllMade (token_view conditions) (entries_in x.0) (written_in others) (entries_in others)

  made_after : (before : List ReadAttribute) (x : ReadAttribute) (others : List ReadAttribute) → entry_of (token_view conditions) x.written ≡ Some x.entry
      → attribute_broken (token_view conditions) x.written ≡ []
      → duplicate_broken (token_view conditions) (entries_in before) x.entry ≡ []
      → AllMade (token_view conditions) (entries_in (before ++ x ∷ [])) (written_in others) (entries_in others)
      → AllMade (token_view conditions) (entries_in before) (written_in (x ∷ others)) (entries_in (x ∷ others))
  made_after before x others means unbroken distinct h =
      more means unbroken distinct (subst (λ es. AllMade (token_view conditions) es (written_in others) (entries_in others))
      (map-append entry_read before (x ∷ [])) h)

  last_attribute : (before : List ReadAttribute) (s : State) (x : ReadAttribute × State) → IsAttribute before s x
      → Holds (AreAttributes (Bracketed conditions) (before, s)) (reader.bracket_end (before ++ x.0 ∷ []) x.1)
  unfolding r.bracket_end
  last_attribute before s x one =
      if_expected kinds.BracketR x.1 _ (λ closer rest split kind. holds (record {
        others = x.0 ∷ [];
        all_are = refl;
        derived = alone one.derived (g.last (ends split one.derived).derives kind);
        made = made_after before x.0 [] one.means one.unbroken one.distinct none;
      }))

  more_attributes : (before : List ReadAttribute) (s : State) (x : ReadAttribute × State) (comma : SignificantToken) (rest : Tokens) → x.1.left ≡ comma ∷ rest
      → IsKind kinds.Comma comma → IsAttribute before s x
      → (y : reader.AttributePlace) → AreAttributes (Bracketed conditions) (before ++ x.0 ∷ [], at x.1 rest) y
      → AreAttributes (Bracketed conditions) (before, s) y
  more_attributes before s x comma rest split kind one y h =
      let here = ends split one.derived in
      record {
        others = x.0 ∷ h.others;
        all_are = h.all_are ∙ append_assoc before (x.0 ∷ []) h.others;
        derived = followed here h.derived (g.more here.derives kind h.derived.derives);
        made = made_after before x.0 h.others one.means one.unbroken one.distinct h.made;
      }

  -- all attributes that are left are read
  abbrev AllAttributes : Rule → reader.AttributePlace → reader.ReadAttributes → Type 0
  AllAttributes rule x found = Here conditions 0 x.1 → Holds (AreAttributes rule x) found

  bracketed_sound : (x : reader.AttributePlace) → AllAttributes (Bracketed conditions) x (reader.bracketed x)
  unfolding r.bracketed
  bracketed_sound =
      loop_has (λ x. x.1) (reader.bracketed_rule) (AllAttributes (Bracketed conditions)) (λ x here. failed) (λ f h x here.
      read_then (attribute_sound x.0 x.1 here) (λ w one.
      if_next kinds.Comma w.1 _ (λ _. last_attribute x.0 x.1 w one) (λ comma rest split kind.
      weaken (h (x.0 ++ w.0 ∷ [], at w.1 rest) one.derived.stays) (more_attributes x.0 x.1 w comma rest split kind one))))

  -- what ends a line of attributes
  abbrev Ended : State → Option SignificantToken × State → Type 0
  Ended s x = Passed conditions (AttributesEnd conditions (option_map (comment_in token_leaves) x.0)) s x.1

  end_sound : (s : State) → Here conditions 0 s → Holds (Ended s) (reader.attributes_end s)
  unfolding r.attributes_end r.line_end_after
  end_sound s here =
      if_next kinds.Comment s _ (λ _. if_expected kinds.Eol s _ (λ newline rest split kind. holds (passed conditions here split (g.bare kind))))
      (λ c t1 split kind. if_expected kinds.Eol (at s t1) _ (λ newline rest split2 kind2.
      holds (passed conditions here (split ∙ ap (λ (ts : Tokens). c ∷ ts) split2) (g.commented kind kind2))))

  some_written : (xs : List ReadAttribute) → NotEmpty (written_in xs) → NotEmpty xs
  some_written [] some = some
  some_written (x ∷ xs) some = tt

  written_append : (xs ys : List ReadAttribute) → written_in (xs ++ ys) ≡ written_in xs ++ written_in ys
  written_append xs ys = map-append (λ (x : ReadAttribute). x.written) xs ys

  -- the attributes of a line, and those of the lines after it
  more_lines : (x : reader.AttributePlace) (opener : SignificantToken) (t1 : Tokens) (ws : reader.AttributePlace) (end : Option SignificantToken × State)
      → x.1.left ≡ opener ∷ t1 → IsKind kinds.BracketL opener
      → AreAttributes (Bracketed conditions) (x.0, at x.1 t1) ws → Ended ws.1 end → (y : reader.AttributePlace)
      → AreAttributes (AttributeLines conditions) (reader.commented_by end.0 ws.0, end.1) y → AreAttributes (AttributeLines conditions) x y
  more_lines x opener t1 ws end split kind h ended y k =
      let comment : Option (List ℕ) = option_map (comment_in token_leaves) end.0 in
      let line : List ReadAttribute = commented commented_both comment h.others in
      let written : List (WrittenAttribute Tok Tok) = commented_line comment (written_in h.others) in
      let some : NotEmpty h.others = some_written h.others (some_bracketed itself itself (BelowLimit conditions.limit) h.derived.derives) in
      let line_is : commented commented_both comment ws.0 ≡ x.0 ++ line =
      ap (commented commented_both comment) h.all_are ∙ commented_after commented_both comment x.0 h.others some in
      let written_is : written ≡ written_in line = sym (commented_map (λ (x : ReadAttribute). x.written) commented_both commented_attribute (λ c x. refl) comment h.others) in
      let entries_are : commented commented_entry comment (entries_in h.others) ≡ entries_in line =
      sym (commented_map entry_read commented_both commented_entry (λ c x. refl) comment h.others) in
      let line_made : AllMade (token_view conditions) (entries_in x.0) (written_in line) (entries_in line) =
      subst₂ (AllMade (token_view conditions) (entries_in x.0)) written_is entries_are (made_commented (token_view conditions) comment h.made) in
      let first = subst (λ ls. Derived conditions (Bracketed conditions (written_in h.others)) ls 0 (at x.1 t1) ws.1) (sym (commented_literals comment (written_in h.others))) h.derived in
      let after : Derived conditions (λ fs ts us. AttributesEnd conditions comment ts end.1.left × AttributeLines conditions (written_in k.others) fs end.1.left us)
      (written_literals (written_in k.others)) 0 ws.1 y.1 = followed (quiet conditions ended) k.derived (ended.derives, k.derived.derives) in
      let lines = begins split (followed first after (g.line kind first.derives after.derives.0 after.derives.1)) in
      let V : List (WrittenAttribute Tok Tok) → Type 0 = λ ws. Derived conditions (AttributeLines conditions ws) (written_literals ws) 0 x.1 y.1 in
      record {
        others = line ++ k.others;
        all_are = k.all_are ∙ ap (λ (l : List ReadAttribute). l ++ k.others) line_is ∙ append_assoc x.0 line k.others;
        derived = subst V (ap (λ l. l ++ written_in k.others) written_is ∙ sym (written_append line k.others))
            (subst (λ ls. Derived conditions (AttributeLines conditions (written ++ written_in k.others)) ls 0 x.1 y.1) (sym (flat_map-append _ written (written_in k.others))) lines);
        made = subst₂ (AllMade (token_view conditions) (entries_in x.0)) (sym (written_append line k.others)) (sym (map-append entry_read line k.others))
            (made_append (token_view conditions) line_made (subst (λ es. AllMade (token_view conditions) es (written_in k.others) (entries_in k.others))
            (ap entries_in line_is ∙ map-append entry_read x.0 line) k.made));
      }

  lines_sound : (x : reader.AttributePlace) → AllAttributes (AttributeLines conditions) x (reader.attribute_lines_from x)
  unfolding r.attribute_lines_from
  lines_sound =
      loop_has (λ x. x.1) (reader.attribute_lines_rule) (AllAttributes (AttributeLines conditions)) (λ x here. failed) (λ f h x here.
      if_next kinds.BracketL x.1 _
      (λ not. holds (record { others = []; all_are = sym (append-nil x.0); derived = plainly here (g.none not); made = none }))
      (λ opener t1 split kind. read_then (bracketed_sound (x.0, at x.1 t1) here) (λ ws found.
      read_then (end_sound ws.1 found.derived.stays) (λ end ended.
      weaken (h (reader.commented_by end.0 ws.0, end.1) ended.stays) (more_lines x opener t1 ws end split kind found ended)))))

  -- ---- the attributes before a construct

  -- the lines of attributes that were read: they derive, each has its meaning, and no rule is broken
  pub record IsRead (s : State) (x : List ReadAttribute × State) : Type 0 where
    pub derived : Derived conditions (AttributeLines conditions (written_in x.0)) (written_literals (written_in x.0)) 0 s x.1
    pub means : all_of (entry_of (token_view conditions)) (written_in x.0) ≡ Some (entries_in x.0)
    pub unbroken : attributes_broken (token_view conditions) (written_in x.0) ≡ []

  whole : (s : State) (x : reader.AttributePlace) → AreAttributes (AttributeLines conditions) ([], s) x → IsRead s x
  whole s x h =
      let P : List ReadAttribute → Type 0 = λ all. IsRead s (all, x.1) in
      subst P (sym h.all_are) (record {
        derived = h.derived;
        means = made_mean (token_view conditions) h.made;
        unbroken = none_broken (token_view conditions)
            h.made;
      })

  pub attributes_sound : (s : State) → Here conditions 0 s → Holds (IsRead s) (read_attributes s)
  unfolding r.attribute_lines
  attributes_sound s here = weaken (lines_sound ([], s) here) (whole s)
