-- The attribute that is made of arguments is their meaning, and an error is a rule that is broken.
use Rattle.std.proofs.Common.{◌≡◌, ◌↔◌, ◌∙◌, ℕ, ◌<◌, List, [], ◌∷◌, ◌++◌, Bool, true, false, not, cond, ◌||◌, nat_lt, map, length, codes, Option, Some, None, Ok, Err, is_some, refl, sym, ap, subst, true≢false, arith}
use Rattle.std.specs.List.{All, Contains, filter, find, flat_map}
use Rattle.std.proofs.lemmas.Bool.{lt-ltb}
use Rattle.std.proofs.lemmas.List.{append-nil, append_assoc}
use Rattle.std.proofs.lemmas.List.Elements.{All-head, All-tail}
use Rattle.justfile_vocabulary.specs.declared.attribute_kind.AttributeKind.{AttributeKind}
use Rattle.justfile_vocabulary.specs.declared.attribute_kind.AttributeKind.TheVariants as kinds
use Rattle.justfile_vocabulary.specs.Signal.{signal_named}
use Rattle.justfile_model.specs.Meanings.AttributeKinds.{least_count, most_count, takes_expressions}
use Rattle.justfile_model.specs.Meanings.AttributeRules.{arg_broken, arguments_broken, count_broken, duplicate_broken, duplicate_rule, excludes, expression_broken, expressions_broken, has_more, is_known, kind_broken, least, missing_broken, of_some, signal_broken, signals_broken, unknown_broken}
use Rattle.justfile_model.specs.Meanings.Meaning as means
use Rattle.justfile_model.specs.Meanings.Meaning.{KeyArgument, PositionalArgument, all_of, at_key, attribute_of, of_given, of_literals, quoted, quoted_text, rules_of, signal_of, signal_set, text_of, texts_of, value_of}
use Rattle.justfile_model.specs.Readers.NewAttribute as new
use Rattle.justfile_model.specs.Readers.NewAttribute.{Made, check_count, check_keys, check_repeated, from_expressions, from_literals, if_given, make_all, new_attribute, new_entry, new_of_expressions, new_of_literals, new_rules, or_refuse, placed_literal, refuse, refuse_key, required, required_at, signal}
use Rattle.justfile_model.specs.Meanings.Rules.{Broken, InvalidSignal, UnknownAttributeKey}
use Rattle.justfile_model.specs.Trees.LeafView.{LeafView}
use Rattle.justfile_model.specs.Trees.Tree as tree
use Rattle.justfile_model.specs.Trees.Tree.{Attribute, Entry, Expr, Quoted, bare_entry}
use Rattle.justfile_model.specs.Meanings.ArgumentTexts.{HasText, HasTexts}
use Rattle.justfile_model.proofs.Meanings.NewArgumentLaws.{rules_as_meant, with_text}
use Rattle.justfile_model.proofs.Meanings.NewAttributeSteps.{Agrees, Fits, agreed, each, first_of_all, if_there, last_step, nothing_in, one_some, refused_first, step, step_check, then_is}

-- ---- by the count

-- no other number of arguments than one is right
abbrev IsCounted : ℕ → ℕ → Option ℕ → Type 0
IsCounted found least most = (nat_lt found least || has_more found most) ≡ false

too_many : (few : Bool) (most found : ℕ) → most < found → (few || nat_lt most found) ≡ false → ⊥
too_many true most found h e = true≢false e
too_many false most found h e = true≢false (sym (lt-ltb most found h) ∙ e)

module _ {A B : Type 0} (view : LeafView A B) (at : B) (T : Type 0) where
  module _ (keys : List (KeyArgument A B)) where
    -- the values of the arguments by position
    abbrev values : List (PositionalArgument A B) → List (Expr A B)
    values = map (λ (p : PositionalArgument A B). p.value)

    abbrev refused_key : KeyArgument A B → List (Broken B)
    refused_key k = record { rule = UnknownAttributeKey at (view.place k.key); token = view.place k.key } ∷ []

    key_as_meant : (o : Option (KeyArgument A B)) → Agrees T (refuse_key view at o) (Some tt) (of_some refused_key o)
    key_as_meant None = agreed tt (Some tt) [] refl refl
    key_as_meant (Some k) = refused_first _ _ (Some tt) []

    keys_as_meant : (kind : AttributeKind) → Agrees T (check_keys view at kind keys) (Some tt) (unknown_broken view at kind keys)
    keys_as_meant kind = key_as_meant (least (λ (k : KeyArgument A B). view.bytes k.key) (filter (λ k. not (is_known view at kind k)) keys))

    -- ---- attributes that take literals alone

    literals_as_meant : (placed : List (PositionalArgument A B))
        → Agrees T (make_all (placed_literal view at) placed) (all_of quoted (values placed)) (flat_map (expression_broken view at) placed)
    literals_as_meant placed = each quoted placed (λ p. one_some (quoted p.value) _ _)

    abbrev missing : List ℕ → List (Broken B)
    missing word = of_some (missing_broken view at) (at_key view word keys)

    required_as_meant : (word : List ℕ) → Agrees T (required_at view at word keys) (of_given (value_of view) (at_key view word keys)) (missing word)
    required_as_meant word = if_there (at_key view word keys) (λ k e. one_some k.value _ _)

    cache_as_meant : (placed : List (PositionalArgument A B)) (texts : List (Quoted A))
        → Agrees T (new_of_literals view at kinds.Cache texts keys) (of_literals view kinds.Cache texts keys) (kind_broken view at kinds.Cache placed keys)
    cache_as_meant placed texts =
        rw (append_assoc (missing (codes "extra")) (missing (codes "inputs")) (missing (codes "outputs")))
        (step (required_as_meant (codes "extra")) (λ extra e. step (required_as_meant (codes "inputs")) (λ inputs i.
        last_step (required_as_meant (codes "outputs")) (λ outputs o. then_is _ e (then_is _ i (then_is _ o refl))))))

    signal_as_meant : (q : Quoted A) → (T → is_some (quoted_text view q) ≡ true)
        → Agrees T (signal view at q) (signal_of view q) (of_some (signal_broken view at q) (quoted_text view q))
    signal_as_meant q h =
        with_text view at T q (λ s. or_refuse (signal_named s) (InvalidSignal s) (view.place q.token)) signal_named (signal_broken view at q) h
        (λ s. one_some (signal_named s) _ _)

    -- what is placed is these literals
    signals_as_meant : (placed : List (PositionalArgument A B)) (texts : List (Quoted A)) → all_of quoted (values placed) ≡ Some texts
        → (T → All (λ (p : PositionalArgument A B). HasText view p.value) placed)
        → Agrees T (make_all (signal view at) texts) (all_of (signal_of view) texts) (flat_map (signals_broken view at) placed)
    signals_as_meant [] texts e h =
        let same : [] ≡ texts = cc in
        subst (λ ts. Agrees T (make_all (signal view at) ts) (all_of (signal_of view) ts) []) same (agreed [] (Some []) [] refl refl)
    signals_as_meant (p ∷ ps) texts e h =
        let f = first_of_all quoted p.value (values ps) texts e in
        rw (f.all_are, f.first_is)
        (step (signal_as_meant f.first (λ t. All-head (λ (p : PositionalArgument A B). HasText view p.value) p ps (h t) f.first f.first_is)) (λ x is_x.
        last_step (signals_as_meant ps f.others f.others_are (λ t. All-tail (λ (p : PositionalArgument A B). HasText view p.value) p ps (h t)))
        (λ xs is_xs. then_is _ is_x (then_is _ is_xs refl))))

    arg_as_meant : (placed : List (PositionalArgument A B)) (texts : List (Quoted A)) → IsCounted (length placed) 1 (Some 1)
        → all_of quoted (values placed) ≡ Some texts → (T → HasTexts view placed keys)
        → Agrees T (new_of_literals view at kinds.Arg texts keys) (of_literals view kinds.Arg texts keys) (kind_broken view at kinds.Arg placed keys)
    arg_as_meant [] texts counted e h = absurd (true≢false counted)
    arg_as_meant (p ∷ q ∷ ps) texts counted e h =
        absurd (too_many (nat_lt (length (p ∷ q ∷ ps)) 1) 1 (length (p ∷ q ∷ ps)) (omega arith) counted)
    arg_as_meant (p ∷ []) texts counted e h =
        let f = first_of_all quoted p.value [] texts e in
        rw (f.all_are, f.first_is, append-nil (of_some (λ argument. arg_broken view at argument keys) (quoted_text view f.first)))
        (with_text view at T f.first (λ s. new.◌>>=◌ (new_rules view at s f.first keys) (λ rules. Ok (tree.Arg rules)))
        (λ s. means.◌>>=◌ (rules_of view (f.first ∷ f.others) keys) (λ rules. Some (tree.Arg rules))) (λ argument. arg_broken view at argument keys)
        (λ t. All-head (λ (p : PositionalArgument A B). HasText view p.value) p [] (h t).values f.first f.first_is)
        (λ s. last_step (rules_as_meant view at T s keys f.first f.others (λ t. (h t).given)) (λ rules is_rules. then_is _ is_rules refl)))

    continue_as_meant : (placed : List (PositionalArgument A B)) (texts : List (Quoted A)) → all_of quoted (values placed) ≡ Some texts → (T → HasTexts view placed keys)
        → Agrees T (new_of_literals view at kinds.Continue texts keys) (of_literals view kinds.Continue texts keys)
        (kind_broken view at kinds.Continue placed keys)
    continue_as_meant placed texts e h = last_step (signals_as_meant placed texts e (λ t. (h t).values)) (λ given is_given. then_is _ is_given refl)

    -- by the rules of the kind
    abbrev own_rules : AttributeKind → List (PositionalArgument A B) → List (Broken B)
    own_rules kind placed = kind_broken view at kind placed keys ++ unknown_broken view at kind keys

    of_literals_as_meant : (kind : AttributeKind) (placed : List (PositionalArgument A B))
        → ((texts : List (Quoted A)) → all_of quoted (values placed) ≡ Some texts
        → Agrees T (new_of_literals view at kind texts keys) (of_literals view kind texts keys) (kind_broken view at kind placed keys))
        → Agrees T (from_literals view at kind placed keys) (means.◌>>=◌ (all_of quoted (values placed)) (λ texts. of_literals view kind texts keys))
        (flat_map (expression_broken view at) placed ++ own_rules kind placed)
    of_literals_as_meant kind placed own =
        step (literals_as_meant placed) (λ texts is_texts. step (own texts is_texts) (λ attribute is_attribute.
        last_step (keys_as_meant kind) (λ known e. then_is _ is_texts is_attribute)))

    -- ---- attributes that take any expressions

    of_expressions_as_meant : (kind : AttributeKind) (placed : List (PositionalArgument A B)) (meaning : Option (Attribute A B))
        → meaning ≡ Some (new_of_expressions view at kind (values placed))
        → Agrees T (from_expressions view at kind placed keys) meaning (unknown_broken view at kind keys)
    of_expressions_as_meant kind placed meaning h = last_step (keys_as_meant kind) (λ known e. h)

    env_as_meant : (placed : List (PositionalArgument A B)) → IsCounted (length placed) 2 (Some 2)
        → Agrees T (from_expressions view at kinds.Env placed keys) (attribute_of view kinds.Env placed keys) (unknown_broken view at kinds.Env keys)
    env_as_meant (p ∷ q ∷ []) counted = of_expressions_as_meant kinds.Env (p ∷ q ∷ []) _ refl
    env_as_meant (p ∷ q ∷ r ∷ rs) counted = absurd (too_many (nat_lt (length (p ∷ q ∷ r ∷ rs)) 2) 2 (length (p ∷ q ∷ r ∷ rs)) (omega arith) counted)
    env_as_meant _ counted = absurd (true≢false counted)

    -- ---- any attribute

    abbrev after_counting : AttributeKind → List (PositionalArgument A B) → Made B (Attribute A B)
    after_counting kind placed = cond (takes_expressions kind) (from_expressions view at kind placed keys) (from_literals view at kind placed keys)

    after_count : (kind : AttributeKind) (placed : List (PositionalArgument A B)) → IsCounted (length placed) (least_count kind) (most_count kind)
        → (T → HasTexts view placed keys)
        → Agrees T (after_counting kind placed) (attribute_of view kind placed keys) (expressions_broken view at kind placed ++ own_rules kind placed)
    after_count kinds.Arg placed counted h = of_literals_as_meant kinds.Arg placed (λ texts e. arg_as_meant placed texts counted e h)
    after_count kinds.Cache placed counted h = of_literals_as_meant kinds.Cache placed (λ texts e. cache_as_meant placed texts)
    after_count kinds.Continue placed counted h = of_literals_as_meant kinds.Continue placed (λ texts e. continue_as_meant placed texts e h)
    after_count kinds.Env placed counted h = env_as_meant placed counted
    after_count kinds.Confirm placed counted h = of_expressions_as_meant kinds.Confirm placed _ refl
    after_count kinds.Doc placed counted h = of_expressions_as_meant kinds.Doc placed _ refl
    after_count kinds.Timestamp placed counted h = of_expressions_as_meant kinds.Timestamp placed _ refl
    after_count kinds.WorkingDirectory placed counted h = of_expressions_as_meant kinds.WorkingDirectory placed _ refl
    after_count kind placed counted h = of_literals_as_meant kind placed (λ texts e. agreed (texts_of view kind texts) _ _ refl refl)

    -- what is broken, from the right
    rules_are : (kind : AttributeKind) (placed : List (PositionalArgument A B))
        → count_broken view at kind (length placed) ++ (expressions_broken view at kind placed ++ own_rules kind placed)
        ≡ arguments_broken view at kind placed keys
    rules_are kind placed =
        let count = count_broken view at kind (length placed) in
        let expressions = expressions_broken view at kind placed in
        sym (append_assoc count expressions (own_rules kind placed))
        ∙ sym (append_assoc (count ++ expressions) (kind_broken view at kind placed keys) (unknown_broken view at kind keys))

    pub attribute_as_meant : (kind : AttributeKind) (placed : List (PositionalArgument A B)) → (T → HasTexts view placed keys)
        → Agrees T (new_attribute view at kind placed keys) (attribute_of view kind placed keys) (arguments_broken view at kind placed keys)
    unfolding new_attribute
    attribute_as_meant kind placed h =
        subst (Agrees T (new_attribute view at kind placed keys) (attribute_of view kind placed keys)) (rules_are kind placed)
        (step_check (nat_lt (length placed) (least_count kind) || has_more (length placed) (most_count kind)) _ _
        (λ counted. after_count kind placed counted h))

made_fits : {B X T : Type 0} {m : Made B X} {o : Option X} {l : List (Broken B)} {x : X} → Agrees T m o l → m ≡ Ok x → (o ≡ Some x) × (l ≡ [])
made_fits {T = T} {o = o} {l = l} h e = subst (λ m. Fits T m o l) e h.fits

refused_fits : {B X T : Type 0} {m : Made B X} {o : Option X} {l : List (Broken B)} {r : Broken B} → Agrees T m o l → m ≡ Err r → T → Contains l r
refused_fits {T = T} {o = o} {l = l} h e = subst (λ m. Fits T m o l) e h.fits

-- ---- an attribute

module _ {A B : Type 0} (view : LeafView A B) (at : B) (kind : AttributeKind) (placed : List (PositionalArgument A B)) (keys : List (KeyArgument A B)) where
  attribute_agrees : Agrees (HasTexts view placed keys) (new_attribute view at kind placed keys) (attribute_of view kind placed keys)
      (arguments_broken view at kind placed keys)
  attribute_agrees = attribute_as_meant view at (HasTexts view placed keys) keys kind placed (λ h. h)

  -- what is made is what is meant, and no rule is broken
  pub attribute_made : (a : Attribute A B) → new_attribute view at kind placed keys ≡ Ok a
      → (attribute_of view kind placed keys ≡ Some a) × (arguments_broken view at kind placed keys ≡ [])
  attribute_made a e = made_fits attribute_agrees e

  -- the error is a rule that is broken
  pub attribute_refused : (r : Broken B) → new_attribute view at kind placed keys ≡ Err r → HasTexts view placed keys
      → Contains (arguments_broken view at kind placed keys) r
  attribute_refused r e h = refused_fits attribute_agrees e h

  -- what breaks no rule is made
  pub record IsMade : Type 0 where
    pub attribute : Attribute A B
    pub made : new_attribute view at kind placed keys ≡ Ok attribute
    pub meant : attribute_of view kind placed keys ≡ Some attribute

  pub attribute_unbroken : arguments_broken view at kind placed keys ≡ [] → HasTexts view placed keys → IsMade
  attribute_unbroken none h = go (new_attribute view at kind placed keys) refl
    where
      go : (m : Made B (Attribute A B)) → new_attribute view at kind placed keys ≡ m → IsMade
      go (Ok a) e = record { attribute = a; made = e; meant = (attribute_made a e).0 }
      go (Err r) e = absurd (nothing_in r (subst (λ l. Contains l r) none (attribute_refused r e h)))

-- ---- an attribute after others

module _ {A B : Type 0} (view : LeafView A B) where
  abbrev duplicate_by : Entry A B → Entry A B → Broken B
  duplicate_by e first = record { rule = duplicate_rule view e.name e.attribute first.name; token = e.name }

  repeated_as_meant : (before : List (Entry A B)) (e : Entry A B)
      → Agrees (Unit {0}) (check_repeated view before e) (Some tt) (duplicate_broken view before e)
  repeated_as_meant [] e = agreed tt (Some tt) [] refl refl
  repeated_as_meant (d ∷ before) e = go (excludes view d.attribute e.attribute) (repeated_as_meant before e)
    where
      later : Option (Entry A B)
      later = find (λ (d : Entry A B). excludes view d.attribute e.attribute) before

      go : (b : Bool) → Agrees (Unit {0}) (check_repeated view before e) (Some tt) (of_some (λ first. duplicate_by e first ∷ []) later)
          → Agrees (Unit {0}) (cond b (refuse (duplicate_rule view e.name e.attribute d.name) e.name) (check_repeated view before e)) (Some tt)
          (of_some (λ first. duplicate_by e first ∷ []) (cond b (Some d) later))
      go true h = refused_first _ _ (Some tt) []
      go false h = h

  pub distinct_passes : (before : List (Entry A B)) (e : Entry A B) → (check_repeated view before e ≡ Ok tt) ↔ (duplicate_broken view before e ≡ [])
  distinct_passes before e = (λ m. (made_fits (repeated_as_meant before e) m).1, λ none. go (check_repeated view before e) refl none)
    where
      go : (m : Made B (Unit {0})) → check_repeated view before e ≡ m → duplicate_broken view before e ≡ [] → m ≡ Ok tt
      go (Ok x) h none = refl
      go (Err r) h none = absurd (nothing_in r (subst (λ l. Contains l r) none (refused_fits (repeated_as_meant before e) h tt)))

  pub repeated_refused : (before : List (Entry A B)) (e : Entry A B) (r : Broken B) → check_repeated view before e ≡ Err r
      → Contains (duplicate_broken view before e) r
  repeated_refused before e r h = refused_fits (repeated_as_meant before e) h tt

  module _ (before : List (Entry A B)) (name : B) (kind : AttributeKind) (placed : List (PositionalArgument A B)) (keys : List (KeyArgument A B)) where
    -- the entry is what is meant, at its name, and no rule is broken
    pub record IsMeant (e : Entry A B) : Type 0 where
      pub name_is : e.name ≡ name
      pub comment_is : e.comment ≡ None
      pub meant : attribute_of view kind placed keys ≡ Some e.attribute
      pub unbroken : arguments_broken view name kind placed keys ≡ []
      pub distinct : duplicate_broken view before e ≡ []

    -- the rule is broken by the attribute alone, or by those before it
    pub data Breaks (r : Broken B) : Type 0 where
      alone : Contains (arguments_broken view name kind placed keys) r → Breaks r
      repeated : (attribute : Attribute A B) → attribute_of view kind placed keys ≡ Some attribute
          → Contains (duplicate_broken view before (bare_entry name attribute)) r → Breaks r

    abbrev entry_at : Attribute A B → Entry A B
    entry_at a = bare_entry name a

    pub entry_made : (e : Entry A B) → new_entry view before name kind placed keys ≡ Ok e → IsMeant e
    entry_made e h = go (new_attribute view name kind placed keys) refl h
      where
        within : (a : Attribute A B) → new_attribute view name kind placed keys ≡ Ok a → (c : Made B (Unit {0})) → check_repeated view before (entry_at a) ≡ c
            → new.◌>>=◌ c (λ distinct. Ok (entry_at a)) ≡ Ok e → IsMeant e
        within a m (Err r) c k = cc
        within a m (Ok x) c k =
            let same : entry_at a ≡ e = cc in
            let made = attribute_made view name kind placed keys a m in
            subst IsMeant same (record { name_is = refl; comment_is = refl; meant = made.0; unbroken = made.1; distinct = (distinct_passes before (entry_at a)).0 c })

        go : (m : Made B (Attribute A B)) → new_attribute view name kind placed keys ≡ m
            → new.◌>>=◌ m (λ a. new.◌>>=◌ (check_repeated view before (entry_at a)) (λ distinct. Ok (entry_at a))) ≡ Ok e → IsMeant e
        go (Err r) m k = cc
        go (Ok a) m k = within a m (check_repeated view before (entry_at a)) refl k

    pub entry_refused : (r : Broken B) → HasTexts view placed keys → new_entry view before name kind placed keys ≡ Err r → Breaks r
    entry_refused r t h = go (new_attribute view name kind placed keys) refl h
      where
        within : (a : Attribute A B) → new_attribute view name kind placed keys ≡ Ok a → (c : Made B (Unit {0})) → check_repeated view before (entry_at a) ≡ c
            → new.◌>>=◌ c (λ distinct. Ok (entry_at a)) ≡ Err r → Breaks r
        within a m (Ok x) c k = cc
        within a m (Err q) c k =
            let same : q ≡ r = cc in
            repeated a (attribute_made view name kind placed keys a m).0 (repeated_refused before (entry_at a) r (c ∙ ap Err same))

        go : (m : Made B (Attribute A B)) → new_attribute view name kind placed keys ≡ m
            → new.◌>>=◌ m (λ a. new.◌>>=◌ (check_repeated view before (entry_at a)) (λ distinct. Ok (entry_at a))) ≡ Err r → Breaks r
        go (Err q) m k = let same : q ≡ r = cc in alone (attribute_refused view name kind placed keys r (m ∙ ap Err same) t)
        go (Ok a) m k = within a m (check_repeated view before (entry_at a)) refl k
