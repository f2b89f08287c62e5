-- How the rules of attributes extend as the parser adds arguments and attributes to the earlier ones.
use Rattle.std.proofs.Common.{◌≡◌, ℕ, Bool, true, false, not, cond, List, [], ◌∷◌, ◌++◌, Option, Some, None, is_some, refl, sym, ap, subst, append_assoc, append-nil, codes}
use Rattle.std.specs.List.{flat_map}
use Rattle.std.proofs.lemmas.Bool.{and_parts}
use Rattle.justfile_vocabulary.specs.declared.token_kind.TokenKind.TheVariants as kinds
use Rattle.justfile_model.specs.Grammars.AttributeLines.{IsKey}
use Rattle.justfile_model.specs.Meanings.AttributeRules.{attribute_broken, attributes_broken, duplicate_broken, duplicates_broken, order_broken, repeats_broken}
use Rattle.justfile_model.specs.Grammars.Expressions.{Tokens}
use Rattle.justfile_model.specs.Meanings.Meaning.{KeyArgument, all_of, at_key, by_key, entry_of}
use Rattle.justfile_model.specs.Readers.ReaderState.{accept_marked, next_are}
use Rattle.justfile_model.specs.Trees.LeafView.{LeafView}
use Rattle.justfile_model.specs.Trees.Tree as tree
use Rattle.justfile_model.specs.Trees.Tree.{Argument, Entry, WrittenAttribute, at_last, commented, commented_attribute, commented_entry, commented_line}
use Rattle.justfile_model.specs.Readers.TreeReader.{State, Taken, token_leaves}
use Rattle.justfile_model.proofs.Printed.Commented.{means_commented}
use Rattle.justfile_model.proofs.Readers.Steps.{AreNext, NoMark, after_marked, are_next, marked_left, next_taken}
use Rattle.justfile_model.proofs.Readers.TokenAttributes as reader

-- ---- a key comes next

abbrev Marks : State → Taken
Marks s = accept_marked token_leaves (codes "x") kinds.StringToken s

unmarked : (s : State) → not (is_some (Marks s)) ≡ true → NoMark (codes "x") kinds.StringToken s.left
unmarked s =
    after_marked (codes "x") kinds.StringToken s (λ o. not (is_some o) ≡ true → NoMark (codes "x") kinds.StringToken s.left) (λ h e. h)
    (λ m t rest split is e. cc)

key_parts : (ts : Tokens) → AreNext (kinds.Identifier ∷ []) ts → NoMark (codes "x") kinds.StringToken ts → IsKey ts
key_parts [] h k = h
key_parts (t ∷ []) h k = h.0
key_parts (t ∷ u ∷ ts) h k = (h.0, k)

key_name : (ts : Tokens) → IsKey ts → AreNext (kinds.Identifier ∷ []) ts
key_name [] h = h
key_name (t ∷ []) h = (h, tt)
key_name (t ∷ u ∷ ts) h = (h.0, tt)

key_mark : (ts : Tokens) → IsKey ts → NoMark (codes "x") kinds.StringToken ts
key_mark [] h = tt
key_mark (t ∷ []) h = tt
key_mark (t ∷ u ∷ ts) h = h.1

pub key_is_next : (s : State) → reader.begins_key s ≡ true → IsKey s.left
key_is_next s e =
    let parts = and_parts (next_are token_leaves (kinds.Identifier ∷ []) s) (not (is_some (Marks s))) e in
    key_parts s.left (are_next (kinds.Identifier ∷ []) s parts.0) (unmarked s parts.1)

pub key_taken : (s : State) → IsKey s.left → reader.begins_key s ≡ true
key_taken s h =
    rw (next_taken (kinds.Identifier ∷ []) s (key_name s.left h), marked_left (codes "x") kinds.StringToken s.left s.run s.depth s.noted (key_mark s.left h))
    refl

pub key_left : (s : State) → (IsKey s.left → ⊥) → reader.begins_key s ≡ false
key_left s h = go (reader.begins_key s) (λ e. h (key_is_next s e))
  where
    go : (b : Bool) → (b ≡ true → ⊥) → b ≡ false
    go true k = absurd (k refl)
    go false k = refl

-- ---- arguments after others

pub keys_append : {A B : Type 0} (xs ys : List (Argument A B)) → by_key (xs ++ ys) ≡ by_key xs ++ by_key ys
keys_append [] ys = refl
keys_append (tree.Positional first value ∷ xs) ys = keys_append xs ys
keys_append (tree.Bare key ∷ xs) ys = ap (λ ks. record { key = key; value = None } ∷ ks) (keys_append xs ys)
keys_append (tree.Keyed key value ∷ xs) ys = ap (λ ks. record { key = key; value = Some value } ∷ ks) (keys_append xs ys)

pub key_last : {X : Type 0} (ks : List X) (k : X) → reader.some_key (ks ++ k ∷ []) ≡ true
key_last [] k = refl
key_last (l ∷ ks) k = refl

both_empty : {X : Type 0} (b : Bool) (x : X) (xs : List X) → b ≡ false → xs ≡ [] → (cond b (x ∷ []) []) ++ xs ≡ []
both_empty true x xs e h = cc
both_empty false x xs e h = h

module _ {A B : Type 0} (view : LeafView A B) (at : B) where
  abbrev pub IsNew : (before : List (KeyArgument A B)) → A → Type 0
  IsNew before key = is_some (at_key view (view.bytes key) before) ≡ false

  -- an argument that can follow these keys
  abbrev pub Follows : (before : List (KeyArgument A B)) → Argument A B → Type 0
  Follows before (tree.Positional first value) = reader.some_key before ≡ false
  Follows before (tree.Bare key) = IsNew before key
  Follows before (tree.Keyed key value) = IsNew before key

  -- arguments that can follow these keys
  pub record Follow (before : List (KeyArgument A B)) (all : List (Argument A B)) : Type 0 where
    pub in_order : order_broken view at (reader.some_key before) all ≡ []
    pub distinct : repeats_broken view at before (by_key all) ≡ []

  pub none_follow : (before : List (KeyArgument A B)) → Follow before []
  none_follow before = record { in_order = refl; distinct = refl }

  key_follows : (before : List (KeyArgument A B)) (key : KeyArgument A B) (all : List (Argument A B)) → IsNew before key.key → Follow (before ++ key ∷ []) all
      → (order_broken view at true all ≡ []) × (repeats_broken view at before (key ∷ by_key all) ≡ [])
  key_follows before key all new h = (
    subst (λ b. order_broken view at b all ≡ []) (key_last before key) h.in_order,
    both_empty (is_some (at_key view (view.bytes key.key) before)) _ (repeats_broken view at (before ++ key ∷ []) (by_key all)) new h.distinct,
  )

  -- an argument before others
  pub one_follows : (before : List (KeyArgument A B)) (a : Argument A B) (all : List (Argument A B)) → Follows before a → Follow (before ++ by_key (a ∷ [])) all
      → Follow before (a ∷ all)
  one_follows before (tree.Positional first value) all follows h =
      let k : Follow before all = subst (λ ks. Follow ks all) (append-nil before) h in
      record { in_order = both_empty (reader.some_key before) _ (order_broken view at (reader.some_key before) all) follows k.in_order; distinct = k.distinct }
  one_follows before (tree.Bare key) all follows h =
      let k = key_follows before (record { key = key; value = None }) all follows h in
      record { in_order = k.0; distinct = k.1 }
  one_follows before (tree.Keyed key value) all follows h =
      let k = key_follows before (record { key = key; value = Some value }) all follows h in
      record { in_order = k.0; distinct = k.1 }

-- ---- attributes after others

module _ {A B : Type 0} (view : LeafView A B) where
  -- attributes that break no rule after those before them, and what they mean
  pub data AllMade : (before : List (Entry A B)) → List (WrittenAttribute A B) → List (Entry A B) → Type 0 where
    none : {before : List (Entry A B)} → AllMade before [] []
    more : {before : List (Entry A B)} {w : WrittenAttribute A B} {ws : List (WrittenAttribute A B)} {e : Entry A B} {es : List (Entry A B)}
        → entry_of view w ≡ Some e → attribute_broken view w ≡ []
        → duplicate_broken view before e ≡ [] → AllMade (before ++ e ∷ []) ws es → AllMade before (w ∷ ws) (e ∷ es)

  pub made_append : {before : List (Entry A B)} {ws vs : List (WrittenAttribute A B)} {es ds : List (Entry A B)} → AllMade before ws es
      → AllMade (before ++ es) vs ds → AllMade before (ws ++ vs) (es ++ ds)
  made_append {vs = vs} {ds = ds} (none {before = before}) k = subst (λ es. AllMade es vs ds) (append-nil before) k
  made_append {vs = vs} {ds = ds} (more {before = before} {e = e} {es = es} means unbroken distinct h) k =
      more means unbroken distinct (made_append h (subst (λ l. AllMade l vs ds) (sym (append_assoc before (e ∷ []) es)) k))

  last_made : (c : List ℕ) {before : List (Entry A B)} {ws : List (WrittenAttribute A B)} {es : List (Entry A B)} → AllMade before ws es
      → AllMade before (at_last (commented_attribute c) ws) (at_last (commented_entry c) es)
  last_made c none = none
  last_made c (more {w = w} {e = e} means unbroken distinct none) = more (means_commented view c w e means) unbroken distinct none
  last_made c (more means unbroken distinct (more means2 unbroken2 distinct2 h)) =
      more means unbroken distinct (last_made c (more means2 unbroken2 distinct2 h))

  -- with a comment at the last one
  pub made_commented : (comment : Option (List ℕ)) {before : List (Entry A B)} {ws : List (WrittenAttribute A B)} {es : List (Entry A B)} → AllMade before ws es
      → AllMade before (commented_line comment ws) (commented commented_entry comment es)
  made_commented None h = h
  made_commented (Some c) h = last_made c h

  pub made_mean : {before : List (Entry A B)} {ws : List (WrittenAttribute A B)} {es : List (Entry A B)} → AllMade before ws es
      → all_of (entry_of view) ws ≡ Some es
  made_mean none = refl
  made_mean (more means unbroken distinct h) = rw (means, made_mean h) refl

  made_unbroken : {before : List (Entry A B)} {ws : List (WrittenAttribute A B)} {es : List (Entry A B)} → AllMade before ws es
      → flat_map (attribute_broken view) ws ≡ []
  made_unbroken none = refl
  made_unbroken (more means unbroken distinct h) = rw (unbroken, made_unbroken h) refl

  made_distinct : {before : List (Entry A B)} {ws : List (WrittenAttribute A B)} {es : List (Entry A B)} → AllMade before ws es
      → duplicates_broken view before ws ≡ []
  made_distinct none = refl
  made_distinct (more means unbroken distinct h) = rw (means, distinct, made_distinct h) refl

  pub none_broken : {ws : List (WrittenAttribute A B)} {es : List (Entry A B)} → AllMade [] ws es → attributes_broken view ws ≡ []
  none_broken h = rw (made_unbroken h, made_distinct h) refl
