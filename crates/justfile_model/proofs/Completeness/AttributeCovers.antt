-- Which broken rules of attributes the parser has covered, as it goes along arguments and attributes; and where arguments begin.
use Rattle.std.proofs.Common.{◌≡◌, ℕ, Bool, true, false, cond, List, [], ◌∷◌, ◌++◌, map, Contains, Option, Some, None, is_some, refl, sym, ap, subst, ◌∙◌, append_assoc, append-nil, arith}
use Rattle.std.specs.List.{flat_map}
use Rattle.std.proofs.lemmas.Grind.{flat_map-append}
use Rattle.justfile_vocabulary.specs.declared.token_kind.TokenKind.TheVariants as kinds
use Rattle.justfile_model.specs.Grammars.AttributeLines as lines
use Rattle.justfile_model.specs.Meanings.AttributeRules.{attribute_broken, duplicate_broken, duplicates_broken, of_some, order_broken, repeats_broken}
use Rattle.justfile_model.specs.Grammars.Expressions.{Tokens, NotNext}
use Rattle.justfile_model.specs.Grammars.Features.{Noted}
use Rattle.justfile_model.specs.Meanings.Meaning.{KeyArgument, all_of, at_key, by_key, entry_of}
use Rattle.justfile_model.specs.Meanings.ReadAttribute.{ReadAttribute, commented_both, entry_read}
use Rattle.justfile_model.specs.Meanings.Rules.{AttributePositionalFollowsKeyword, Broken, DuplicateAttributeKey}
use Rattle.justfile_model.specs.Trees.LeafView.{LeafView}
use Rattle.justfile_model.specs.Lexing.SignificantTokens.{SignificantToken}
use Rattle.justfile_model.specs.Lexing.Tok.{Tok}
use Rattle.justfile_model.specs.Trees.Tree as tree
use Rattle.justfile_model.specs.Trees.Tree.{Argument, Entry, Expr, WrittenAttribute, at_last, commented, commented_attribute, commented_line}
use Rattle.justfile_model.proofs.Derivations.Beginnings.{expression_starts}
use Rattle.justfile_model.proofs.Completeness.AttributeSteps.{key_last}
use Rattle.justfile_model.proofs.Printed.Commented.{means_commented}
use Rattle.justfile_model.proofs.Completeness.ReachingRules.{Among, among_first, among_others}
use Rattle.justfile_model.proofs.Readers.TokenAttributes as reader

-- ---- no argument begins with a closing parenthesis

module _ {A B : Type 0} (leaf : Tok → A) (position : Tok → B) (MayEnter : ℕ → Option SignificantToken → Type 0) where
  pub argument_starts : {keys : Bool} {a : Argument A B} {fs : List (Noted B)} {ts rest : Tokens} → lines.ArgumentOf leaf position MayEnter keys a fs ts rest
      → NotNext kinds.ParenR ts
  argument_starts (lines.positional not e) = (expression_starts leaf position MayEnter e).no_closer
  argument_starts (lines.bare {key = key} {rest = rest} is not) = named rest is
    where
      named : (rest : Tokens) → lines.IsKey (key ∷ rest) → key.tok.kind ≡ kinds.ParenR → ⊥
      named [] is e = cc
      named (t ∷ rest) is e = let k = is.0 in cc
  argument_starts (lines.keyed kind kind2 e) = λ e. cc

-- ---- rules of arguments after others

contains_one : {X : Type 0} (b : Bool) (x : X) → b ≡ true → Contains (cond b (x ∷ []) []) x
contains_one true x e = (0, omega arith, refl)
contains_one false x e = cc

module _ (view : LeafView Tok Tok) (name : Tok) where
  -- what these arguments break by their order and their keys, after these keys, is among the rules
  pub record Covers (before : List (KeyArgument Tok Tok)) (all : List (Argument Tok Tok)) (rules : List (Broken Tok)) : Type 0 where
    pub orders : Among (order_broken view name (reader.some_key before) all) rules
    pub repeats : Among (repeats_broken view name before (by_key all)) rules

  pub covers_order : (before : List (KeyArgument Tok Tok)) (first : Tok) (value : Expr Tok Tok) (others : List (Argument Tok Tok)) {rules : List (Broken Tok)}
      → Covers before (tree.Positional first value ∷ others) rules
      → reader.some_key before ≡ true → Contains rules (record { rule = AttributePositionalFollowsKeyword; token = first })
  covers_order before first value others h some =
      (among_first _ (order_broken view name (reader.some_key before) others) h.orders).carries _ (contains_one (reader.some_key before) _ some)

  repeat_found : (before : List (KeyArgument Tok Tok)) (key : KeyArgument Tok Tok) (keys : List (KeyArgument Tok Tok)) {rules : List (Broken Tok)}
      → Among (repeats_broken view name before (key ∷ keys)) rules
      → is_some (at_key view (view.bytes key.key) before) ≡ true
      → Contains rules (record { rule = DuplicateAttributeKey name (view.place key.key); token = view.place key.key })
  repeat_found before key keys h repeated =
      (among_first _ (repeats_broken view name (before ++ key ∷ []) keys) h).carries _
      (contains_one (is_some (at_key view (view.bytes key.key) before)) _ repeated)

  pub covers_repeat : (before : List (KeyArgument Tok Tok)) (key : Tok) (value : Option (Expr Tok Tok)) (others : List (Argument Tok Tok))
      {rules : List (Broken Tok)} → Covers before (reader.argument_of_key key value ∷ others) rules
      → is_some (at_key view (view.bytes key) before) ≡ true
      → Contains rules (record { rule = DuplicateAttributeKey name (view.place key); token = view.place key })
  covers_repeat before key None others h = repeat_found before (record { key = key; value = None }) (by_key others) h.repeats
  covers_repeat before key (Some value) others h = repeat_found before (record { key = key; value = Some value }) (by_key others) h.repeats

  after_key : (before : List (KeyArgument Tok Tok)) (key : KeyArgument Tok Tok) (others : List (Argument Tok Tok)) {rules : List (Broken Tok)}
      → Among (order_broken view name true others) rules
      → Among (repeats_broken view name before (key ∷ by_key others)) rules → Covers (before ++ key ∷ []) others rules
  after_key before key others {rules = rules} h k = record {
    orders = subst (λ b. Among (order_broken view name b others) rules) (sym (key_last before key)) h;
    repeats = among_others (cond (is_some (at_key view (view.bytes key.key) before))
        (record { rule = DuplicateAttributeKey name (view.place key.key); token = view.place key.key } ∷ []) []) _ k;
  }

  -- what is left after an argument
  pub covers_others : (before : List (KeyArgument Tok Tok)) (a : Argument Tok Tok) (others : List (Argument Tok Tok)) {rules : List (Broken Tok)}
      → Covers before (a ∷ others) rules → Covers (before ++ by_key (a ∷ [])) others rules
  covers_others before (tree.Positional first value) others {rules = rules} h =
      subst (λ ks. Covers ks others rules) (sym (append-nil before)) (record {
        orders = among_others (cond (reader.some_key before) (record { rule = AttributePositionalFollowsKeyword; token = first } ∷ []) []) _ h.orders;
        repeats = h.repeats;
      })
  covers_others before (tree.Bare key) others h = after_key before (record { key = key; value = None }) others h.orders h.repeats
  covers_others before (tree.Keyed key value) others h = after_key before (record { key = key; value = Some value }) others h.orders h.repeats

-- ---- attributes that were read

module _ (view : LeafView Tok Tok) where
  -- the attribute that was read is this one as it is written, with what it means
  pub record IsReading (w : WrittenAttribute Tok Tok) (x : ReadAttribute) : Type 0 where
    pub written_is : x.written ≡ w
    pub means : entry_of view w ≡ Some x.entry

  pub data AreReadings : List (WrittenAttribute Tok Tok) → List ReadAttribute → Type 0 where
    none : AreReadings [] []
    more : {w : WrittenAttribute Tok Tok} {x : ReadAttribute} {ws : List (WrittenAttribute Tok Tok)} {xs : List ReadAttribute} → IsReading w x
        → AreReadings ws xs → AreReadings (w ∷ ws) (x ∷ xs)

  pub readings_append : {ws vs : List (WrittenAttribute Tok Tok)} {xs ys : List ReadAttribute} → AreReadings ws xs → AreReadings vs ys
      → AreReadings (ws ++ vs) (xs ++ ys)
  readings_append none k = k
  readings_append (more is h) k = more is (readings_append h k)

  reading_commented : (c : List ℕ) {w : WrittenAttribute Tok Tok} {x : ReadAttribute} → IsReading w x → IsReading (commented_attribute c w) (commented_both c x)
  reading_commented c {w} {x} h = record { written_is = ap (commented_attribute c) h.written_is; means = means_commented view c w x.entry h.means }

  last_commented : (c : List ℕ) {ws : List (WrittenAttribute Tok Tok)} {xs : List ReadAttribute} → AreReadings ws xs
      → AreReadings (at_last (commented_attribute c) ws) (at_last (commented_both c) xs)
  last_commented c none = none
  last_commented c (more is none) = more (reading_commented c is) none
  last_commented c (more is (more is2 h)) = more is (last_commented c (more is2 h))

  -- with a comment at the last one
  pub readings_commented : (comment : Option (List ℕ)) {ws : List (WrittenAttribute Tok Tok)} {xs : List ReadAttribute} → AreReadings ws xs
      → AreReadings (commented_line comment ws) (commented commented_both comment xs)
  readings_commented None h = h
  readings_commented (Some c) h = last_commented c h

  -- as they are written
  pub readings_written : {ws : List (WrittenAttribute Tok Tok)} {xs : List ReadAttribute} → AreReadings ws xs → map (λ (x : ReadAttribute). x.written) xs ≡ ws
  readings_written none = refl
  readings_written (more is h) = rw (is.written_is, readings_written h) refl

  -- and what they mean
  pub readings_mean : {ws : List (WrittenAttribute Tok Tok)} {xs : List ReadAttribute} → AreReadings ws xs
      → all_of (entry_of view) ws ≡ Some (map entry_read xs)
  readings_mean none = refl
  readings_mean (more is h) = rw (is.means, readings_mean h) refl

  -- ---- rules of attributes after others

  -- the entry of an attribute that has a meaning
  abbrev entry_given : WrittenAttribute Tok Tok → List (Entry Tok Tok)
  entry_given w = of_some (λ e. e ∷ []) (entry_of view w)

  abbrev entries_given : List (WrittenAttribute Tok Tok) → List (Entry Tok Tok)
  entries_given = flat_map entry_given

  given_of_readings : {ws : List (WrittenAttribute Tok Tok)} {xs : List ReadAttribute} → AreReadings ws xs → entries_given ws ≡ map entry_read xs
  given_of_readings none = refl
  given_of_readings (more is h) = rw (is.means, given_of_readings h) refl

  duplicates_append : (before : List (Entry Tok Tok)) (ws vs : List (WrittenAttribute Tok Tok))
      → duplicates_broken view before (ws ++ vs) ≡ duplicates_broken view before ws ++ duplicates_broken view (before ++ entries_given ws) vs
  duplicates_append before [] vs = ap (λ es. duplicates_broken view es vs) (sym (append-nil before))
  duplicates_append before (w ∷ ws) vs =
      let first = of_some (duplicate_broken view before) (entry_of view w) in
      let between = before ++ entry_given w in
      ap (λ l. first ++ l) (duplicates_append between ws vs
      ∙ ap (λ es. duplicates_broken view between ws ++ duplicates_broken view es vs) (append_assoc before (entry_given w) (entries_given ws)))
      ∙ sym (append_assoc first (duplicates_broken view between ws) (duplicates_broken view (before ++ (entry_given w ++ entries_given ws)) vs))

  -- what these attributes break, after those with these entries, is among the rules
  pub record CoversAll (before : List (Entry Tok Tok)) (ws : List (WrittenAttribute Tok Tok)) (rules : List (Broken Tok)) : Type 0 where
    pub each : Among (flat_map (attribute_broken view) ws) rules
    pub repeats : Among (duplicates_broken view before ws) rules

  module _ (before : List (Entry Tok Tok)) (w : WrittenAttribute Tok Tok) (ws : List (WrittenAttribute Tok Tok)) {rules : List (Broken Tok)}
      (h : CoversAll before (w ∷ ws) rules) where
    -- an attribute alone
    pub covers_one : Among (attribute_broken view w) rules
    covers_one = among_first (attribute_broken view w) (flat_map (attribute_broken view) ws) h.each

    repeats_as : (o : Option (Entry Tok Tok)) → entry_of view w ≡ o
        → Among (of_some (duplicate_broken view before) o ++ duplicates_broken view (before ++ of_some (λ e. e ∷ []) o) ws) rules
    repeats_as o means =
        subst (λ o. Among (of_some (duplicate_broken view before) o ++ duplicates_broken view (before ++ of_some (λ e. e ∷ []) o) ws) rules) means h.repeats

    -- by those before it
    pub covers_duplicate : (e : Entry Tok Tok) → entry_of view w ≡ Some e → Among (duplicate_broken view before e) rules
    covers_duplicate e means = among_first (duplicate_broken view before e) (duplicates_broken view (before ++ e ∷ []) ws) (repeats_as (Some e) means)

    -- those after it
    pub covers_after : (e : Entry Tok Tok) → entry_of view w ≡ Some e → CoversAll (before ++ e ∷ []) ws rules
    covers_after e means = record {
      each = among_others (attribute_broken view w) (flat_map (attribute_broken view) ws) h.each;
      repeats = among_others (duplicate_broken view before e) (duplicates_broken view (before ++ e ∷ []) ws) (repeats_as (Some e) means);
    }

  module _ (before : List (Entry Tok Tok)) (ws vs : List (WrittenAttribute Tok Tok)) {rules : List (Broken Tok)} (h : CoversAll before (ws ++ vs) rules) where
    both_each : Among (flat_map (attribute_broken view) ws ++ flat_map (attribute_broken view) vs) rules
    both_each = subst (λ l. Among l rules) (flat_map-append (attribute_broken view) ws vs) h.each

    both_repeat : Among (duplicates_broken view before ws ++ duplicates_broken view (before ++ entries_given ws) vs) rules
    both_repeat = subst (λ l. Among l rules) (duplicates_append before ws vs) h.repeats

    -- those of a line
    pub covers_line : CoversAll before ws rules
    covers_line = record {
      each = among_first (flat_map (attribute_broken view) ws) (flat_map (attribute_broken view) vs) both_each;
      repeats = among_first (duplicates_broken view before ws) (duplicates_broken view (before ++ entries_given ws) vs) both_repeat;
    }

    -- those of the lines after it
    pub covers_lines : (xs : List ReadAttribute) → AreReadings ws xs → CoversAll (before ++ map entry_read xs) vs rules
    covers_lines xs read = subst (λ es. CoversAll (before ++ es) vs rules) (given_of_readings read) (record {
      each = among_others (flat_map (attribute_broken view) ws) (flat_map (attribute_broken view) vs) both_each;
      repeats = among_others (duplicates_broken view before ws) (duplicates_broken view (before ++ entries_given ws) vs) both_repeat;
    })
