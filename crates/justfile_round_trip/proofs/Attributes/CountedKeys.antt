-- A count over the values of distinct known keys is the same as a count over a table of the known keys.
use Rattle.std.proofs.Common.{◌≡◌, ℕ, ◌+◌, Bool, true, false, cond, not, List, [], ◌∷◌, ◌++◌, Option, Some, None, is_some, refl, sym, ap, ◌∙◌, append-nil, append_assoc, arith, true≢false}
use Rattle.std.specs.List.{filter, find, list_any}
use Rattle.std.specs.Str.{bytes_eq}
use Rattle.std.proofs.lemmas.Bool.{or_parts}
use Rattle.std.proofs.lemmas.Slice.Eq.{bytes_eq-Decides}
use Rattle.justfile_vocabulary.specs.declared.attribute_kind.AttributeKind.{AttributeKind}
use Rattle.justfile_vocabulary.specs.declared.attribute_kind.AttributeKind.TheVariants as kinds
use Rattle.justfile_model.specs.Meanings.AttributeKinds.{known_keys}
use Rattle.justfile_model.specs.Meanings.AttributeRules.{of_some, least, repeats_broken, is_known, unknown_broken}
use Rattle.justfile_model.specs.LiteralTexts.Literals.{Expansions}
use Rattle.justfile_model.specs.Meanings.Meaning.{KeyArgument, at_key}
use Rattle.justfile_model.specs.Meanings.Rules.{Broken}
use Rattle.justfile_model.specs.Trees.LeafView.{LeafView, views_lexemes}
use Rattle.justfile_model.proofs.Lists.Binds.{never_nil, nothing_in}
use Rattle.justfile_round_trip.proofs.Canon.{Value}

-- a key of a shape
abbrev pub KeyOf : Type 0
KeyOf = KeyArgument (List ℕ) (Unit {0})

-- ---- lists

find_after : {X : Type 0} (p : X → Bool) (xs : List X) (x : X) → find p xs ≡ None → find p (xs ++ x ∷ []) ≡ cond (p x) (Some x) None
find_after p [] x h = refl
find_after p (y ∷ ys) x h = grind (arith, find_after p ys x)

find_before : {X : Type 0} (p : X → Bool) (xs : List X) (x : X) → p x ≡ false → find p (xs ++ x ∷ []) ≡ find p xs
find_before p [] x h = ap (λ b. cond b (Some x) None) h
find_before p (y ∷ ys) x h = ap (λ o. cond (p y) (Some y) o) (find_before p ys x h)

nothing_found : {X : Type 0} (o : Option X) → is_some o ≡ false → o ≡ None
nothing_found None h = refl
nothing_found (Some x) h = absurd (true≢false h)

pub unless : {T : Type 0} (b : Bool) (x : T) → cond b (x ∷ []) [] ≡ [] → b ≡ false
unless b x e = grind arith

-- ---- words

-- how much a key of this name gives to the words
abbrev spread : (key : List ℕ) → List (List ℕ) → ℕ → ℕ
spread key [] n = 0
spread key (word ∷ words) n = cond (bytes_eq key word) n 0 + spread key words n

-- no word occurs twice
abbrev AllApart : List (List ℕ) → Type 0
AllApart [] = Unit {0}
AllApart (word ∷ words) = (list_any (bytes_eq word) words ≡ false) × AllApart words

spread_none : (key : List ℕ) (words : List (List ℕ)) (n : ℕ) → list_any (bytes_eq key) words ≡ false → spread key words n ≡ 0
spread_none key [] n h = refl
spread_none key (word ∷ words) n h =
    let p = or_parts (bytes_eq key word) (list_any (bytes_eq key) words) h in
    λ i. cond (p.0 i) n 0 + spread_none key words n p.1 i

spread_once : (key : List ℕ) (words : List (List ℕ)) (n : ℕ) → AllApart words → list_any (bytes_eq key) words ≡ true → spread key words n ≡ n
spread_once key [] n apart h = cc
spread_once key (word ∷ words) n apart h =
    let none : bytes_eq key word ≡ true → spread key words n ≡ 0 = λ e. spread_none key words n (ap (λ x. list_any (bytes_eq x) words) ((bytes_eq-Decides key word).0 e) ∙ apart.0) in
    grind (arith, none, spread_once key words n apart.1)

apart_words : (kind : AttributeKind) → AllApart (known_keys kind)
apart_words kinds.Arg = (refl, (refl, (refl, (refl, (refl, (refl, (refl, (refl, (refl, tt)))))))))
apart_words kinds.Cache = (refl, (refl, (refl, tt)))
apart_words _ = tt

-- ---- keys

after_none : (all none n : ℕ) → all ≡ n → none ≡ 0 → all ≡ none + n
after_none all none n a b = omega (arith, a, b)

module _ (weight : Value → ℕ) where
  abbrev pub optional_weight : Option Value → ℕ
  optional_weight None = 0
  optional_weight (Some e) = weight e

  abbrev pub keys_weight : List KeyOf → ℕ
  keys_weight [] = 0
  keys_weight (k ∷ keys) = optional_weight k.value + keys_weight keys

  module _ (expander : Expansions) where
    abbrev view : LeafView (List ℕ) (Unit {0})
    view = views_lexemes expander

    abbrev pub found_weight : Option KeyOf → ℕ
    found_weight None = 0
    found_weight (Some k) = optional_weight k.value

    abbrev at_weight : List ℕ → List KeyOf → ℕ
    at_weight word keys = found_weight (at_key view word keys)

    abbrev pub table_weight : List (List ℕ) → List KeyOf → ℕ
    table_weight [] keys = 0
    table_weight (word ∷ words) keys = at_weight word keys + table_weight words keys

    -- one more key, whose name none before it has
    pushed : (word : List ℕ) (before : List KeyOf) (k : KeyOf) → at_key view k.key before ≡ None
        → at_weight word (before ++ k ∷ []) ≡ at_weight word before + cond (bytes_eq k.key word) (optional_weight k.value) 0
    pushed word before k h = by (bytes_eq k.key word) refl
      where
        by : (b : Bool) → bytes_eq k.key word ≡ b → at_weight word (before ++ k ∷ []) ≡ at_weight word before + cond b (optional_weight k.value) 0
        by true e =
            let none : at_key view word before ≡ None = ap (λ w. at_key view w before) (sym ((bytes_eq-Decides k.key word).0 e)) ∙ h in
            after_none _ _ _ (ap found_weight (find_after (λ (x : KeyOf). bytes_eq x.key word) before k none ∙ ap (λ b. cond b (Some k) None) e))
            (ap found_weight none)
        by false e =
            let same = ap found_weight (find_before (λ (x : KeyOf). bytes_eq x.key word) before k e) in
            omega (arith, same)

    table_pushed : (words : List (List ℕ)) (before : List KeyOf) (k : KeyOf) → at_key view k.key before ≡ None
        → table_weight words (before ++ k ∷ []) ≡ table_weight words before + spread k.key words (optional_weight k.value)
    table_pushed [] before k h = refl
    table_pushed (word ∷ words) before k h =
        let first = pushed word before k h in
        let others = table_pushed words before k h in
        omega (arith, first, others)

    -- each key is one of the words
    abbrev AllKnown : List (List ℕ) → List KeyOf → Type 0
    AllKnown words [] = Unit {0}
    AllKnown words (k ∷ keys) = (list_any (bytes_eq k.key) words ≡ true) × AllKnown words keys

    none_unknown : (kind : AttributeKind) (keys : List KeyOf) → filter (λ k. not (is_known view tt kind k)) keys ≡ [] → AllKnown (known_keys kind) keys
    none_unknown kind [] h = tt
    none_unknown kind (k ∷ keys) h = (grind arith, none_unknown kind keys (grind arith))

    least_none : (keys : List KeyOf) (f : KeyOf → List (Broken (Unit {0}))) → ((k : KeyOf) → f k ≡ [] → ⊥)
        → of_some f (least (λ (k : KeyOf). k.key) keys) ≡ [] → keys ≡ []
    least_none [] f some h = refl
    least_none (k ∷ keys) f some h = absurd (some _ h)

    all_known : (kind : AttributeKind) (keys : List KeyOf) → unknown_broken view tt kind keys ≡ [] → AllKnown (known_keys kind) keys
    all_known kind keys h = none_unknown kind keys (least_none _ _ (λ k e. never_nil _ [] e) h)

    -- distinct known keys give the values that are found at the words
    table_from : (words : List (List ℕ)) (before keys : List KeyOf) → AllApart words → repeats_broken view tt before keys ≡ [] → AllKnown words keys
        → table_weight words (before ++ keys) ≡ table_weight words before + keys_weight keys
    table_from words before [] apart h known = let e = ap (table_weight words) (append-nil before) in omega (arith, e)
    table_from words before (k ∷ keys) apart h known =
        let n = nothing_in _ (repeats_broken view tt (before ++ k ∷ []) keys) h in
        let none = nothing_found (at_key view k.key before) (unless _ _ n.0) in
        let first = table_pushed words before k none in
        let once = spread_once k.key words (optional_weight k.value) apart known.0 in
        let others = table_from words (before ++ k ∷ []) keys apart n.1 known.1 in
        let e = ap (table_weight words) (sym (append_assoc before (k ∷ []) keys)) in
        omega (arith, e, first, once, others)

    table_none : (words : List (List ℕ)) → table_weight words [] ≡ 0
    table_none [] = refl
    table_none (word ∷ words) = let h = table_none words in omega (arith, h)

    pub keys_found : (kind : AttributeKind) (keys : List KeyOf) → repeats_broken view tt [] keys ≡ [] → unknown_broken view tt kind keys ≡ []
        → keys_weight keys ≡ table_weight (known_keys kind) keys
    keys_found kind keys h u =
        let all = table_from (known_keys kind) [] keys (apart_words kind) h (all_known kind keys u) in
        let none = table_none (known_keys kind) in
        omega (arith, all, none)
