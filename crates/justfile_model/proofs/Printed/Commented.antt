-- What stays the same when the last element of a list gets a comment.
use Rattle.std.proofs.Common.{◌≡◌, ℕ, List, [], ◌∷◌, ◌++◌, map, Option, Some, None, refl, ap}
use Rattle.std.specs.List.{flat_map}
use Rattle.std.specs.Option.{option_map}
use Rattle.justfile_vocabulary.specs.AttributeKind.{kind_named}
use Rattle.justfile_vocabulary.specs.declared.attribute_kind.AttributeKind.{AttributeKind}
use Rattle.justfile_model.specs.Grammars.AttributeLines as g
use Rattle.justfile_model.specs.Grammars.AttributeLines.{Bracketed}
use Rattle.justfile_model.specs.Meanings.AttributeRules.{attribute_broken, duplicate_broken, duplicates_broken, of_some}
use Rattle.justfile_model.specs.Grammars.Expressions.{Tokens}
use Rattle.justfile_model.specs.Grammars.Features.{Noted}
use Rattle.justfile_model.specs.Grammars.Grammar.{NotEmpty}
use Rattle.justfile_model.specs.Grammars.Files.{argument_literals, written_literals}
use Rattle.justfile_model.specs.Meanings.Meaning as meaning
use Rattle.justfile_model.specs.Meanings.Meaning.{attribute_of, by_key, by_position, entry_of}
use Rattle.justfile_model.specs.Trees.LeafView.{LeafView}
use Rattle.justfile_model.specs.Lexing.SignificantTokens.{SignificantToken}
use Rattle.justfile_model.specs.Lexing.Tok.{Tok}
use Rattle.justfile_model.specs.Trees.Tree.{Attribute, Entry, WrittenAttribute, at_last, commented, commented_attribute, commented_entry, commented_line}

-- ---- of any elements

last_after : {X : Type 0} (f : X → X) (xs ys : List X) → NotEmpty ys → at_last f (xs ++ ys) ≡ xs ++ at_last f ys
last_after f [] ys some = refl
last_after f (x ∷ []) [] some = absurd some
last_after f (x ∷ []) (y ∷ ys) some = refl
last_after f (x ∷ z ∷ xs) ys some = ap (λ l. x ∷ l) (last_after f (z ∷ xs) ys some)

-- after others
pub commented_after : {X : Type 0} (put : List ℕ → X → X) (comment : Option (List ℕ)) (xs ys : List X) → NotEmpty ys
    → commented put comment (xs ++ ys) ≡ xs ++ commented put comment ys
commented_after put None xs ys some = refl
commented_after put (Some c) xs ys some = last_after (put c) xs ys some

last_map : {X Y : Type 0} (f : X → Y) (g : X → X) (h : Y → Y) → ((x : X) → f (g x) ≡ h (f x)) → (xs : List X) → map f (at_last g xs) ≡ at_last h (map f xs)
last_map f g h same [] = refl
last_map f g h same (x ∷ []) = ap (λ y. y ∷ []) (same x)
last_map f g h same (x ∷ y ∷ xs) = ap (λ l. f x ∷ l) (last_map f g h same (y ∷ xs))

-- what is made of each
pub commented_map : {X Y : Type 0} (f : X → Y) (put : List ℕ → X → X) (onto : List ℕ → Y → Y) → ((c : List ℕ) (x : X) → f (put c x) ≡ onto c (f x))
    → (comment : Option (List ℕ)) (xs : List X) → map f (commented put comment xs) ≡ commented onto comment (map f xs)
commented_map f put onto same None xs = refl
commented_map f put onto same (Some c) xs = last_map f (put c) (onto c) (same c) xs

last_flat : {X Y : Type 0} (f : X → List Y) (g : X → X) → ((x : X) → f (g x) ≡ f x) → (xs : List X) → flat_map f (at_last g xs) ≡ flat_map f xs
last_flat f g same [] = refl
last_flat f g same (x ∷ []) = ap (λ l. l ++ []) (same x)
last_flat f g same (x ∷ y ∷ xs) = ap (λ l. f x ++ l) (last_flat f g same (y ∷ xs))

-- what looks at no comment
pub commented_flat_map : {X Y : Type 0} (f : X → List Y) (put : List ℕ → X → X) → ((c : List ℕ) (x : X) → f (put c x) ≡ f x)
    → (comment : Option (List ℕ)) (xs : List X) → flat_map f (commented put comment xs) ≡ flat_map f xs
commented_flat_map f put same None xs = refl
commented_flat_map f put same (Some c) xs = last_flat f (put c) (same c) xs

-- ---- of attributes

module _ {A B : Type 0} where
  pub commented_literals : (comment : Option (List ℕ)) (ws : List (WrittenAttribute A B)) → written_literals (commented_line comment ws) ≡ written_literals ws
  commented_literals comment ws = commented_flat_map (λ w. flat_map argument_literals w.arguments) commented_attribute (λ c w. refl) comment ws

  module _ (view : LeafView A B) where
    -- it means the same, with its comment
    pub commented_means : (c : List ℕ) (w : WrittenAttribute A B) → entry_of view (commented_attribute c w) ≡ option_map (commented_entry c) (entry_of view w)
    commented_means c w = by_kind (kind_named (view.bytes w.name))
      where
        meant : AttributeKind → Option (List ℕ) → Option (Entry A B)
        meant kind comment =
            meaning.◌>>=◌ (attribute_of view kind (by_position w.arguments) (by_key w.arguments))
            (λ a. Some (record { name = view.place w.name; attribute = a; comment = comment }))

        by_attribute : (o : Option (Attribute A B))
            → meaning.◌>>=◌ o (λ a. Some (record { name = view.place w.name; attribute = a; comment = Some c }))
            ≡ option_map (commented_entry c) (meaning.◌>>=◌ o (λ a. Some (record { name = view.place w.name; attribute = a; comment = w.comment })))
        by_attribute None = refl
        by_attribute (Some a) = refl

        by_kind : (o : Option AttributeKind) → meaning.◌>>=◌ o (λ k. meant k (Some c)) ≡ option_map (commented_entry c) (meaning.◌>>=◌ o (λ k. meant k w.comment))
        by_kind None = refl
        by_kind (Some k) = by_attribute (attribute_of view k (by_position w.arguments) (by_key w.arguments))

    pub means_commented : (c : List ℕ) (w : WrittenAttribute A B) (e : Entry A B) → entry_of view w ≡ Some e
        → entry_of view (commented_attribute c w) ≡ Some (commented_entry c e)
    means_commented c w e means = rw (commented_means c w, means) refl

    -- it breaks the same rules
    pub commented_broken : (comment : Option (List ℕ)) (ws : List (WrittenAttribute A B))
        → flat_map (attribute_broken view) (commented_line comment ws) ≡ flat_map (attribute_broken view) ws
    commented_broken comment ws = commented_flat_map (attribute_broken view) commented_attribute (λ c w. refl) comment ws

    last_repeats : (c : List ℕ) (before : List (Entry A B)) (ws : List (WrittenAttribute A B))
        → duplicates_broken view before (at_last (commented_attribute c) ws) ≡ duplicates_broken view before ws
    last_repeats c before [] = refl
    last_repeats c before (w ∷ []) = rw (commented_means c w) (go (entry_of view w))
      where
        go : (o : Option (Entry A B))
            → of_some (duplicate_broken view before) (option_map (commented_entry c) o) ++ [] ≡ of_some (duplicate_broken view before) o ++ []
        go None = refl
        go (Some e) = refl
    last_repeats c before (w ∷ v ∷ ws) =
        ap (λ l. of_some (duplicate_broken view before) (entry_of view w) ++ l) (last_repeats c (before ++ of_some (λ e. e ∷ []) (entry_of view w)) (v ∷ ws))

    pub commented_repeats : (comment : Option (List ℕ)) (before : List (Entry A B)) (ws : List (WrittenAttribute A B))
        → duplicates_broken view before (commented_line comment ws) ≡ duplicates_broken view before ws
    commented_repeats None before ws = refl
    commented_repeats (Some c) before ws = last_repeats c before ws

-- brackets have an attribute
pub some_bracketed : {A B : Type 0} (leaf : Tok → A) (position : Tok → B) (MayEnter : ℕ → Option SignificantToken → Type 0) {ws : List (WrittenAttribute A B)}
    {fs : List (Noted B)} {ts rest : Tokens} → Bracketed leaf position MayEnter ws fs ts rest → NotEmpty ws
some_bracketed leaf position MayEnter (g.last w kind) = tt
some_bracketed leaf position MayEnter (g.more w kind others) = tt
