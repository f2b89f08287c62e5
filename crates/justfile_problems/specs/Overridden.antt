-- Recipes and assignments that later ones of the same name override.
use Rattle.std.specs.Prelude.{◌≡◌, ◌&&◌, ◌||◌, ℕ, Bool, true, false, List, [], ◌∷◌, nat_eq}
use Rattle.std.specs.List.{list_any}
use Rattle.std.specs.HashSet.{HashSet, contains_by}
use Rattle.std.specs.declared.hash.BuildHasherDefault.{BuildHasherDefault}
use Rattle.std.specs.declared.hash.FoldHasher.{FoldHasher}
use Rattle.justfile_vocabulary.specs.declared.item_kind.ItemKind.{ItemKind}
use Rattle.justfile_vocabulary.specs.declared.item_kind.ItemKind.TheVariants as kinds
use Rattle.justfile_token.specs.declared.name.Name.{Name}
use Rattle.justfile_problems.specs.declared.facts.Definition.{Definition}
use Rattle.justfile_problems.specs.declared.facts.Space.{Space}
use Rattle.justfile_problems.specs.declared.facts.Space.TheVariants as spaces
use Rattle.justfile_problems.specs.declared.key.Key.{Key}
use Rattle.justfile_problems.specs.declared.overridden.Overridden.{Overridden}
use Rattle.justfile_problems.specs.Names.{key, key_of, same}

abbrev pub offset_of : Name → ℕ
offset_of name = name.token.offset

abbrev pub is_recipe : ItemKind → Bool
is_recipe kinds.Recipe = true
is_recipe other = false

abbrev pub is_node_in : Space → ItemKind → Bool
is_node_in spaces.Commands kind = is_recipe kind
is_node_in spaces.Variables kind = true
is_node_in other kind = false

-- whether it is the definition of a recipe or of a variable
abbrev pub is_node : Definition → Bool
is_node d = is_node_in d.space d.kind

-- whether one of these is the definition of a recipe or of a variable with a key
abbrev pub has_node : List Definition → Key → Bool
has_node ds k = list_any (λ d. is_node d && same (key_of d) k) ds

-- whether one of two lists has such a definition
abbrev pub either_has : (later ds : List Definition) → Key → Bool
either_has later ds k = has_node later k || has_node ds k

-- Whether the name at an offset is that of one of these recipes and variables that is defined again: after it, or by those of other files that come later. The last definition counts.
abbrev pub is_overridden : (later : List Definition) → List Definition → (offset : ℕ) → Bool
is_overridden later [] offset = false
is_overridden later (d ∷ ds) offset = (nat_eq (offset_of d.name) offset && (is_node d && either_has later ds (key_of d))) || is_overridden later ds offset

-- ---- the sets

abbrev pub Keys : Type 0
Keys = HashSet Key (BuildHasherDefault FoldHasher)

abbrev pub Offsets : Type 0
Offsets = HashSet ℕ (BuildHasherDefault FoldHasher)

abbrev pub has_key : Keys → Key → Bool
has_key keys k = contains_by (same k) keys

abbrev pub has_offset : Offsets → (offset : ℕ) → Bool
has_offset offsets offset = contains_by (nat_eq offset) offsets

-- the keys of these recipes and variables
abbrev pub AreKeysOf : List Definition → Keys → Type 0
AreKeysOf ds keys = (space : Space) (scope : ℕ) (text : List ℕ) → has_key keys (key space scope text) ≡ has_node ds (key space scope text)

-- where those begin that later ones override
abbrev pub AreOverridden : (later : List Definition) → List Definition → Offsets → Type 0
AreOverridden later ds offsets = (offset : ℕ) → has_offset offsets offset ≡ is_overridden later ds offset

-- the key of a definition was added, if it is one of a recipe or a variable
abbrev pub AddsKey : Definition → (old new : Keys) → Type 0
AddsKey d old new =
    (space : Space) (scope : ℕ) (text : List ℕ) → has_key new (key space scope text) ≡ ((is_node d && same (key_of d) (key space scope text)) || has_key old (key space scope text))

-- the offset of a definition was added, if it is one of a recipe or a variable whose key is among those of other files or among later ones
abbrev pub AddsOffset : Definition → (others later : Keys) → (old new : Offsets) → Type 0
AddsOffset d others later old new =
    (offset : ℕ) → has_offset new offset ≡ ((nat_eq (offset_of d.name) offset && (is_node d && (has_key others (key_of d) || has_key later (key_of d)))) || has_offset old offset)

abbrev pub is_overridden_in : Overridden → (offset : ℕ) → Bool
is_overridden_in overridden offset = has_offset overridden.offsets offset
