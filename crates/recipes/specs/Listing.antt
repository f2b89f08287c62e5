-- The list of a file's recipes.
use Rattle.std.specs.Prelude.{ℕ, Bool, true, false, ◌&&◌, ◌==◌, not, length, List, [], ◌∷◌, ◌++◌, Option, None, Some, codes, if◌then◌else◌}
use Rattle.std.specs.List.{flat_map, list_any}
use Rattle.std.specs.Str.{bytes_eq}
use Rattle.justfile_syntax.specs.Symbols.{Shown}
use Rattle.justfile_syntax.specs.Tokens.{name_text}
use Rattle.justfile_syntax.specs.Words.{ItemKind}
use Rattle.justfile_syntax.specs.ItemKinds as kinds

abbrev pub is_recipe : ItemKind → Bool
is_recipe kinds.Recipe = true
is_recipe _ = false

-- whether lists show it: a recipe that is enabled on this system and not private
abbrev pub is_listed : Shown → Bool
is_listed s = is_recipe s.kind && (s.is_enabled && not s.is_private)

abbrev pub doc_end : Option (List ℕ) → List ℕ
doc_end None = []
doc_end (Some doc) = codes " # " ++ doc

-- the line of a recipe: its name, its parameters, and its doc after ` # `
abbrev pub line : Shown → List ℕ
line s = name_text s.name ++ s.parameters ++ doc_end s.doc ++ codes "\n"

abbrev pub line_if : Bool → Shown → List ℕ
line_if true s = line s
line_if false s = []

-- the line of a recipe in no group
abbrev pub ungrouped_line : Shown → List ℕ
ungrouped_line s = line_if (is_listed s && length s.groups == 0) s

-- the line of a recipe in this group
abbrev pub group_line : (name : List ℕ) → Shown → List ℕ
group_line name s = line_if (is_listed s && list_any (bytes_eq name) s.groups) s

-- the name of a group in brackets, and the lines of its recipes
abbrev pub group_text : List Shown → (name : List ℕ) → List ℕ
group_text shown name = codes "[" ++ name ++ codes "]\n" ++ flat_map (group_line name) shown

abbrev pub groups_if : Bool → Shown → List (List ℕ)
groups_if true s = s.groups
groups_if false s = []

-- the groups of a recipe that lists show
abbrev pub listed_groups : Shown → List (List ℕ)
listed_groups s = groups_if (is_listed s) s

abbrev pub name_if_new : Bool → List (List ℕ) → (name : List ℕ) → List (List ℕ)
name_if_new true names name = names
name_if_new false names name = names ++ name ∷ []

-- the names, and this one if it is new
abbrev pub with_name : List (List ℕ) → (name : List ℕ) → List (List ℕ)
with_name names name = name_if_new (list_any (bytes_eq name) names) names name

abbrev pub with_names : List (List ℕ) → (others : List (List ℕ)) → List (List ℕ)
with_names names [] = names
with_names names (name ∷ others) = with_names (with_name names name) others

-- the names of the groups, each once
abbrev pub group_names : List Shown → List (List ℕ)
group_names shown = with_names [] (flat_map listed_groups shown)

-- the recipes in no group, and then each group
abbrev pub listing : List Shown → List ℕ
listing shown = flat_map ungrouped_line shown ++ flat_map (group_text shown) (group_names shown)
