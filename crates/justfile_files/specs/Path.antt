-- The paths of files that other files name.
use Rattle.std.specs.Prelude.{ℕ, ◌-◌, ◌==◌, ◌&&◌, ◌||◌, Bool, not, List, [], ◌∷◌, ◌++◌, codes, length, map, slice_index, take, if◌then◌else◌}
use Rattle.std.specs.List.{fold, join_by, slice_split}
use Rattle.std.specs.Path.{slash}
use Rattle.std.specs.Str.{bytes_eq}
use denote.Ref.{Bor}

-- whether a path is seen from the top
abbrev pub is_absolute : (path : List ℕ) → Bool
is_absolute path = slice_index path 0 == slash

-- the beginning of a path: what it begins with, and the names after that
pub record Plain : Type 0 where
  pub front : List ℕ
  pub names : List (List ℕ)

abbrev pub shown : List (Bor (List ℕ)) → List (List ℕ)
shown names = map (λ (n : Bor (List ℕ)). n.now) names

abbrev pub plain : (front : List ℕ) → (names : List (Bor (List ℕ))) → Plain
plain front names = record { front = front; names = shown names }

module _ (absolute : Bool) where
  -- a path that leads to the folder above: without its last name, or with `../` in front if it has none, but for a path from the top
  abbrev pub up : Plain → Plain
  up p = record { front = if length p.names == 0 && not absolute then p.front ++ codes "../" else p.front; names = take (length p.names - 1) p.names }

  -- a path with one more part, which says nothing if it is empty or `.`
  abbrev pub with_part : Plain → (part : List ℕ) → Plain
  with_part p part =
      if length part == 0 || bytes_eq part (codes ".") then p
      else if bytes_eq part (codes "..") then up p
      else record { front = p.front; names = p.names ++ part ∷ [] }

abbrev pub begun : (absolute : Bool) → Plain
begun absolute = record { front = if absolute then codes "/" else []; names = [] }

abbrev pub parts_of : (path : List ℕ) → List (List ℕ)
parts_of path = slice_split (λ b. b == slash) path

abbrev pub text_of : Plain → List ℕ
text_of p = p.front ++ join_by (λ n. n) (codes "/") p.names

-- a path of these parts, without what says nothing in it
abbrev pub plain_of : (absolute : Bool) → (parts : List (List ℕ)) → List ℕ
plain_of absolute parts = text_of (fold (with_part absolute) (begun absolute) parts)

abbrev pub plain_path : (path : List ℕ) → List ℕ
plain_path path = plain_of (is_absolute path) (parts_of path)

-- a path that is seen from the folder in which the file at another path is
abbrev pub seen_from : (path named : List ℕ) → List ℕ
seen_from path named = if is_absolute named then named else path ++ codes "/../" ++ named

abbrev pub path_beside : (path named : List ℕ) → List ℕ
path_beside path named = plain_path (seen_from path named)
