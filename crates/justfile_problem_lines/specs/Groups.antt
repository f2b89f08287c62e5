-- Which files a module has: its first one, and those that this leads to by imports.
use Rattle.std.specs.Prelude.{◌&&◌, ℕ, zero, suc, Bool, not, List, [], ◌∷◌, ◌++◌, Option, None, Some, cond, is_some, nat_eq}
use Rattle.std.specs.List.{fold, list_any, slice_get}
use Rattle.justfile_problems.specs.declared.facts.Link.{Link}
use Rattle.justfile_problems.specs.declared.facts.Target.{Target}
use Rattle.justfile_problems.specs.declared.facts.Target.TheVariants as targets

-- the index of the file to which something leads
abbrev pub file_of : Target → Option ℕ
file_of (targets.File index) = Some index
file_of targets.Nothing = None
file_of targets.Unknown = None

-- that of the file that the one with an index imports
abbrev pub import_from : (from : ℕ) → Link → Option ℕ
import_from from l = cond (nat_eq l.from from && not (is_some l.submodule)) (file_of l.target) None

-- that of the first file of a module
abbrev pub first_of : Link → Option ℕ
first_of l = cond (is_some l.submodule) (file_of l.target) None

abbrev pub is_among : (indices : List ℕ) → (index : ℕ) → Bool
is_among indices index = list_any (λ (other : ℕ). nat_eq other index) indices

-- indices, with one more at their end unless there is none or it is among them
abbrev pub with_index : (indices : List ℕ) → Option ℕ → List ℕ
with_index indices None = indices
with_index indices (Some index) = cond (is_among indices index) indices (indices ++ index ∷ [])

module _ (links : List Link) where
  -- with those of the files that the one with an index imports, if there is one
  abbrev pub with_imports : (indices : List ℕ) → (from : Option ℕ) → List ℕ
  with_imports indices None = indices
  with_imports indices (Some from) = fold (λ (found : List ℕ) (l : Link). with_index found (import_from from l)) indices links

  -- A file, and those that it leads to by imports of so many files: of this one, of the one that was found next, and so on.
  abbrev pub group_after : (steps : ℕ) → (first : ℕ) → List ℕ
  group_after zero first = first ∷ []
  group_after (suc steps) first = with_imports (group_after steps first) (slice_get (group_after steps first) steps)

  -- the first files of all modules: the first of all, and those to which modules lead
  abbrev pub first_files : List ℕ
  first_files = fold (λ (found : List ℕ) (l : Link). with_index found (first_of l)) (0 ∷ []) links
