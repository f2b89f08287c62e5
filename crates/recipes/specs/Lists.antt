-- What the program makes of a justfile.
use Rattle.std.specs.Prelude.{◌≡◌, ℕ, List, Option, codes}
use Rattle.std.specs.Io.KnownBytes.{Appends}
use Rattle.justfile_syntax.specs.Errors.{Fault}
use Rattle.justfile_syntax.specs.Roots.{HasNoRoot}
use Rattle.justfile_syntax.specs.Symbols.{HasSymbols, Shown}
use Rattle.justfile_token.specs.declared.fault.Fault.TheVariants as faults
use Rattle.system_run.specs.Beginning.{AppendsBeginning}
use Rattle.recipes.specs.Listing.{listing}

-- The text is a justfile, and the list is that of its recipes.
pub record HasListing (source list : List ℕ) : Type 0 where
  pub symbols : List Shown
  pub has : HasSymbols (codes "justfile") source symbols
  pub is : list ≡ listing symbols

abbrev pub IsCompileError : Fault → Type 0
IsCompileError (faults.Compile error) = Unit {0}
IsCompileError faults.Memory = ⊥
IsCompileError faults.Numbers = ⊥

-- If the fault is a compile error, it tells why the text isn't a justfile.
abbrev pub IsRejection : (source : List ℕ) → Fault → Type 0
IsRejection source fault = IsCompileError fault → HasNoRoot (codes "justfile") source fault

-- The text isn't a justfile.
pub record IsRejected (source : List ℕ) : Type 0 where
  pub fault : Fault
  pub is_error : IsCompileError fault
  pub has_no_root : HasNoRoot (codes "justfile") source fault

-- The list of the recipes was written after what had been written before.
pub record Lists (source : List ℕ) (old new : Option (List ℕ)) : Type 0 where
  pub list : List ℕ
  pub has : HasListing source list
  pub written : Appends old new list

-- A beginning of the list, or all of it, was written after what had been written before.
pub record ListsBeginning (source : List ℕ) (old new : Option (List ℕ)) : Type 0 where
  pub list : List ℕ
  pub has : HasListing source list
  pub written : AppendsBeginning old new list
