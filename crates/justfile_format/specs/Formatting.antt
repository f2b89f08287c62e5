-- What the program makes of a justfile.
use Rattle.std.specs.Prelude.{◌≢◌, ℕ, List, Option, codes}
use Rattle.std.specs.Io.KnownBytes.{Appends}
use Rattle.justfile_canonical.specs.Formatting as canonical
use Rattle.justfile_ast.specs.declared.ast.Ast.{Ast}
pub use Rattle.justfile_canonical.specs.Formatting.{HasNone, IsFormatted, IsPrinted, IsUnprintable, LacksNumbers}
use Rattle.system_run.specs.Beginning.{AppendsBeginning}

-- The text isn't a justfile, and the lines tell which error is the cause. The path is always this one.
abbrev pub IsRejection : (source lines : List ℕ) → Type 0
IsRejection source lines = canonical.IsRejection (codes "justfile") source lines

-- The canonical text was written after what had been written before.
pub record Formats (source : List ℕ) (old new : Option (List ℕ)) : Type 0 where
  pub canonical : List ℕ
  pub formatted : IsFormatted source canonical
  pub written : Appends old new canonical

-- The canonical text of the file was written after what had been written before.
pub record WritesFile (ast : Ast) (old new : Option (List ℕ)) : Type 0 where
  pub canonical : List ℕ
  pub printed : IsPrinted ast canonical
  pub written : Appends old new canonical

-- The text is a justfile, but not its own canonical text.
pub record Differs (source : List ℕ) : Type 0 where
  pub canonical : List ℕ
  pub formatted : IsFormatted source canonical
  pub differs : canonical ≢ source

-- The text has a canonical text, and the beginning of it or all of it was written after what had been written before.
pub record FormatsBeginning (source : List ℕ) (old new : Option (List ℕ)) : Type 0 where
  pub canonical : List ℕ
  pub formatted : IsFormatted source canonical
  pub written : AppendsBeginning old new canonical

-- The beginning of the canonical text of the file or all of it was written after what had been written before.
pub record WritesFileBeginning (ast : Ast) (old new : Option (List ℕ)) : Type 0 where
  pub canonical : List ℕ
  pub printed : IsPrinted ast canonical
  pub written : AppendsBeginning old new canonical
