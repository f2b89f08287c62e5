-- Why a justfile can't be formatted.
use Rattle.std.specs.Prelude.{◌≡◌, ℕ, List, ◌++◌, codes, string_bytes}
use Rattle.justfile_canonical.specs.Formatting.{IsRejection, IsUnprintable}
use Rattle.justfile_canonical.specs.declared.fault.FormatFault.{FormatFault}
use Rattle.justfile_canonical.specs.declared.fault.FormatFault.TheVariants as faults
use Rattle.justfile_files.specs.declared.formatter.Refusal.{Refusal}
use Rattle.justfile_files.specs.declared.formatter.Refusal.TheVariants.{Exhausted, Rejected}
use Rattle.justfile_files.specs.Visible.{visible_lines}

-- The lines tell of a carriage return at the end of a body line.
pub record TellsReturn (lines : List ℕ) : Type 0 where
  pub excerpt : List ℕ
  pub is : lines ≡ codes "error: a body line ends in a carriage return\n" ++ visible_lines excerpt

-- The lines are those that tell why the text is no justfile, as they are shown.
pub record TellsRejection (name source lines : List ℕ) : Type 0 where
  pub message : List ℕ
  pub rejection : IsRejection name source message
  pub is : lines ≡ visible_lines message

-- The text isn't a justfile, or a line of a body ends in a carriage return; and the lines tell that of the file with this name.
pub data IsRejected (name source lines : List ℕ) : Type 0 where
  rejected : TellsRejection name source lines → IsRejected name source lines
  unprintable : IsUnprintable source → TellsReturn lines → IsRejected name source lines

-- The refusal shows the lines, or memory ran out.
abbrev pub IsShownRefusal : (lines : List ℕ) → Refusal → Type 0
IsShownRefusal lines (Rejected told) = string_bytes told ≡ visible_lines lines
IsShownRefusal lines (Exhausted what) = Unit {0}

-- The refusal tells the fault, or memory ran out.
abbrev pub IsRefusalOf : FormatFault → Refusal → Type 0
IsRefusalOf (faults.Rejected rejection) (Rejected told) = string_bytes told ≡ visible_lines (string_bytes rejection.lines)
IsRefusalOf faults.NotPrintable (Rejected told) = TellsReturn (string_bytes told)
IsRefusalOf faults.Memory (Rejected told) = ⊥
IsRefusalOf faults.Numbers (Rejected told) = ⊥
IsRefusalOf fault (Exhausted what) = Unit {0}
