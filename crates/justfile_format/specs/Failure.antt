-- Why nothing was formatted: exit statuses, and the lines for standard error.
use Rattle.std.specs.Prelude.{ℕ, List, codes, string_bytes}
use Rattle.justfile_canonical.specs.declared.fault.FormatFault.{FormatFault}
use Rattle.justfile_canonical.specs.declared.fault.FormatFault.TheVariants as faults
use Rattle.justfile_format.specs.declared.failure.Failure.{Failure}
use Rattle.justfile_format.specs.declared.failure.Failure.TheVariants.{Usage, Reading, NotUtf8, Rejected, NotPrintable, Writing, Memory, Numbers}

-- 2 if the text is rejected or can't be printed; each other failure has the status 3
abbrev pub status_of : Failure → ℕ
status_of (Rejected lines) = 2
status_of NotPrintable = 2
status_of Usage = 3
status_of Reading = 3
status_of NotUtf8 = 3
status_of Writing = 3
status_of Memory = 3
status_of Numbers = 3

abbrev pub failure_text : Failure → List ℕ
failure_text Usage = codes "usage: justfmt [--check]\n"
failure_text Reading = codes "error: reading failed\n"
failure_text NotUtf8 = codes "error: input is not UTF-8\n"
failure_text (Rejected lines) = string_bytes lines
failure_text NotPrintable = codes "error: a body line ends in a carriage return\n"
failure_text Writing = codes "error: writing failed\n"
failure_text Memory = codes "error: out of memory\n"
failure_text Numbers = codes "error: out of numbers\n"

-- the failure for a fault of formatting
abbrev pub failure_of : FormatFault → Failure
failure_of (faults.Rejected rejection) = Rejected rejection.lines
failure_of faults.NotPrintable = NotPrintable
failure_of faults.Memory = Memory
failure_of faults.Numbers = Numbers

-- If the failure is that of a text that isn't a justfile, `Holds` applies to its lines.
abbrev pub IfRejected : (List ℕ → Type 0) → Failure → Type 0
IfRejected Holds (Rejected lines) = Holds (string_bytes lines)
IfRejected Holds _ = Unit {0}

-- The failure is one of reading the input.
abbrev pub IsOfReading : Failure → Type 0
IsOfReading Reading = Unit {0}
IsOfReading Memory = Unit {0}
IsOfReading _ = ⊥

-- The failure is one of formatting a text.
abbrev pub IsOfText : Failure → Type 0
IsOfText (Rejected lines) = Unit {0}
IsOfText NotPrintable = Unit {0}
IsOfText Memory = Unit {0}
IsOfText Numbers = Unit {0}
IsOfText _ = ⊥

-- The failure is one of writing the canonical text of a file.
abbrev pub IsOfFile : Failure → Type 0
IsOfFile NotPrintable = Unit {0}
IsOfFile Writing = Unit {0}
IsOfFile Memory = Unit {0}
IsOfFile _ = ⊥

-- The failure is one of formatting a text or of writing the result.
abbrev pub IsOfTextOrWriting : Failure → Type 0
IsOfTextOrWriting Writing = Unit {0}
IsOfTextOrWriting failure = IsOfText failure
