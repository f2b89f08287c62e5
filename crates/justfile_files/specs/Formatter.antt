-- Why no formatted text was returned.
use Rattle.std.specs.Prelude.{ℕ, List, string_bytes}
use Rattle.justfile_files.specs.declared.formatter.Refusal.{Refusal}
use Rattle.justfile_files.specs.declared.formatter.Refusal.TheVariants.{Exhausted, Rejected}

-- If the text was rejected, `Holds` applies to the lines that tell why.
abbrev pub IfRejected : (List ℕ → Type 0) → Refusal → Type 0
IfRejected Holds (Rejected lines) = Holds (string_bytes lines)
IfRejected Holds (Exhausted what) = Unit {0}

abbrev pub IsExhausted : Refusal → Type 0
IsExhausted (Rejected lines) = ⊥
IsExhausted (Exhausted what) = Unit {0}
