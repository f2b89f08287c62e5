-- Refusals of justfiles.
use Rattle.std.proofs.Common.{ℕ, List, string_bytes}
use Rattle.justfile_canonical.specs.Fault.{IsFormatFaultOf}
use Rattle.justfile_canonical.specs.declared.fault.FormatFault.{FormatFault}
use Rattle.justfile_canonical.specs.declared.fault.FormatFault.TheVariants as faults
use Rattle.justfile_files.specs.Formatter.{IfRejected}
use Rattle.justfile_files.specs.declared.formatter.Refusal.{Refusal}
use Rattle.justfile_files.specs.declared.formatter.Refusal.TheVariants.{Exhausted, Rejected}
use Rattle.justfiles.specs.Justfile.{IsRefusalOf, IsRejected, rejected, unprintable}

pub refused : (name source : List ℕ) (fault : FormatFault) (refusal : Refusal) → IsFormatFaultOf name source fault → IsRefusalOf fault refusal
    → IfRejected (IsRejected name source) refusal
refused name source (faults.Rejected rejection) (Rejected told) f r = rejected (record { message = string_bytes rejection.lines; rejection = f.told; is = r })
refused name source faults.NotPrintable (Rejected told) f r = unprintable f r
refused name source faults.Memory (Rejected told) f r = absurd r
refused name source faults.Numbers (Rejected told) f r = absurd r
refused name source (faults.Rejected rejection) (Exhausted what) f r = tt
refused name source faults.NotPrintable (Exhausted what) f r = tt
refused name source faults.Memory (Exhausted what) f r = tt
refused name source faults.Numbers (Exhausted what) f r = tt
