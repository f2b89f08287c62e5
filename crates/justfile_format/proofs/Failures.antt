-- What the failure for a fault of formatting implies.
use Rattle.std.proofs.Common.{◌≡◌, ℕ, List, codes}
use Rattle.justfile_canonical.specs.Fault.{IsFormatFaultOf}
use Rattle.justfile_canonical.specs.Formatting.{IsUnprintable, LacksNumbers}
use Rattle.justfile_canonical.specs.declared.fault.FormatFault.{FormatFault}
use Rattle.justfile_canonical.specs.declared.fault.FormatFault.TheVariants as faults
use Rattle.justfile_format.specs.Failure.{IfRejected, IsOfText, IsOfTextOrWriting, failure_of}
use Rattle.justfile_format.specs.Formatting.{IsRejection}
use Rattle.justfile_format.specs.declared.failure.Failure.{Failure}
use Rattle.justfile_format.specs.declared.failure.Failure.TheVariants as failures

pub rejected : (source : List ℕ) (fault : FormatFault) → IsFormatFaultOf (codes "justfile") source fault → IfRejected (IsRejection source) (failure_of fault)
rejected source (faults.Rejected rejection) why = why.told
rejected source faults.NotPrintable why = tt
rejected source faults.Memory why = tt
rejected source faults.Numbers why = tt

pub unprintable : (source : List ℕ) (fault : FormatFault) → IsFormatFaultOf (codes "justfile") source fault → failure_of fault ≡ failures.NotPrintable → IsUnprintable source
unprintable source (faults.Rejected rejection) why is = absurd (cc)
unprintable source faults.NotPrintable why is = why
unprintable source faults.Memory why is = absurd (cc)
unprintable source faults.Numbers why is = absurd (cc)

pub numbers : (source : List ℕ) (fault : FormatFault) → IsFormatFaultOf (codes "justfile") source fault → failure_of fault ≡ failures.Numbers → LacksNumbers source
numbers source (faults.Rejected rejection) why is = absurd (cc)
numbers source faults.NotPrintable why is = absurd (cc)
numbers source faults.Memory why is = absurd (cc)
numbers source faults.Numbers why is = why

pub of_text : (fault : FormatFault) → IsOfText (failure_of fault)
of_text (faults.Rejected rejection) = tt
of_text faults.NotPrintable = tt
of_text faults.Memory = tt
of_text faults.Numbers = tt

pub of_text_or_writing : (fault : FormatFault) → IsOfTextOrWriting (failure_of fault)
of_text_or_writing (faults.Rejected rejection) = tt
of_text_or_writing faults.NotPrintable = tt
of_text_or_writing faults.Memory = tt
of_text_or_writing faults.Numbers = tt
