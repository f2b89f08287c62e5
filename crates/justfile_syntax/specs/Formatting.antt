-- The canonical text of a justfile, and why a text has none.
pub use Rattle.justfile_canonical.specs.Formatting.{HasNone, IsFileOf, IsFormatted, IsPrinted, IsRejectedText, IsRejection, IsUnprintable, LacksNumbers}
pub use Rattle.justfile_indentation.specs.OwnIndentation.{HasCookedIndentation, IsIndentedBy}
pub use Rattle.justfile_canonical.specs.Fault.{IsFormatFaultOf, IsPlaceOf, IsRejectionOf, format_fault_text}
pub use Rattle.justfile_canonical.specs.Messages.{error_text}
pub use Rattle.justfile_canonical.specs.declared.fault.FormatFault.{FormatFault}
