-- Why a text isn't formatted.
use Rattle.std.specs.Prelude.{◌≡◌, ℕ, false, List, codes, string_bytes}
use Rattle.justfile_token.specs.declared.compile_error.CompileError.{CompileError}
use Rattle.justfile_model.specs.Printed.Printing.{printable}
use Rattle.justfile_ast.specs.Ast.{ast_shape}
use Rattle.justfile_ast.specs.declared.ast.Ast.{Ast}
use Rattle.justfile_canonical.specs.Formatting.{IsRejection, IsUnprintable, LacksNumbers}
use Rattle.justfile_canonical.specs.Messages.{error_text}
use Rattle.justfile_token.specs.declared.token.Token.{Token}
use Rattle.justfile_canonical.specs.declared.fault.Rejection.{Rejection}
use Rattle.justfile_canonical.specs.declared.fault.FormatFault.{FormatFault}
use Rattle.justfile_canonical.specs.declared.fault.FormatFault.TheVariants.{Rejected, NotPrintable, Memory, Numbers}

-- the lines that tell a user about it
abbrev pub format_fault_text : FormatFault → List ℕ
format_fault_text (Rejected rejection) = string_bytes rejection.lines
format_fault_text NotPrintable = codes "error: a body line ends in a carriage return\n"
format_fault_text Memory = codes "error: out of memory\n"
format_fault_text Numbers = codes "error: out of numbers\n"

-- The place is that of the token.
pub record IsPlaceOf (token : Token) (rejection : Rejection) : Type 0 where
  pub offset : rejection.offset ≡ token.offset
  pub length : rejection.length ≡ token.length
  pub line : rejection.line ≡ token.line
  pub column : rejection.column ≡ token.column

-- The text isn't a justfile, the lines tell which error is the cause, and the place is that of its token.
pub record IsRejectionOf (path source : List ℕ) (rejection : Rejection) : Type 0 where
  pub told : IsRejection path source (string_bytes rejection.lines)
  pub place : IsPlaceOf told.error.token rejection

-- What a fault implies about the text of a file at this path. That memory ran out implies nothing.
abbrev pub IsFormatFaultOf : (path source : List ℕ) → FormatFault → Type 0
IsFormatFaultOf path source (Rejected rejection) = IsRejectionOf path source rejection
IsFormatFaultOf path source NotPrintable = IsUnprintable source
IsFormatFaultOf path source Memory = Unit {0}
IsFormatFaultOf path source Numbers = LacksNumbers source

-- The fault is the one for the error, or memory ran out.
abbrev pub IsRejectionFor : CompileError → FormatFault → Type 0
IsRejectionFor e (Rejected rejection) = (string_bytes rejection.lines ≡ error_text e) × IsPlaceOf e.token rejection
IsRejectionFor e Memory = Unit {0}
IsRejectionFor e _ = ⊥

-- The fault is one of printing a file: a line of a body ends in a carriage return, or memory ran out.
abbrev pub IsFaultOfPrinting : Ast → FormatFault → Type 0
IsFaultOfPrinting ast NotPrintable = printable (ast_shape ast) ≡ false
IsFaultOfPrinting ast Memory = Unit {0}
IsFaultOfPrinting ast _ = ⊥
