-- What a call tells, and what its room holds then.
use Rattle.std.specs.Prelude.{◌≡◌, ◌⊎◌, ◌≤◌, ◌<◌, ℕ, List, ◌++◌, codes, drop, length, take}
use Rattle.std.specs.Str.{IsUtf8}
use Rattle.justfile_canonical.specs.Fault.{format_fault_text}
use Rattle.justfile_canonical.specs.Formatting.{IsRejection, IsUnprintable, LacksNumbers}
use Rattle.justfile_canonical.specs.declared.fault.FormatFault.TheVariants as faults
use Rattle.justfile_c.specs.declared.JustfileAnswer.{JustfileAnswer}

-- 0 for a formatted text, 2 for one that has none, and 3 where neither is known
abbrev pub IsStatus : ℕ → Type 0
IsStatus status = (status ≡ 0) ⊎ (status ≡ 2) ⊎ (status ≡ 3)

-- `Holds` applies to a text that has the answer's length, and the room begins with it if it fits.
pub record Gives (Holds : List ℕ → Type 0) (answer : JustfileAnswer) (room : List ℕ) : Type 0 where
  pub text : List ℕ
  pub holds : Holds text
  pub length_is : answer.length ≡ length text
  pub begins : answer.fits ≡ 1 → take answer.length room ≡ text

-- The answer tells this place.
pub record IsAt (offset width line column : ℕ) (answer : JustfileAnswer) : Type 0 where
  pub offset_is : answer.offset ≡ offset
  pub width_is : answer.width ≡ width
  pub line_is : answer.line ≡ line
  pub column_is : answer.column ≡ column

-- The answer tells no place.
abbrev pub IsNowhere : JustfileAnswer → Type 0
IsNowhere answer = IsAt 0 0 0 0 answer

-- The lines tell why the text has no canonical text: the error for which it isn't a justfile, with the place of its token, or that a line
-- of a body ends in a carriage return.
pub data IsRejected (source : List ℕ) (answer : JustfileAnswer) (lines : List ℕ) : Type 0 where
  rejected : (told : IsRejection (codes "justfile") source lines)
      → IsAt told.error.token.offset told.error.token.length told.error.token.line told.error.token.column answer
      → IsRejected source answer lines
  unprintable : IsUnprintable source → IsNowhere answer → lines ≡ format_fault_text faults.NotPrintable → IsRejected source answer lines

-- The line tells why it isn't known whether the text has a canonical text. That memory ran out implies nothing about the text.
pub data IsFailure (source lines : List ℕ) : Type 0 where
  not_utf8 : ¬ IsUtf8 source → lines ≡ codes "error: input is not UTF-8\n" → IsFailure source lines
  memory : lines ≡ format_fault_text faults.Memory → IsFailure source lines
  numbers : LacksNumbers source → lines ≡ format_fault_text faults.Numbers → IsFailure source lines

-- The answer has the text's length. The room begins with the text and then is as it was; or the text is longer, and all of it is as it was.
pub data IsLaid (text old new : List ℕ) (answer : JustfileAnswer) : Type 0 where
  laid : answer.length ≡ length text → answer.fits ≡ 1 → length text ≤ length old → new ≡ text ++ drop (length text) old
      → IsLaid text old new answer
  longer : answer.length ≡ length text → answer.fits ≡ 0 → length old < length text → new ≡ old → IsLaid text old new answer
