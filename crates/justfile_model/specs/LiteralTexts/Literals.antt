-- The texts of literals.
use Rattle.std.specs.Prelude.{◌≡◌, ℕ, zero, suc, ◌-◌, ◌+◌, ◌⊎◌, Bool, true, false, List, [], ◌∷◌, ◌++◌, length, take, drop, if◌then◌else◌, Option, Some, None, Result, Ok, Err, codes}
use Rattle.std.specs.List.{list_any, starts_with}
use Rattle.std.specs.Str.{bytes_eq}
use Rattle.std.specs.Prelude.{nat_eq}
use Rattle.justfile_vocabulary.specs.declared.format_string_part.FormatStringPart.{FormatStringPart}
use Rattle.justfile_vocabulary.specs.declared.format_string_part.FormatStringPart.TheVariants as parts
use Rattle.justfile_token.specs.declared.string_kind.StringKind.{StringKind}
use Rattle.justfile_token.specs.StringKind.{kind_of, delimiter_len, escapes}
use Rattle.justfile_model.specs.Lexing.Bytes.{is_interpolation_escape}
use Rattle.justfile_model.specs.LiteralTexts.Unindent.{unindented}
use Rattle.justfile_model.specs.LiteralTexts.EscapeFault.{EscapeFault}
use Rattle.justfile_model.specs.LiteralTexts.FirstPiece as pieces

-- a literal, by how its text is cooked, with the projection of its token
pub data Literal (A : Type 0) : Type 0 where
  -- a string
  Plain : (token : A) → Literal A
  -- a string with the mark `x`, whose text is expanded
  Expanded : (token : A) → Literal A
  -- a command between backticks
  Command : (token : A) → Literal A
  -- a format string without interpolations
  Single : (token : A) → Literal A
  -- the parts of a format string with interpolations; each one contains the first part, which has the delimiter
  Start : (token : A) → Literal A
  Continue : (start token : A) → Literal A
  End : (start token : A) → Literal A

-- a string, with or without the mark `x`
abbrev pub string_of : {A : Type 0} → (expanded : Bool) → A → Literal A
string_of true token = Expanded token
string_of false token = Plain token

abbrev pub over_literal : {A B : Type 0} → (A → B) → Literal A → Literal B
over_literal f (Plain token) = Plain (f token)
over_literal f (Expanded token) = Expanded (f token)
over_literal f (Command token) = Command (f token)
over_literal f (Single token) = Single (f token)
over_literal f (Start token) = Start (f token)
over_literal f (Continue start token) = Continue (f start) (f token)
over_literal f (End start token) = End (f start) (f token)

-- the projection of the token with the text
abbrev pub token_of : {A : Type 0} → Literal A → A
token_of (Plain token) = token
token_of (Expanded token) = token
token_of (Command token) = token
token_of (Single token) = token
token_of (Start token) = token
token_of (Continue start token) = token
token_of (End start token) = token

-- why a literal has no text
pub data LiteralFault : Type 0 where
  -- an invalid escape
  Escape : EscapeFault → LiteralFault
  -- the expander has no expansion of the text, for this reason
  Refused : (reason : List ℕ) → LiteralFault
  -- the expander wasn't called
  Unasked : LiteralFault
  -- a command begins with `#!`
  Shebang : LiteralFault

-- the results of an expander: for each text the expansion, the reason why there is none, or nothing if the expander wasn't called
abbrev pub Expansions : Type 0
Expansions = List ℕ → Option (Result (List ℕ) (List ℕ))

-- Wherever the first expander has a result, the second has the same one.
abbrev pub Within : Expansions → Expansions → Type 0
Within some all = (text : List ℕ) → (some text ≡ None) ⊎ (some text ≡ all text)

-- the expander, with its results for these texts alone
abbrev pub restricted_to : (texts : List (List ℕ)) → Expansions → Expansions
restricted_to texts expander text = if list_any (bytes_eq text) texts then expander text else None

-- the bytes of a text without the first `front` and the last `end` ones
abbrev pub between : (front end : ℕ) → List ℕ → List ℕ
between front end lexeme = take (length lexeme - (front + end)) (drop front lexeme)

-- the text between the quotes
abbrev pub between_quotes : List ℕ → List ℕ
between_quotes lexeme = between (delimiter_len (kind_of lexeme)) (delimiter_len (kind_of lexeme)) lexeme

-- the text between the quotes, unindented if the quotes are tripled
abbrev pub flush_text : List ℕ → List ℕ
flush_text lexeme = if (kind_of lexeme).indented then unindented (between_quotes lexeme) else between_quotes lexeme

abbrev pub by_escapes : Result (List ℕ) EscapeFault → Result (List ℕ) LiteralFault
by_escapes (Ok text) = Ok text
by_escapes (Err e) = Err (Escape e)

-- the text with its escapes replaced, if the quotes are double
abbrev pub escaped : StringKind → List ℕ → Result (List ℕ) LiteralFault
escaped kind text = if escapes kind.delimiter then by_escapes (pieces.cooked_from_left text) else Ok text

abbrev pub string_text : List ℕ → Result (List ℕ) LiteralFault
string_text lexeme = escaped (kind_of lexeme) (flush_text lexeme)

-- a text without its first bytes, with each `{{{{` replaced by `{{` from left to right
abbrev pub unescaped_from : ℕ → List ℕ → List ℕ
unescaped_from skipped [] = []
unescaped_from (suc skipped) (b ∷ bs) = unescaped_from skipped bs
unescaped_from zero (b ∷ bs) = if is_interpolation_escape (b ∷ bs) then codes "{{" ++ unescaped_from 3 bs else b ∷ unescaped_from zero bs

-- the text with each `{{{{` replaced by `{{` from left to right
abbrev pub unescaped_braces : List ℕ → List ℕ
unescaped_braces = unescaped_from 0

-- the text of a part of a format string, which isn't unindented
abbrev pub part_text : StringKind → List ℕ → Result (List ℕ) LiteralFault
part_text kind text = escaped kind (unescaped_braces text)

-- the number of bytes before the text of a part: those of the string's delimiter, or of `}}`
abbrev pub front_len : StringKind → FormatStringPart → ℕ
front_len kind parts.Continue = 2
front_len kind parts.End = 2
front_len kind parts.Single = delimiter_len kind
front_len kind parts.Start = delimiter_len kind

-- the number of bytes after the text of a part: those of the string's delimiter, or of `{{`
abbrev pub end_len : StringKind → FormatStringPart → ℕ
end_len kind parts.Continue = 2
end_len kind parts.End = delimiter_len kind
end_len kind parts.Single = delimiter_len kind
end_len kind parts.Start = 2

-- the text of a part of a format string of this kind
abbrev pub cooked_format_text : StringKind → FormatStringPart → List ℕ → Result (List ℕ) LiteralFault
cooked_format_text kind part lexeme = part_text kind (between (front_len kind part) (end_len kind part) lexeme)

abbrev pub by_answer : Option (Result (List ℕ) (List ℕ)) → Result (List ℕ) LiteralFault
by_answer None = Err Unasked
by_answer (Some (Ok text)) = Ok text
by_answer (Some (Err reason)) = Err (Refused reason)

-- the expansion of a text
abbrev pub expanded_text : Expansions → Result (List ℕ) LiteralFault → Result (List ℕ) LiteralFault
expanded_text expander (Ok text) = by_answer (expander text)
expanded_text expander (Err fault) = Err fault

-- the text of a literal
abbrev pub cooked_text : Expansions → Literal (List ℕ) → Result (List ℕ) LiteralFault
cooked_text expander (Plain lexeme) = string_text lexeme
cooked_text expander (Expanded lexeme) = expanded_text expander (string_text lexeme)
cooked_text expander (Command lexeme) = if starts_with nat_eq (flush_text lexeme) (codes "#!") then Err Shebang else Ok (flush_text lexeme)
cooked_text expander (Single lexeme) = cooked_format_text (kind_of lexeme) parts.Single lexeme
cooked_text expander (Start lexeme) = cooked_format_text (kind_of lexeme) parts.Start lexeme
cooked_text expander (Continue start lexeme) = cooked_format_text (kind_of start) parts.Continue lexeme
cooked_text expander (End start lexeme) = cooked_format_text (kind_of start) parts.End lexeme

-- these are the texts of the literals, in order
abbrev pub AreCookedTexts : Expansions → List (Literal (List ℕ)) → List (List ℕ) → Type 0
AreCookedTexts expander [] [] = Unit {0}
AreCookedTexts expander (l ∷ literals) (text ∷ texts) = (cooked_text expander l ≡ Ok text) × AreCookedTexts expander literals texts
AreCookedTexts expander _ _ = ⊥
