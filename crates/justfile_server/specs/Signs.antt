-- Signs in whose place another one has to be.
use Rattle.std.specs.Prelude.{ℕ, ◌-◌, ◌==◌, ◌&&◌, ◌||◌, Bool, true, false, not, List, [], ◌∷◌, Option, None, Some, codes, cond, drop, length, min, nat_eq, slice_get, string_bytes, take}
use Rattle.std.specs.List.{list_all, prefix_len, starts_with, suffix_len}
use Rattle.justfile_vocabulary.specs.ByteClass.{class_of}
use Rattle.justfile_vocabulary.specs.declared.byte_class.ByteClass.{ByteClass}
use Rattle.justfile_vocabulary.specs.declared.byte_class.ByteClass.TheVariants.{IdentifierStart}
use Rattle.justfile_completion.specs.Cursor.{is_name_byte}
use Rattle.justfile_findings.specs.Fixes.{Does, Fix}
use Rattle.justfile_findings.specs.Settings.{begins_with_mark}
use Rattle.editor_language.specs.declared.parts.Problem.{Problem}
use Rattle.editor_language.specs.declared.parts.QuickFix.{QuickFix}
use Rattle.editor_language.specs.declared.parts.Span.{Span}

abbrev pub is_equals_byte : Option ℕ → Bool
is_equals_byte None = false
is_equals_byte (Some b) = b == 61

-- the part of a text is the sign `=`
abbrev pub is_equals : (text : List ℕ) → Span → Bool
is_equals text span = (span.end - span.start) == 1 && is_equals_byte (slice_get text span.start)

-- the message says that `:=` is expected
abbrev pub expects_other : (message : List ℕ) → Bool
expects_other message = starts_with nat_eq message (codes "expected ':='")

abbrev pub is_in_line : ℕ → Bool
is_in_line b = not (b == 10)

-- what a text has before an offset in its line
abbrev pub line_before : (text : List ℕ) (offset : ℕ) → List ℕ
line_before text offset = let before = take (min offset (length text)) text in drop (length before - suffix_len is_in_line before) before

abbrev pub without_mark : (line : List ℕ) → List ℕ
without_mark line = cond (begins_with_mark line) (drop 3 line) line

abbrev pub is_start : ByteClass → Bool
is_start IdentifierStart = true
is_start _ = false

abbrev pub starts_name : ℕ → Bool
starts_name b = is_start (class_of b)

abbrev pub is_blank : ℕ → Bool
is_blank b = b == 32 || b == 9

abbrev pub begins_name : (line : List ℕ) → Bool
begins_name [] = false
begins_name (b ∷ line) = starts_name b

-- a line is a name, and after it blanks alone
abbrev pub is_named : (line : List ℕ) → Bool
is_named line = begins_name line && list_all is_blank (drop (prefix_len is_name_byte line) line)

-- The problem is a `=` in whose place a `:=` has to be: it is expected there, or a name alone is before it in its line.
abbrev pub is_sign : (text : List ℕ) → Problem → Bool
is_sign text p = is_equals text p.span && (expects_other (string_bytes p.message) || is_named (without_mark (line_before text p.span.start)))

-- `:=` is put in the place of the sign
abbrev pub sign_fix : Problem → Fix
sign_fix p = record { span = p.span; title = codes "Replace `=` with `:=`"; at = p.span; text = codes ":=" }

abbrev pub Corrects : Problem → QuickFix → Type 0
Corrects p f = Does (sign_fix p) f
