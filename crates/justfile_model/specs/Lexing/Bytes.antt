-- Classes of bytes, and runs of bytes. A byte past the end of a text counts as 0.
use Rattle.std.specs.Prelude.{ℕ, Bool, true, false, ◌&&◌, ◌||◌, ◌==◌, List, [], ◌∷◌, drop, slice_index, if◌then◌else◌, chars}
use Rattle.std.specs.List.{prefix_len, list_any}
use Rattle.justfile_vocabulary.specs.ByteClass.{class_of}
use Rattle.justfile_vocabulary.specs.declared.byte_class.ByteClass.{ByteClass}
use Rattle.justfile_vocabulary.specs.declared.byte_class.ByteClass.TheVariants.{Blank, LineFeed, CarriageReturn, IdentifierStart, IdentifierContinue}
use Rattle.justfile_vocabulary.specs.ByteNames as byte

-- a space or a tab
abbrev pub blank : ByteClass → Bool
blank Blank = true
blank _ = false

-- a byte that a name can contain after its first byte
abbrev pub in_word : ByteClass → Bool
in_word IdentifierStart = true
in_word IdentifierContinue = true
in_word _ = false

-- a space, a tab, CR or LF
abbrev pub white : ByteClass → Bool
white Blank = true
white CarriageReturn = true
white LineFeed = true
white _ = false

-- a line feed, alone or after a carriage return
abbrev pub line_feed : ByteClass → Bool
line_feed LineFeed = true
line_feed _ = false

-- the byte is a space or a tab
abbrev pub is_blank : ℕ → Bool
is_blank b = blank (class_of b)

-- a letter, a digit, `_` or `-`
abbrev pub is_name_byte : ℕ → Bool
is_name_byte b = in_word (class_of b)

-- the number of blanks at the start
abbrev pub blank_len : List ℕ → ℕ
blank_len = prefix_len is_blank

-- the number of bytes at the start that a name can contain
abbrev pub word_len : List ℕ → ℕ
word_len = prefix_len is_name_byte

-- a line end is at the start: a line feed, or a carriage return and a line feed
abbrev pub is_line_end : List ℕ → Bool
is_line_end bs = slice_index bs 0 == byte.line_feed || slice_index bs 0 == byte.carriage_return && slice_index bs 1 == byte.line_feed

-- `{{` is at the start
abbrev pub is_interpolation_start : List ℕ → Bool
is_interpolation_start bs = slice_index bs 0 == byte.brace_left && slice_index bs 1 == byte.brace_left

-- `}}` is at the start
abbrev pub is_interpolation_end : List ℕ → Bool
is_interpolation_end bs = slice_index bs 0 == byte.brace_right && slice_index bs 1 == byte.brace_right

-- `{{{{` is at the start, which is text in places where `{{` isn't
abbrev pub is_interpolation_escape : List ℕ → Bool
is_interpolation_escape bs = is_interpolation_start bs && is_interpolation_start (drop 2 bs)

-- there are both a space and a tab among the bytes
abbrev pub is_mixed : List ℕ → Bool
is_mixed bs = list_any (λ b. b == byte.space) bs && list_any (λ b. b == byte.tab) bs

-- The longest run of white bytes at the start ends in a line feed, and another byte follows it. The flag says whether the byte before the
-- text was a line feed, which matters for an empty run.
unfoldable pub closes_levels : Bool → List ℕ → Bool
closes_levels last [] = false
closes_levels last (b ∷ bs) = if white (class_of b) then closes_levels (line_feed (class_of b)) bs else last

-- the first character
abbrev pub first_char : List ℕ → ℕ
first_char bs = slice_index (chars bs) 0
