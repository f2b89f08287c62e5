-- How messages show line numbers, blanks and characters.
use Rattle.std.specs.Prelude.{ℕ, ◌+◌, ◌-◌, true, false, List, [], ◌∷◌, ◌||◌, codes, encode_utf8, length, replicate, if◌then◌else◌, ◌==◌}
use Rattle.std.specs.List.{flat_map}
use Rattle.std.specs.Fmt.{decimal, digits}
use Rattle.std.specs.Str.{chars}
use Rattle.std.specs.Char.{is_ascii_graphic}
use Rattle.justfile_vocabulary.specs.Text.{◌&◌}
use Rattle.justfile_vocabulary.specs.ByteNames as byte

-- the number of a line: lines count from 0 and are shown from 1
abbrev pub line_text : ℕ → List ℕ
line_text line = decimal (line + 1)

-- a character in which a space shows as `␠` and a tab as `␉`
abbrev pub blank_text : ℕ → List ℕ
blank_text character = if character == byte.space then encode_utf8 0x2420 else (if character == byte.tab then encode_utf8 0x2409 else encode_utf8 character)

abbrev pub blanks_text : List ℕ → List ℕ
blanks_text text = flat_map blank_text (chars text)

-- the escape of a character: its code point in lowercase hexadecimal digits, in braces
abbrev pub code_text : ℕ → List ℕ
code_text character = codes "\\u{" & digits 16 false character & codes "}"

-- how messages show a character that may not follow a backslash
abbrev pub escaped_text : ℕ → List ℕ
escaped_text character = if character == byte.backtick then codes "\\`"
    else (if character == byte.tab then codes "\\t"
    else (if character == byte.carriage_return then codes "\\r"
    else (if character == byte.line_feed then codes "\\n"
    else (if character == byte.space || is_ascii_graphic character then encode_utf8 character else code_text character))))

-- a number in at least four uppercase hexadecimal digits
abbrev pub four_digits : ℕ → List ℕ
four_digits number = replicate (4 - length (digits 16 true number)) byte.digit_zero & digits 16 true number

-- a character in quotes, and its code point unless it is a graphic character of ASCII
abbrev pub start_text : ℕ → List ℕ
start_text character = codes "'" & encode_utf8 character & codes "'"
    & (if is_ascii_graphic character then [] else codes " (U+" & four_digits character & codes ")")
