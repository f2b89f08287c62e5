-- How literals are delimited.
use Rattle.std.specs.Prelude.{ℕ, Bool, true, false, ◌&&◌, ◌||◌, ◌==◌, List, slice_index, replicate, codes, if◌then◌else◌, Option, Some, None}
use Rattle.justfile_token.specs.declared.string_kind.StringDelimiter.{StringDelimiter}
use Rattle.justfile_token.specs.declared.string_kind.StringDelimiter.TheVariants.{Backtick, QuoteDouble, QuoteSingle}
use Rattle.justfile_token.specs.declared.string_kind.StringKind.{StringKind}
use Rattle.justfile_vocabulary.specs.declared.token_kind.TokenKind.{TokenKind}
use Rattle.justfile_vocabulary.specs.declared.token_kind.TokenKind.TheVariants as tokens
use Rattle.justfile_token.specs.declared.compile_error_kind.CompileErrorKind.{CompileErrorKind}
use Rattle.justfile_token.specs.declared.compile_error_kind.CompileErrorKind.TheVariants as errors
use Rattle.justfile_vocabulary.specs.ByteNames as byte

-- the byte that the delimiter consists of
abbrev pub quote_of : StringDelimiter → ℕ
quote_of Backtick = byte.backtick
quote_of QuoteDouble = byte.double_quote
quote_of QuoteSingle = byte.single_quote

-- A backslash begins an escape in the literal.
abbrev pub escapes : StringDelimiter → Bool
escapes Backtick = false
escapes QuoteDouble = true
escapes QuoteSingle = false

-- the number of bytes of a delimiter
abbrev pub delimiter_len : StringKind → ℕ
delimiter_len k = if k.indented then 3 else 1

-- the delimiter that consists of this quote byte: the third quote if it is neither of the others
abbrev pub delimiter_at : ℕ → StringDelimiter
delimiter_at b = if b == byte.backtick then Backtick else if b == byte.double_quote then QuoteDouble else QuoteSingle

-- the kind of the literal that begins with these bytes: tripled if the first three bytes are equal
abbrev pub kind_of : List ℕ → StringKind
kind_of bs = record { delimiter = delimiter_at (slice_index bs 0); indented = slice_index bs 1 == slice_index bs 0 && slice_index bs 2 == slice_index bs 0 }

-- the text that opens and closes a literal
abbrev pub delimiter_text : StringKind → List ℕ
delimiter_text k = replicate (delimiter_len k) (quote_of k.delimiter)

-- the kind of the literal's token
abbrev pub token_kind_of : StringDelimiter → TokenKind
token_kind_of Backtick = tokens.Backtick
token_kind_of QuoteDouble = tokens.StringToken
token_kind_of QuoteSingle = tokens.StringToken

-- the error of a literal that isn't terminated
abbrev pub unterminated_kind_of : StringDelimiter → CompileErrorKind
unterminated_kind_of Backtick = errors.UnterminatedBacktick
unterminated_kind_of QuoteDouble = errors.UnterminatedString
unterminated_kind_of QuoteSingle = errors.UnterminatedString

-- the bytes that begin a literal: ` " '
abbrev pub is_quote : ℕ → Bool
is_quote b = b == byte.backtick || b == byte.double_quote || b == byte.single_quote

-- the kind of the literal that a text begins with, if it begins with a quote
abbrev pub kind_at_start : List ℕ → Option StringKind
kind_at_start bs = if is_quote (slice_index bs 0) then Some (kind_of bs) else None

-- the message for a token that isn't a literal
abbrev pub no_literal_message : List ℕ
no_literal_message = codes "StringKind::from_token: expected string or backtick"
