-- The class of each byte.
use Rattle.std.specs.Prelude.{ℕ, Bool, ◌&&◌, ◌||◌, ◌==◌, nat_lt, if◌then◌else◌}
use Rattle.std.specs.Char.{is_ascii_alphabetic, is_ascii_digit}
use Rattle.justfile_vocabulary.specs.declared.byte_class.ByteClass.{ByteClass}
use Rattle.justfile_vocabulary.specs.declared.byte_class.ByteClass.TheVariants.{Blank, LineFeed, CarriageReturn, IdentifierStart, IdentifierContinue, Quote, Opener, Closer, Fixed, Lead, Other}
use Rattle.justfile_vocabulary.specs.ByteNames as byte

-- the bytes that begin a token of fixed text and aren't delimiters: ! & | + = : $ * , / ? @
abbrev pub begins_fixed : ℕ → Bool
begins_fixed b = b == byte.bang || b == byte.ampersand || b == byte.bar || b == byte.plus || b == byte.equals || b == byte.colon || b == byte.dollar || b == byte.asterisk || b == byte.comma || b == byte.slash || b == byte.question_mark || b == byte.at

-- The class of a byte: what may begin with it. In UTF-8, the first byte of a character of more than
-- one byte is from 194 to 244.
unfoldable pub class_of : ℕ → ByteClass
class_of b =
    if b == byte.space || b == byte.tab then Blank
    else if b == byte.line_feed then LineFeed
    else if b == byte.carriage_return then CarriageReturn
    else if is_ascii_alphabetic b || b == byte.underscore then IdentifierStart
    else if is_ascii_digit b || b == byte.minus then IdentifierContinue
    else if b == byte.single_quote || b == byte.double_quote || b == byte.backtick then Quote
    else if b == byte.paren_left || b == byte.bracket_left || b == byte.brace_left then Opener
    else if b == byte.paren_right || b == byte.bracket_right || b == byte.brace_right then Closer
    else if begins_fixed b then Fixed
    else if nat_lt byte.before_leads b && nat_lt b byte.after_leads then Lead
    else Other
