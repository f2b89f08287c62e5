-- Kinds of tokens.
use Rattle.std.specs.Prelude.{Bool, false, true}
use Rattle.justfile_vocabulary.specs.declared.token_kind.TokenKind.{TokenKind}
use Rattle.justfile_vocabulary.specs.declared.token_kind.TokenKind.TheVariants.{BraceL, BraceR, BracketL, BracketR, ByteOrderMark, Colon, ColonColon, ColonEquals, Comma, Comment, Dedent, Eol, Equals, FormatStringEnd, FormatStringStart, Identifier, Indent, InterpolationEnd, InterpolationStart, ParenL, ParenR, Whitespace}

-- a bracket, or the beginning of an interpolation
abbrev pub opens : TokenKind → Bool
opens BraceL = true
opens BracketL = true
opens FormatStringStart = true
opens InterpolationStart = true
opens ParenL = true
opens other = false

-- what closes one
abbrev pub closes : TokenKind → Bool
closes BraceR = true
closes BracketR = true
closes FormatStringEnd = true
closes InterpolationEnd = true
closes ParenR = true
closes other = false

abbrev pub ends_line : TokenKind → Bool
ends_line Eol = true
ends_line other = false

-- a line may begin after it
abbrev pub begins_line : TokenKind → Bool
begins_line ByteOrderMark = true
begins_line Eol = true
begins_line other = false

-- neither blanks nor the beginning or the end of a body
abbrev pub is_word : TokenKind → Bool
is_word ByteOrderMark = false
is_word Dedent = false
is_word Indent = false
is_word Whitespace = false
is_word other = true

abbrev pub is_indent : TokenKind → Bool
is_indent Indent = true
is_indent other = false

-- what may stand between the header of a recipe and the text of its body
abbrev pub is_between : TokenKind → Bool
is_between Comment = true
is_between Eol = true
is_between Indent = true
is_between Whitespace = true
is_between other = false

abbrev pub is_assign : TokenKind → Bool
is_assign ColonEquals = true
is_assign other = false

abbrev pub is_colon : TokenKind → Bool
is_colon Colon = true
is_colon other = false

abbrev pub is_comma : TokenKind → Bool
is_comma Comma = true
is_comma other = false

abbrev pub is_equals : TokenKind → Bool
is_equals Equals = true
is_equals other = false

abbrev pub is_identifier : TokenKind → Bool
is_identifier Identifier = true
is_identifier other = false

abbrev pub is_bracket : TokenKind → Bool
is_bracket BracketL = true
is_bracket other = false

abbrev pub is_parenthesis : TokenKind → Bool
is_parenthesis ParenL = true
is_parenthesis other = false

-- nothing of the file's own names can follow it
abbrev pub is_blocking : TokenKind → Bool
is_blocking ColonColon = true
is_blocking Comment = true
is_blocking other = false
