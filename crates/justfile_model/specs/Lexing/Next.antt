-- The next token, from the mode and the remaining text.
use Rattle.std.specs.Prelude.{ℕ, zero, suc, ◌+◌, Bool, true, false, not, ◌||◌, ◌&&◌, ◌==◌, nat_eq, List, [], ◌∷◌, length, take, drop, slice_index, if◌then◌else◌, Option, Some, None, Result, Ok, Err}
use Rattle.std.specs.List.{list_any, starts_with}
use Rattle.std.specs.Char.{len_utf8}
use Rattle.std.specs.Str.{bytes_eq}
use Rattle.justfile_vocabulary.specs.declared.byte_class.ByteClass.{ByteClass}
use Rattle.justfile_vocabulary.specs.declared.byte_class.ByteClass.TheVariants as classes
use Rattle.justfile_token.specs.declared.delimiter.Delimiter.{Delimiter}
use Rattle.justfile_token.specs.declared.delimiter.Delimiter.TheVariants.{Brace, Bracket, FormatString, Paren}
use Rattle.justfile_token.specs.declared.string_kind.StringDelimiter.{StringDelimiter}
use Rattle.justfile_token.specs.declared.string_kind.StringDelimiter.TheVariants as delimiters
use Rattle.justfile_token.specs.declared.string_kind.StringKind.{StringKind}
use Rattle.justfile_model.specs.declared.raw_text.RawText.TheVariants as raw_texts
use Rattle.justfile_vocabulary.specs.declared.token_kind.TokenKind.{TokenKind}
use Rattle.justfile_vocabulary.specs.declared.token_kind.TokenKind.TheVariants.{AmpersandAmpersand, Asterisk, At, BangEquals, BangTilde, Bang, BarBar, BraceL, BraceR, BracketL, BracketR, ByteOrderMark, Colon, ColonColon, ColonEquals, Comma, Comment, Dedent, Dollar, Eof, Eol, Equals, EqualsEquals, EqualsTilde, FormatStringContinue, FormatStringEnd, FormatStringStart, Identifier, Indent, InterpolationEnd, InterpolationStart, ParenL, ParenR, Plus, PlusPlus, QuestionMark, Slash, Text, Whitespace}
use Rattle.justfile_vocabulary.specs.ByteClass.{class_of}
use Rattle.justfile_model.specs.Lexing.Bytes.{blank_len, word_len, is_line_end, is_interpolation_start, is_interpolation_end, is_mixed, closes_levels, first_char}
use Rattle.justfile_token.specs.StringKind.{delimiter_len, kind_of, token_kind_of}
use Rattle.justfile_model.specs.Lexing.LiteralText.{raw_len}
use Rattle.justfile_model.specs.Lexing.Tok.{Tok}
use Rattle.justfile_model.specs.declared.open_delimiter.OpenDelimiter.{OpenDelimiter}
use Rattle.justfile_model.specs.Lexing.Modes.{Mode, head_of, is_empty, innermost, nested}
use Rattle.justfile_model.specs.Lexing.LexicalFault.{LexicalFault, EscapeEndOfFile, InconsistentLeadingWhitespace, InvalidEscapeSequence, MismatchedClosingDelimiter, MixedLeadingWhitespace, UnexpectedCharacter, UnexpectedClosingDelimiter, UnexpectedEndOfToken, UnknownStartOfToken, UnpairedCarriageReturn, UnterminatedBacktick, UnterminatedString, LexicalError, Here, Unclosed}
use Rattle.justfile_vocabulary.specs.ByteNames as byte

-- the kind and the length in bytes of the next token, or why there is none
abbrev pub NextToken : Type 0
NextToken = Result (TokenKind × ℕ) LexicalError

-- a character that begins no token
abbrev pub unknown : List ℕ → NextToken
unknown rest = Err (Here (UnknownStartOfToken (first_char rest)) 0 (len_utf8 (first_char rest)))

-- ---- fixed tokens, by the first byte and the second

-- a token of one byte
abbrev pub one_byte : TokenKind → NextToken
one_byte kind = Ok (kind, 1)

-- a token of two bytes
abbrev pub two_bytes : TokenKind → NextToken
two_bytes kind = Ok (kind, 2)

-- two equal bytes; another character in place of the second, or the end of the text, is an error there
abbrev pub doubled_token : ℕ → TokenKind → List ℕ → NextToken
doubled_token b kind rest =
    if slice_index rest 1 == b then two_bytes kind
    else if length (drop 1 rest) == 0 then Err (Here (UnexpectedEndOfToken (b ∷ [])) 1 0)
    else Err (Here (UnexpectedCharacter (b ∷ [])) 1 (len_utf8 (first_char (drop 1 rest))))

-- the longest fixed token, other than a delimiter, that begins with this byte
unfoldable pub fixed_token : ℕ → List ℕ → NextToken
fixed_token b rest =
    let c = slice_index rest 1 in
    if b == byte.bang then (if c == byte.equals then two_bytes BangEquals else if c == byte.tilde then two_bytes BangTilde else one_byte Bang)
    else if b == byte.ampersand then doubled_token byte.ampersand AmpersandAmpersand rest
    else if b == byte.bar then doubled_token byte.bar BarBar rest
    else if b == byte.plus then (if c == byte.plus then two_bytes PlusPlus else one_byte Plus)
    else if b == byte.equals then (if c == byte.equals then two_bytes EqualsEquals else if c == byte.tilde then two_bytes EqualsTilde else one_byte Equals)
    else if b == byte.colon then (if c == byte.equals then two_bytes ColonEquals else if c == byte.colon then two_bytes ColonColon else one_byte Colon)
    else if b == byte.dollar then one_byte Dollar
    else if b == byte.asterisk then one_byte Asterisk
    else if b == byte.comma then one_byte Comma
    else if b == byte.slash then one_byte Slash
    else if b == byte.question_mark then one_byte QuestionMark
    else if b == byte.at then one_byte At
    else unknown rest

-- an opening delimiter
abbrev pub opening : ℕ → List ℕ → NextToken
opening b rest =
    if b == byte.paren_left then one_byte ParenL
    else if b == byte.bracket_left then one_byte BracketL
    else if b == byte.brace_left then one_byte BraceL
    else unknown rest

-- ---- literals

-- the fault of a literal that isn't terminated
abbrev pub unterminated : StringDelimiter → LexicalFault
unterminated delimiters.Backtick = UnterminatedBacktick
unterminated delimiters.QuoteDouble = UnterminatedString
unterminated delimiters.QuoteSingle = UnterminatedString

-- the quote is a backtick
abbrev pub is_backtick : StringDelimiter → Bool
is_backtick delimiters.Backtick = true
is_backtick delimiters.QuoteDouble = false
is_backtick delimiters.QuoteSingle = false

-- A literal, or a part of a format string, with an opener and an inside of these lengths. It isn't terminated; or it ends with `{{`, another
-- part follows, and its kind is `continued`; or it ends with the delimiter, and its kind is `ended`.
abbrev pub literal_part_by : StringKind → (format : Bool) → (opener_len inside_len : ℕ) → (continued ended : TokenKind) → List ℕ → NextToken
literal_part_by k format opener_len inside_len continued ended rest =
    if inside_len == length (drop opener_len rest) then Err (Here (unterminated k.delimiter) 0 opener_len)
    else if format && is_interpolation_start (drop inside_len (drop opener_len rest)) then Ok (continued, opener_len + inside_len + 2)
    else Ok (ended, opener_len + inside_len + delimiter_len k)

-- the same, where the inside is the text up to its first end
unfoldable pub literal_part : StringKind → (format : Bool) → (opener_len : ℕ) → (continued ended : TokenKind) → List ℕ → NextToken
literal_part k format opener_len continued ended rest =
    literal_part_by k format opener_len (raw_len (raw_texts.Literal k format) (drop opener_len rest)) continued ended rest

-- a literal; directly after the identifier `f`, quotes begin a format string, and a backtick doesn't
abbrev pub literal_token : Mode → List ℕ → NextToken
literal_token m rest =
    let k = kind_of rest in
    literal_part k (m.after_f && not (is_backtick k.delimiter)) (delimiter_len k) FormatStringStart (token_kind_of k.delimiter) rest

-- ---- closing delimiters, which have to match the innermost open one

-- the delimiters are the same; a format string has no closing delimiter
abbrev pub is_same : Delimiter → Delimiter → Bool
is_same Brace Brace = true
is_same Bracket Bracket = true
is_same Paren Paren = true
is_same _ _ = false

-- a closing delimiter, by the innermost open one
abbrev pub closing_delimiter : Option OpenDelimiter → Delimiter → TokenKind → NextToken
closing_delimiter None delimiter kind = Err (Here (UnexpectedClosingDelimiter delimiter) 0 0)
closing_delimiter (Some o) delimiter kind = if is_same o.delimiter delimiter then one_byte kind else Err (Here (MismatchedClosingDelimiter delimiter o.line o.delimiter) 0 0)

-- the kind of a format string's literal
abbrev pub format_string_kind : Delimiter → Option StringKind
format_string_kind (FormatString k) = Some k
format_string_kind _ = None

-- the kind of the literal, if the innermost open delimiter is a format string
abbrev pub format_kind : Option OpenDelimiter → Option StringKind
format_kind None = None
format_kind (Some o) = format_string_kind o.delimiter

-- a closing brace; or, if the innermost open delimiter is a format string, its next part, which begins with `}}`
abbrev pub brace_by : Option StringKind → Option OpenDelimiter → List ℕ → NextToken
brace_by None last rest = closing_delimiter last Brace BraceR
brace_by (Some k) last rest = if is_interpolation_end rest then literal_part k true 2 FormatStringContinue FormatStringEnd rest else closing_delimiter last Brace BraceR

-- `)`, `]` or `}`
abbrev pub closing : Option OpenDelimiter → ℕ → List ℕ → NextToken
closing last b rest =
    if b == byte.paren_right then closing_delimiter last Paren ParenR
    else if b == byte.bracket_right then closing_delimiter last Bracket BracketR
    else if b == byte.brace_right then brace_by (format_kind last) last rest
    else unknown rest

-- ---- whitespace, comments, and other characters

-- a line end of this many bytes, which is whitespace while a delimiter or an interpolation is open
abbrev pub line_end_token : Mode → ℕ → NextToken
line_end_token m n = if nested m then Ok (Whitespace, n) else Ok (Eol, n)

-- a backslash, which must be followed by a line end; both are whitespace, together with the blanks after them
abbrev pub escaped_line_end : List ℕ → NextToken
escaped_line_end rest =
    let c = slice_index rest 1 in
    if c == byte.line_feed then Ok (Whitespace, 2 + blank_len (drop 2 rest))
    else if c == byte.carriage_return then (if slice_index rest 2 == byte.line_feed then Ok (Whitespace, 3 + blank_len (drop 3 rest)) else Err (Here UnpairedCarriageReturn 0 2))
    else if length (drop 1 rest) == 0 then Err (Here EscapeEndOfFile 0 1)
    else Err (Here (InvalidEscapeSequence (first_char (drop 1 rest))) 0 1)

-- U+FEFF
abbrev pub byte_order_mark : ℕ
byte_order_mark = 65279

-- a character that isn't ASCII; only the byte order mark is a token
abbrev pub multibyte_token : List ℕ → NextToken
multibyte_token rest = if first_char rest == byte_order_mark then Ok (ByteOrderMark, 3) else unknown rest

-- a comment, a backslash, or a character that doesn't begin a token
abbrev pub other_token : List ℕ → NextToken
other_token rest =
    if slice_index rest 0 == byte.number_sign then Ok (Comment, raw_len raw_texts.Comment rest)
    else if slice_index rest 0 == byte.backslash then escaped_line_end rest
    else unknown rest

-- ---- outside of body text, and in it

-- the token at the start, outside of body text, by the class of the first byte
unfoldable pub token_by_class : Mode → ByteClass → List ℕ → NextToken
token_by_class m classes.Blank rest = Ok (Whitespace, blank_len rest)
token_by_class m classes.LineFeed rest = line_end_token m 1
token_by_class m classes.CarriageReturn rest = if slice_index rest 1 == byte.line_feed then line_end_token m 2 else Err (Here UnpairedCarriageReturn 0 1)
token_by_class m classes.IdentifierStart rest = Ok (Identifier, word_len rest)
token_by_class m classes.IdentifierContinue rest = unknown rest
token_by_class m classes.Quote rest = literal_token m rest
token_by_class m classes.Opener rest = opening (slice_index rest 0) rest
token_by_class m classes.Closer rest = closing (head_of m.openers) (slice_index rest 0) rest
token_by_class m classes.Fixed rest = fixed_token (slice_index rest 0) rest
token_by_class m classes.Lead rest = multibyte_token rest
token_by_class m classes.Other rest = other_token rest

-- the token at the start, outside of body text
abbrev pub token_outside_text : Mode → List ℕ → NextToken
token_outside_text m rest = token_by_class m (class_of (slice_index rest 0)) rest

-- in a body: this many bytes of text, or if there are none, the line end or `{{` that begins with this byte; text ends before
-- nothing else, so a byte that begins no line end begins `{{`
abbrev pub text_or : ℕ → ℕ → NextToken
text_or zero b = if b == byte.line_feed then Ok (Eol, 1) else if b == byte.carriage_return then Ok (Eol, 2) else Ok (InterpolationStart, 2)
text_or (suc n) b = Ok (Text, suc n)

-- the token at the start, in the text of a body line
unfoldable pub body_token : List ℕ → NextToken
body_token rest = text_or (raw_len raw_texts.Body rest) (slice_index rest 0)

-- ---- the end of the text

-- at the end of the text: a dedent for each open level, then `Eof`
abbrev pub levels_end : List (List ℕ) → NextToken
levels_end levels = if is_empty levels then Ok (Eof, 0) else Ok (Dedent, 0)

-- at the end of the text an open interpolation is an error; open delimiters aren't
abbrev pub at_end_by : Option Tok → List (List ℕ) → NextToken
at_end_by (Some t) levels = Err (Unclosed t)
at_end_by None levels = levels_end levels

-- at the end of the text
abbrev pub end_token : Mode → NextToken
end_token m = at_end_by m.interpolation m.levels

-- ---- the regions of a line

-- the text of a body line, an interpolation in it, or the outside of bodies
pub data Region : Type 0 where
  InText : Region
  InInterpolation : Region
  OutsideText : Region

-- the region by `in_body` and the open interpolation, which takes precedence
abbrev pub region_by : Bool → Option Tok → Region
region_by in_body (Some t) = InInterpolation
region_by true None = InText
region_by false None = OutsideText

-- in an interpolation: `}}` ends it if no delimiter is open
abbrev pub interpolated : Mode → List ℕ → NextToken
interpolated m rest = if is_empty m.openers && is_interpolation_end rest then Ok (InterpolationEnd, 2) else token_outside_text m rest

-- the next token in this region
abbrev pub token_in_region : Region → Mode → List ℕ → NextToken
token_in_region InText m rest = body_token rest
token_in_region InInterpolation m rest = interpolated m rest
token_in_region OutsideText m rest = token_outside_text m rest

-- the next token, other than a dedent, an indent, or the blanks at the start of a line
unfoldable pub token_within_line : Mode → List ℕ → NextToken
token_within_line m rest = token_in_region (region_by m.in_body m.interpolation) m rest

-- ---- dedents, indents, and the blanks at the start of a line

-- a whitespace token of this many blanks, or the next token if there are none
abbrev pub blanks_or : ℕ → Mode → List ℕ → NextToken
blanks_or zero m rest = token_within_line m rest
blanks_or (suc n) m rest = Ok (Whitespace, suc n)

-- the leading blanks that can't mix spaces and tabs: in a body the first ones, as many as the level has, and otherwise all of them
abbrev pub tested_blanks : Mode → List ℕ → List ℕ
tested_blanks m found = if m.in_body then take (length (innermost m)) found else found

-- the blanks are those of an open level, or none
abbrev pub is_level : List (List ℕ) → List ℕ → Bool
is_level levels found = is_empty found || list_any (λ l. bytes_eq l found) levels

-- the line is blank: after its blanks there is a line end or the end of the text
abbrev pub begins_blank_line : List ℕ → Bool
begins_blank_line following = is_line_end following || is_empty following

-- The token at column 0, from the blanks found there and the text after them, by the first case that applies: a delimiter or an
-- interpolation is open; the line is blank, and levels may close; the blanks are the current level; they are another open level, so the
-- current one closes; in a body they begin with the level; they mix spaces and tabs; they don't begin with the level; they are a new level.
unfoldable pub layout : Mode → (found following rest : List ℕ) → NextToken
layout m found following rest =
    if nested m then blanks_or (length found) m rest
    else if begins_blank_line following then (if not (is_empty m.levels) && closes_levels false rest then Ok (Dedent, 0) else blanks_or (length found) m rest)
    else if bytes_eq found (innermost m) then blanks_or (length found) m rest
    else if is_level m.levels found then Ok (Dedent, 0)
    else if m.in_body && starts_with nat_eq found (innermost m) then blanks_or (length (innermost m)) m rest
    else if is_mixed (tested_blanks m found) then Err (Here (MixedLeadingWhitespace (tested_blanks m found)) 0 (length (tested_blanks m found)))
    else if not (starts_with nat_eq found (innermost m)) then Err (Here (InconsistentLeadingWhitespace (innermost m) found) 0 (length found))
    else Ok (Indent, length found)

-- the next token at column 0
abbrev pub at_line_start : Mode → List ℕ → NextToken
at_line_start m rest = layout m (take (blank_len rest) rest) (drop (blank_len rest) rest) rest

-- the next token, if the text doesn't end here
abbrev pub next_by : Bool → Mode → List ℕ → NextToken
next_by true m rest = at_line_start m rest
next_by false m rest = token_within_line m rest

-- the next token
unfoldable pub next : Mode → List ℕ → NextToken
next m [] = end_token m
next m (b ∷ bs) = next_by m.line_start m (b ∷ bs)
