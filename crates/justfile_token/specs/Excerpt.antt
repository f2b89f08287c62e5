-- The excerpt of a token: its position, and its line with carets under the token. Positions count bytes, columns are those of a screen.
use Rattle.std.specs.Prelude.{ℕ, ◌+◌, max, List, ◌++◌, length, codes, decimal, encode_utf8_all}
use Rattle.std.specs.List.{repeat}
use Rattle.justfile_message.specs.Columns.{line_at, shown_line, width_in}
use Rattle.justfile_token.specs.declared.token.Token.{Token}

-- the number of the token's line, from 1
abbrev pub number_text : Token → List ℕ
number_text token = decimal (token.line + 1)

-- as many spaces as the number has digits
abbrev pub indent : Token → List ℕ
indent token = repeat (length (number_text token)) (codes " ")

-- the separator before a line of the excerpt
abbrev pub bar : List ℕ
bar = encode_utf8_all (codes " │")

abbrev pub arrow : List ℕ
arrow = encode_utf8_all (codes "——▶ ")

-- the path, the number of the line, and the number of the byte in the line, both from 1
abbrev pub place_line : Token → List ℕ
place_line token = indent token ++ arrow ++ token.path.now ++ codes ":" ++ number_text token ++ codes ":" ++ decimal (token.column + 1)

abbrev pub bar_line : Token → List ℕ
bar_line token = indent token ++ bar

-- a line after the number of the token's line
abbrev pub source_line : Token → List ℕ → List ℕ
source_line token line = number_text token ++ bar ++ codes " " ++ shown_line line

-- a caret under each column of the token in a line, but at least one; an empty token counts as one byte
abbrev pub caret_line : Token → List ℕ → List ℕ
caret_line token line =
    indent token ++ bar ++ codes " "
    ++ repeat (width_in line 0 token.column) (codes " ")
    ++ repeat (max 1 (width_in line token.column (max token.length 1))) (codes "^")

-- the excerpt of a token whose line this is
abbrev pub excerpt_on : Token → List ℕ → List ℕ
excerpt_on token line =
    place_line token ++ codes "\n" ++ bar_line token ++ codes "\n"
    ++ source_line token line ++ codes "\n" ++ caret_line token line

-- the line on which a token begins
abbrev pub line_of : Token → List ℕ
line_of token = line_at token.src.now token.line

abbrev pub excerpt_text : Token → List ℕ
excerpt_text token = excerpt_on token (line_of token)
