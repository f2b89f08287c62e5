-- The tests by which a loop over the tokens finds the cuts, and what it keeps of the earlier ones. IsCut of Chunks.antt is what they decide.
use Rattle.std.specs.Prelude.{ℕ, ◌+◌, ◌-◌, Bool, true, false, not, cond, ◌&&◌, nat_eq, Option, Some, None}
use Rattle.std.specs.Option.{option_or}
use Rattle.justfile_vocabulary.specs.declared.token_kind.TokenKind.{TokenKind}
use Rattle.justfile_vocabulary.specs.declared.token_kind.TokenKind.TheVariants.{BracketL, Comment, Dedent, Eof, Eol, Indent}
use Rattle.justfile_chunks.specs.Chunks.{ends_line, is_ignored}

-- the number of open levels after a token of this kind
abbrev pub depth_after : TokenKind → ℕ → ℕ
depth_after Indent depth = depth + 1
depth_after Dedent depth = depth - 1
depth_after _ depth = depth

-- the kind of the first token on the line of a token of this kind, if that line isn't ended
abbrev pub line_after : TokenKind → Option TokenKind → Option TokenKind
line_after kind line = cond (is_ignored kind) line (cond (ends_line kind) None (option_or line (Some kind)))

-- what begins with this kind belongs to the line before: it is a body, or the end of the text
abbrev pub goes_on : Option TokenKind → Bool
goes_on (Some Indent) = true
goes_on (Some Eof) = true
goes_on _ = false

-- a line that begins with this kind is a comment, or blank
abbrev pub begins_no_item : Option TokenKind → Bool
begins_no_item (Some Comment) = true
begins_no_item (Some Eol) = true
begins_no_item _ = false

-- a line that begins with one kind belongs to the next one, which begins with the other
abbrev pub joins : (line next : Option TokenKind) → Bool
joins (Some BracketL) next = true
joins (Some Comment) next = not (begins_no_item next)
joins _ next = false

-- the text is cut after a token of this kind, at this depth after it, between lines that begin with these kinds
abbrev pub is_cut : TokenKind → ℕ → (line next : Option TokenKind) → Bool
is_cut kind depth line next = ends_line kind && nat_eq depth 0 && not (goes_on next) && not (joins line next)
