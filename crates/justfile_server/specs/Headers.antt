-- The headers of items.
use Rattle.std.specs.Prelude.{ℕ, ◌+◌, ◌-◌, ◌==◌, ◌||◌, Bool, not, List, [], ◌∷◌, Option, None, Some, codes, cond, drop, length, min, nat_eq, take}
use Rattle.std.specs.List.{prefix_len, starts_with, suffix_len}
use Rattle.editor_language.specs.declared.parts.Span.{Span}
use Rattle.justfile_server.specs.Signs.{is_blank}

abbrev pub is_quote : ℕ → Bool
is_quote b = b == 34 || b == 39 || b == 96

-- the quote that is open after a byte, if one is
abbrev pub quote_after : Option ℕ → ℕ → Option ℕ
quote_after None b = cond (is_quote b) (Some b) None
quote_after (Some quote) b = cond (quote == b) None (Some quote)

-- a header ends with its line, or before a colon that isn't quoted
abbrev pub ends_header : Option ℕ → ℕ → Bool
ends_header None b = b == 10 || b == 58
ends_header (Some quote) b = b == 10

-- how many bytes the header has that begins with a text, where this quote is open, if one is
abbrev pub header_len : Option ℕ → List ℕ → ℕ
header_len quote [] = 0
header_len quote (b ∷ text) = cond (ends_header quote b) 0 (1 + header_len (quote_after quote b) text)

-- where the header ends of what is defined at an offset
abbrev pub header_end : (text : List ℕ) (start : ℕ) → ℕ
header_end text start = let at = min start (length text) in at + header_len None (drop at text)

-- a header that ends at an offset is that of an alias
abbrev pub is_alias : (text : List ℕ) (end : ℕ) → Bool
is_alias text end = starts_with nat_eq (drop end text) (codes ":=")

abbrev pub is_of_target : ℕ → Bool
is_of_target b = not (b == 10 || b == 13 || b == 35)

-- where the target of an alias ends: with its line, or before a comment
abbrev pub target_end : (text : List ℕ) (end : ℕ) → ℕ
target_end text end = end + prefix_len is_of_target (drop end text)

-- where the blanks begin that a text has before an offset
abbrev pub before_blanks : (text : List ℕ) (end : ℕ) → ℕ
before_blanks text end = end - suffix_len is_blank (take end text)

-- what is shown of a recipe or an alias that is defined at an offset: of a recipe its header, and of an alias its target
abbrev pub recipe_span : (text : List ℕ) (start : ℕ) → Span
recipe_span text start =
    let end = header_end text start in
    cond (is_alias text end) (record { start = end; end = before_blanks text (target_end text end) }) (record { start = start; end = before_blanks text end })

-- where the header of a function ends
abbrev pub function_end : (text : List ℕ) (start : ℕ) → ℕ
function_end text start = before_blanks text (header_end text start)
