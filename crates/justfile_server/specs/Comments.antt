-- The comments above items.
use Rattle.std.specs.Prelude.{ℕ, ◌+◌, ◌-◌, ◌==◌, ◌&&◌, ◌||◌, Bool, List, cond, drop, length, min, nat_lt, slice_index, take}
use Rattle.std.specs.List.{prefix_len, slice_range, suffix_len}
use Rattle.editor_language.specs.declared.parts.Span.{Span}
use Rattle.justfile_server.specs.Signs.{is_blank, is_in_line}

-- where the line of an offset begins
abbrev pub line_start : (text : List ℕ) (offset : ℕ) → ℕ
line_start text offset = offset - suffix_len is_in_line (take offset text)

abbrev pub is_of_end : ℕ → Bool
is_of_end b = b == 32 || b == 9 || b == 13

-- how many bytes a line has without the blanks at its end
abbrev pub comment_len : (line : List ℕ) → ℕ
comment_len line = length line - suffix_len is_of_end line

-- what the comment says that a line is, from its first byte that is no blank on; it is empty if the line is none
abbrev pub comment_in : (text : List ℕ) (start end : ℕ) → Span
comment_in text start end =
    cond (nat_lt start end && slice_index text start == 35)
    (record { start = start + 1 + prefix_len is_blank (drop (start + 1) text); end = start + comment_len (slice_range text start end) })
    (record { start = end; end = end })

-- what the comment says in the line above the one of an offset
abbrev pub comment_above : (text : List ℕ) (offset : ℕ) → Span
comment_above text offset = let end = line_start text (min offset (length text)) - 1 in comment_in text (line_start text end) end
