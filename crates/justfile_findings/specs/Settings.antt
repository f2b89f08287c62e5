-- Where a setting can be added.
use Rattle.std.specs.Prelude.{ℕ, ◌+◌, ◌==◌, ◌||◌, ◌++◌, Bool, not, List, [], ◌∷◌, codes, cond, length, nat_eq, nat_lt}
use Rattle.std.specs.List.{prefix_len, starts_with}

-- a byte order mark
abbrev pub mark : List ℕ
mark = 239 ∷ 187 ∷ 191 ∷ []

abbrev pub begins_with_mark : List ℕ → Bool
begins_with_mark text = starts_with nat_eq text mark

-- the first line says by what the file is run
abbrev pub has_shebang : List ℕ → Bool
has_shebang text = starts_with nat_eq text (codes "#!") || starts_with nat_eq text (mark ++ codes "#!")

-- how many bytes the first line has, with its line feed if it has one
abbrev pub line_len : List ℕ → ℕ
line_len text = let end = prefix_len (λ b. not (b == 10)) text in cond (nat_lt end (length text)) (end + 1) end

-- at the beginning of a text, but after a byte order mark, and after such a first line
abbrev pub setting_place : List ℕ → ℕ
setting_place text = cond (has_shebang text) (line_len text) (cond (begins_with_mark text) 3 0)
