-- Removes the indentation that the lines of a text share.
use Rattle.std.specs.Prelude.{◌≡◌, ◌≤◌, ℕ, Bool, true, false, not, ◌||◌, ◌==◌, nat_eq, List, [], ◌∷◌, ◌++◌, map, drop, length, codes, filter, take_while, if◌then◌else◌}
use Rattle.std.specs.List.{All, list_all, onto_first, ends_with}
use Rattle.justfile_vocabulary.specs.Indentation.{is_space_or_tab}
use Rattle.justfile_vocabulary.specs.ByteNames as byte

-- the lines, each with its line feed, and none of them empty
abbrev pub lines_of_text : List ℕ → List (List ℕ)
lines_of_text [] = []
lines_of_text (b ∷ bs) = if b == byte.line_feed then (b ∷ []) ∷ lines_of_text bs else onto_first b (lines_of_text bs)

-- a space, a tab, CR or LF
abbrev pub is_white : ℕ → Bool
is_white b = is_space_or_tab b || b == byte.carriage_return || b == byte.line_feed

-- the line consists of such bytes
abbrev pub is_blank_line : List ℕ → Bool
is_blank_line line = list_all is_white line

-- the spaces and tabs at the start
abbrev pub leading_blanks : List ℕ → List ℕ
leading_blanks line = take_while is_space_or_tab line

-- the byte is the first one
abbrev pub is_first : ℕ → List ℕ → Bool
is_first b [] = false
is_first b (c ∷ cs) = b == c

-- the longest prefix of the text that all the others have, too
abbrev pub shared_front : List ℕ → List (List ℕ) → List ℕ
shared_front [] others = []
shared_front (b ∷ bs) others = if list_all (is_first b) others then b ∷ shared_front bs (map (drop 1) others) else []

-- the longest common prefix of the texts; empty if there are no texts
abbrev pub common_front : List (List ℕ) → List ℕ
common_front [] = []
common_front (first ∷ more) = shared_front first more

-- the longest run of blanks with which all lines begin, except blank lines
abbrev pub indentation : List (List ℕ) → List ℕ
indentation ls = common_front (map leading_blanks (filter (λ line. not (is_blank_line line)) ls))

-- The first text is a prefix of the second.
abbrev pub IsFront : List ℕ → List ℕ → Type 0
IsFront front text = text ≡ front ++ drop (length front) text

-- The line begins with the run, or is blank.
abbrev pub IsIndented : List ℕ → List ℕ → Type 0
IsIndented run line = is_blank_line line ≡ false → IsFront run line

-- The run of blanks is the longest one with which all lines begin, except blank lines. It is empty if all lines are blank.
pub record IsLongestRun (run : List ℕ) (ls : List (List ℕ)) : Type 0 where
  pub blank : list_all is_space_or_tab run ≡ true
  pub shared : All (IsIndented run) ls
  pub longest : (other : List ℕ) → list_all is_space_or_tab other ≡ true → All (IsIndented other) ls → list_all is_blank_line ls ≡ false → length other ≤ length run
  pub none : list_all is_blank_line ls ≡ true → run ≡ []

-- the line end: a carriage return and a line feed, or a line feed alone
abbrev pub kept_line_end : List ℕ → List ℕ
kept_line_end line = if ends_with nat_eq line (codes "\r\n") then codes "\r\n" else codes "\n"

module _ (run : List ℕ) where
  -- a line without its indentation; a blank line keeps its line end in the middle of the text, and nothing as the first or last line
  abbrev pub outer_line : List ℕ → List ℕ
  outer_line line = if is_blank_line line then [] else drop (length run) line

  abbrev pub middle_line : List ℕ → List ℕ
  middle_line line = if is_blank_line line then kept_line_end line else drop (length run) line

  -- the lines after the first, joined
  abbrev pub later_lines : List (List ℕ) → List ℕ
  later_lines [] = []
  later_lines (last ∷ []) = outer_line last
  later_lines (line ∷ next ∷ more) = middle_line line ++ later_lines (next ∷ more)

  -- all the lines, joined
  abbrev pub joined : List (List ℕ) → List ℕ
  joined [] = []
  joined (first ∷ following) = outer_line first ++ later_lines following

-- the text without the indentation that its lines share
unfoldable pub unindented : List ℕ → List ℕ
unindented text = joined (indentation (lines_of_text text)) (lines_of_text text)
