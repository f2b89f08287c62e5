-- The indentation of the lines of a body.
use Rattle.std.specs.Prelude.{◌≡◌, ◌<◌, ℕ, Bool, ◌||◌, ◌==◌, IsTrue, List, length, slice_index, All, codes, replicate, Option, Some, None, Result, MatchResult, if◌then◌else◌}
use Rattle.std.specs.Borrow.{Bor}
use Rattle.std.specs.List.{list_all}
use Rattle.justfile_vocabulary.specs.declared.indentation.Indentation.{Indentation}
use Rattle.justfile_vocabulary.specs.ByteNames as byte

-- a space or a tab
abbrev pub is_space_or_tab : ℕ → Bool
is_space_or_tab b = b == byte.space || b == byte.tab

-- the blank that is repeated
abbrev pub blank_of : Indentation → ℕ
blank_of i = i.character

-- how many copies of it there are
abbrev pub count_of : Indentation → ℕ
count_of i = i.count

abbrev pub indentation_text : Indentation → List ℕ
indentation_text i = replicate (count_of i) (blank_of i)

-- The text is one or more copies of the same blank.
pub record IsIndentation (text : List ℕ) : Type 0 where
  pub nonempty : 0 < length text
  pub equal : All (λ b. b ≡ slice_index text 0) text
  pub blank : IsTrue (is_space_or_tab (slice_index text 0))

-- why a text isn't an indentation
abbrev pub indentation_refusal : List ℕ → Option (List ℕ)
indentation_refusal text =
    if length text == 0 then Some (codes "indentation must not be empty")
    else if is_space_or_tab (slice_index text 0)
    then (if list_all (λ b. b == slice_index text 0) text then None else Some (codes "indentation may not be mixed"))
    else Some (codes "indentation must be spaces or tabs")

-- the result of parsing a text: the indentation with this text, or the reason why there is none
abbrev pub ReadsIndentation : List ℕ → Result Indentation (Bor (List ℕ)) → Type 0
ReadsIndentation text r = MatchResult r
    (λ i. (indentation_text i ≡ text) × (indentation_refusal text ≡ None))
    (λ message. indentation_refusal text ≡ Some message.now)
