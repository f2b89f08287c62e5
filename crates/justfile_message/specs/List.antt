-- Lists of alternatives, as messages print them.
use Rattle.std.specs.Prelude.{ℕ, Bool, true, false, List, [], ◌∷◌, ◌++◌, codes, map, if◌then◌else◌}
use Rattle.justfile_message.specs.declared.list.List as lists

abbrev pub after_comma : List ℕ → List ℕ
after_comma text = codes ", " ++ text

-- the text before the last alternative, by whether that is the second one
abbrev pub last_separator : Bool → List ℕ
last_separator is_second = if is_second then codes " or " else codes ", or "

-- the alternatives after the first, each after its separator; the flag says whether the next one is the second one
abbrev pub following_text : Bool → List (List ℕ) → List ℕ
following_text is_second [] = []
following_text is_second (last ∷ []) = last_separator is_second ++ last
following_text is_second (next ∷ another ∷ rest) = after_comma next ++ following_text false (another ∷ rest)

abbrev pub other_text : List (List ℕ) → List ℕ
other_text = following_text true

-- `a`, `a or b`, `a, b, or c`, or the empty text if there is no alternative
abbrev pub or_text : List (List ℕ) → List ℕ
or_text [] = []
or_text (first ∷ others) = first ++ other_text others

-- the text between backticks
abbrev pub ticked_text : List ℕ → List ℕ
ticked_text text = codes "`" ++ text ++ codes "`"

abbrev pub item_text : Bool → List ℕ → List ℕ
item_text ticked text = if ticked then ticked_text text else text

-- the text of a list of alternatives with these texts
abbrev pub list_text : {X : Type 0} → (X → List ℕ) → lists.List X → List ℕ
list_text text list = or_text (map (λ item. item_text list.ticked (text item)) list.items.now)
