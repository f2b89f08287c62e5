-- What is shown of what is called.
use Rattle.std.specs.Prelude.{ℕ, ◌+◌, ◌==◌, ◌||◌, ◌++◌, Bool, List, [], ◌∷◌, codes, cond, nat_lt}
use Rattle.std.specs.List.{join_by}
use Rattle.editor_messages.specs.declared.answer.LabelPart.{LabelPart}

-- texts with another one between each two
abbrev pub joined : (between : List ℕ) → List (List ℕ) → List ℕ
joined between texts = join_by (λ (t : List ℕ). t) between texts

-- a function as it is called
abbrev pub function_label : (name : List ℕ) (parameters : List (List ℕ)) → List ℕ
function_label name parameters = name ++ (codes "(" ++ (joined (codes ", ") parameters ++ codes ")"))

-- a recipe as a dependency names it
abbrev pub recipe_label : (name : List ℕ) (parameters : List (List ℕ)) → List ℕ
recipe_label name parameters = joined (codes " ") (name ∷ parameters)

-- a blank, a parenthesis or a comma
abbrev pub is_mark : ℕ → Bool
is_mark b = b == 32 || b == 40 || b == 41 || b == 44

-- the part from one offset up to another one, if it isn't empty
abbrev pub part : (start end : ℕ) → List LabelPart
part start end = cond (nat_lt start end) (record { start = start; end = end } ∷ []) []

-- the parts without marks in the rest of a label from an offset on; the first of them begins at the start
abbrev pub parts_from : (start offset : ℕ) → List ℕ → List LabelPart
parts_from start offset [] = part start offset
parts_from start offset (b ∷ bs) = cond (is_mark b) (part start offset ++ parts_from (offset + 1) (offset + 1) bs) (parts_from start (offset + 1) bs)
