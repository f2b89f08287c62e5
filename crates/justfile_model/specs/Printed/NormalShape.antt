-- The normal form of a shape, which printing keeps: at most two line ends in a row between items, and one at the end.
use Rattle.std.specs.Prelude.{[], ◌∷◌}
use Rattle.justfile_model.specs.Trees.Tree.{Comment, Construct, Newline, Shape}

-- a line end before normalized items: dropped before the final one, and at most two before another item
abbrev pub after_newline : Shape → Shape
after_newline (Newline ∷ []) = Newline ∷ []
after_newline (Newline ∷ Newline ∷ items) = Newline ∷ Newline ∷ items
after_newline items = Newline ∷ items

-- the normal form of the remaining items, with one line end at the end
abbrev pub normal_rest : Shape → Shape
normal_rest [] = Newline ∷ []
normal_rest (Newline ∷ items) = after_newline (normal_rest items)
normal_rest (Comment text ∷ items) = Comment text ∷ normal_rest items
normal_rest (Construct attributes content ∷ items) = Construct attributes content ∷ normal_rest items

abbrev pub normal : Shape → Shape
normal [] = []
normal (i ∷ items) = normal_rest (i ∷ items)
