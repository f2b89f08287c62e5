-- Items without docs, properties of their comments, and properties of each item of the normal form.
use Rattle.std.proofs.Common.{◌≡◌, ℕ, List, [], ◌∷◌, None}
use Rattle.std.specs.List.{AllByRecursion}
use Rattle.justfile_model.specs.Grammars.Docs.{doc_of}
use Rattle.justfile_model.specs.Printed.NormalShape.{after_newline, normal, normal_rest}
use Rattle.justfile_model.specs.Trees.Tree.{Comment, Construct, Item, Newline, OrderedItem, Shape}

module _ {A B C S D : Type 0} where
  -- a construct without a doc, or no construct
  abbrev pub IsPlain : Item A B C S D → Type 0
  IsPlain Newline = Unit {0}
  IsPlain (Comment text) = Unit {0}
  IsPlain (Construct attributes content) = doc_of content ≡ None

  -- of the text of an item that is a comment
  abbrev pub InComment : (List ℕ → Type 0) → Item A B C S D → Type 0
  InComment P Newline = Unit {0}
  InComment P (Comment text) = P text
  InComment P (Construct attributes content) = Unit {0}

-- ---- the normal form

-- what holds of each item, and of a line end, holds of each item of the normal form
module _ (P : OrderedItem (List ℕ) (Unit {0}) (Unit {0}) → Type 0) (newline : P Newline) where
  newline_first : (s : Shape) → AllByRecursion P s → AllByRecursion P (after_newline s)
  newline_first (Newline ∷ []) h = h
  newline_first (Newline ∷ Newline ∷ s) h = h
  newline_first _ h = (newline, h)

  each_rest : (s : Shape) → AllByRecursion P s → AllByRecursion P (normal_rest s)
  each_rest [] h = (newline, tt)
  each_rest (Newline ∷ s) h = newline_first (normal_rest s) (each_rest s h.1)
  each_rest (i ∷ s) h = (h.0, each_rest s h.1)

  pub each_normal : (s : Shape) → AllByRecursion P s → AllByRecursion P (normal s)
  each_normal [] h = h
  each_normal (i ∷ s) h = each_rest (i ∷ s) h
