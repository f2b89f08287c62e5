-- Printing from left to right: the separators between items.
use Rattle.std.specs.Prelude.{ℕ, Bool, true, false, List, [], ◌∷◌, ◌++◌, codes}
use Rattle.justfile_model.specs.Trees.Tree as tree
use Rattle.justfile_model.specs.Trees.Tree.{OrderedItem, Shape}
use Rattle.justfile_model.specs.Printed.Printing.{item_text}
use Rattle.justfile_ast.specs.declared.separator.Separator.{Separator}
use Rattle.justfile_ast.specs.declared.separator.Separator.TheVariants.{Start, Item, Line, Blank}

-- the text of a separator
abbrev pub separator_text : Separator → List ℕ
separator_text Start = []
separator_text Item = codes " "
separator_text Line = codes "\n"
separator_text Blank = codes "\n\n"

-- a separator with one more line end; at most two are printed
abbrev pub with_line_end : Separator → Separator
with_line_end Start = Line
with_line_end Item = Line
with_line_end Line = Blank
with_line_end Blank = Blank

abbrev pub ItemShape : Type 0
ItemShape = OrderedItem (List ℕ) (Unit {0}) (Unit {0})

-- whether an item is the end of a line
abbrev pub is_line_end : ItemShape → Bool
is_line_end tree.Newline = true
is_line_end _ = false

-- the separator after an item
abbrev pub next_separator : Separator → ItemShape → Separator
next_separator separator tree.Newline = with_line_end separator
next_separator separator _ = Item

-- what is printed for an item after a separator; a line end becomes part of the separator before the next item
abbrev pub step_text : (indentation : List ℕ) → Separator → ItemShape → List ℕ
step_text indentation separator tree.Newline = []
step_text indentation separator i = separator_text separator ++ item_text i indentation

-- what is printed for items after a separator
abbrev pub front_text : (indentation : List ℕ) → Separator → Shape → List ℕ
front_text indentation separator [] = []
front_text indentation separator (i ∷ items) = step_text indentation separator i ++ front_text indentation (next_separator separator i) items

-- the separator after items
abbrev pub last_separator : Separator → Shape → Separator
last_separator separator [] = separator
last_separator separator (i ∷ items) = last_separator (next_separator separator i) items

-- the end of a file: a line end, unless it has no items
abbrev pub end_text : {X : Type 0} → List X → List ℕ
end_text [] = []
end_text (i ∷ items) = codes "\n"
