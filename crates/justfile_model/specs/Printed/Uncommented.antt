-- The printed text of shapes in which no attribute and no recipe has a comment: the line of an attribute is its brackets only, and a recipe
-- is its header and body.
use Rattle.std.specs.Prelude.{◌≡◌, ℕ, List, [], ◌∷◌, ◌++◌, codes, None}
use Rattle.std.specs.List.{flat_map}
use Rattle.justfile_model.specs.Printed.Printing.{alias_text, assignment_text, attribute_text, body_text, doc_line, fixed_text, function_text, header_text, if_some, import_text, item_end, module_text, setting_text, shown_doc}
use Rattle.justfile_model.specs.Trees.Tree.{Alias, Assignment, Comment, Construct, Content, Entry, Function, Import, Module, Newline, OrderedItem, Recipe, RecipeParts, Setting, Shape, Unexport}

-- an attribute on a line of its own
abbrev pub uncommented_entry : Entry (List ℕ) (Unit {0}) → List ℕ
uncommented_entry e = fixed_text (codes "[") ++ attribute_text e.attribute ++ fixed_text (codes "]\n")

abbrev pub uncommented_entries : List (Entry (List ℕ) (Unit {0})) → List ℕ
uncommented_entries = flat_map uncommented_entry

abbrev pub uncommented_recipe : RecipeParts (List ℕ) (Unit {0}) (Unit {0}) (Unit {0}) → (indentation : List ℕ) → List ℕ
uncommented_recipe r indentation = header_text r.header ++ body_text indentation r.body

abbrev pub uncommented_content : Content (List ℕ) (Unit {0}) (Unit {0}) (Unit {0}) → (indentation : List ℕ) → List ℕ
uncommented_content (Alias parts) indentation = alias_text parts
uncommented_content (Assignment parts) indentation = assignment_text parts
uncommented_content (Function parts) indentation = function_text parts
uncommented_content (Import parts) indentation = import_text parts
uncommented_content (Module parts) indentation = module_text parts
uncommented_content (Recipe parts) indentation = uncommented_recipe parts indentation
uncommented_content (Setting parts) indentation = setting_text parts
uncommented_content (Unexport name) indentation = fixed_text (codes "unexport ") ++ name

abbrev pub uncommented_item : OrderedItem (List ℕ) (Unit {0}) (Unit {0}) → (indentation : List ℕ) → List ℕ
uncommented_item Newline indentation = []
uncommented_item (Comment text) indentation = text
uncommented_item (Construct entries content) indentation =
    if_some doc_line (shown_doc entries content) ++ uncommented_entries entries ++ uncommented_content content indentation

-- the text of a file
abbrev pub uncommented_text : Shape → (indentation : List ℕ) → List ℕ
uncommented_text [] indentation = []
uncommented_text (i ∷ items) indentation = uncommented_item i indentation ++ item_end i items ++ uncommented_text items indentation

-- ---- where this is the printed text

abbrev pub HasNoEntryComments : {A B : Type 0} → List (Entry A B) → Type 0
HasNoEntryComments [] = Unit {0}
HasNoEntryComments (e ∷ entries) = (e.comment ≡ None) × HasNoEntryComments entries

-- there is no comment between the header and the body of a recipe
abbrev pub HasNoBodyComment : {A B C S : Type 0} → Content A B C S → Type 0
HasNoBodyComment (Alias parts) = Unit {0}
HasNoBodyComment (Assignment parts) = Unit {0}
HasNoBodyComment (Function parts) = Unit {0}
HasNoBodyComment (Import parts) = Unit {0}
HasNoBodyComment (Module parts) = Unit {0}
HasNoBodyComment (Recipe parts) = parts.comment ≡ None
HasNoBodyComment (Setting parts) = Unit {0}
HasNoBodyComment (Unexport name) = Unit {0}

abbrev pub HasNoItemComments : {A B C : Type 0} → OrderedItem A B C → Type 0
HasNoItemComments Newline = Unit {0}
HasNoItemComments (Comment text) = Unit {0}
HasNoItemComments (Construct entries content) = HasNoEntryComments entries × HasNoBodyComment content

-- no attribute and no recipe has a comment
abbrev pub HasNoComments : {A B C : Type 0} → List (OrderedItem A B C) → Type 0
HasNoComments [] = Unit {0}
HasNoComments (i ∷ items) = HasNoItemComments i × HasNoComments items
