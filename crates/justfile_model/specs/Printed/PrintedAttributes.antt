-- A shape as a written shape, as it is printed: each attribute by the name of its kind, with its printed arguments and its comment, and
-- docs as comments.
use Rattle.std.specs.Prelude.{ℕ, List, [], ◌∷◌, map, Option, Some, None}
use Rattle.justfile_vocabulary.specs.AttributeKind.{attribute_name}
use Rattle.justfile_model.specs.Trees.ContentKeys.{kind_of_attribute}
use Rattle.justfile_model.specs.Grammars.Docs.{redocumented}
use Rattle.justfile_model.specs.Printed.Printing.{attribute_arguments, doc_comment, fixed_text, shown_doc}
use Rattle.justfile_model.specs.Trees.Tree.{Comment, Construct, Entry, Item, Newline, OrderedItem, Shape, WrittenAttribute, WrittenItem, WrittenShape}

abbrev pub rewritten_entry : Entry (List ℕ) (Unit {0}) → WrittenAttribute (List ℕ) (Unit {0})
rewritten_entry e = record {
  name = fixed_text (attribute_name (kind_of_attribute e.attribute));
  arguments = attribute_arguments e.attribute;
  comment = e.comment;
}

abbrev pub rewritten_entries : List (Entry (List ℕ) (Unit {0})) → List (WrittenAttribute (List ℕ) (Unit {0}))
rewritten_entries entries = map rewritten_entry entries

-- items after a doc comment, if there is a doc
abbrev pub after_doc : {A B C S D : Type 0} → Option (List ℕ) → List (Item A B C S D) → List (Item A B C S D)
after_doc None items = items
after_doc (Some doc) items = Comment (doc_comment doc) ∷ Newline ∷ items

-- an item before others, with its doc as a comment before it
abbrev pub doc_written : {A B C : Type 0} → OrderedItem A B C → List (OrderedItem A B C) → List (OrderedItem A B C)
doc_written Newline items = Newline ∷ items
doc_written (Comment text) items = Comment text ∷ items
doc_written (Construct entries content) items = after_doc (shown_doc entries content) (Construct entries (redocumented None content) ∷ items)

-- items with their docs as comments
abbrev pub docs_written : {A B C : Type 0} → List (OrderedItem A B C) → List (OrderedItem A B C)
docs_written [] = []
docs_written (i ∷ items) = doc_written i (docs_written items)

-- an item without a doc, with its attributes as they are printed
abbrev pub rewritten_item : OrderedItem (List ℕ) (Unit {0}) (Unit {0}) → WrittenItem (List ℕ) (Unit {0}) (Unit {0}) (Unit {0})
rewritten_item Newline = Newline
rewritten_item (Comment text) = Comment text
rewritten_item (Construct entries content) = Construct (rewritten_entries entries) content

abbrev pub rewritten : Shape → WrittenShape
rewritten s = map rewritten_item (docs_written s)
