-- The meaning of written shapes as a function; attributes without a meaning are dropped.
use Rattle.std.proofs.Common.{◌≡◌, ℕ, List, [], ◌∷◌, map, Option, Some, None, refl, sym, ap, ◌∙◌}
use Rattle.std.specs.Option.{option_map}
use Rattle.justfile_model.proofs.Printed.PrintedItems.{content_starless}
use Rattle.justfile_model.specs.Grammars.Docs.{Nothing, documented}
use Rattle.justfile_model.specs.Grammars.Files.{ordered_item, ordered, sets_doc, undocumented}
use Rattle.justfile_model.specs.Meanings.Meaning.{entries_of}
use Rattle.justfile_model.specs.Trees.LeafView.{LeafView}
use Rattle.justfile_model.specs.Trees.Tree as tree
use Rattle.justfile_model.specs.Trees.Tree.{Construct, WrittenItem, WrittenShape, Shape}
use Rattle.justfile_model.proofs.Lists.Binds.{some_back}
use Rattle.justfile_model.proofs.Meanings.Ordered.{construct_meant, meanings_of}
use Rattle.justfile_round_trip.proofs.Canon.{ShapeItem}
use Rattle.justfile_round_trip.proofs.Attributes.CanonAttributes.{ShapeEntry}

-- an item as it is written
abbrev pub ShapeWritten : Type 0
ShapeWritten = WrittenItem (List ℕ) (Unit {0}) (Unit {0}) (Unit {0})

abbrev pub entries_or_none : Option (List ShapeEntry) → List ShapeEntry
entries_or_none None = []
entries_or_none (Some entries) = entries

module _ (view : LeafView (List ℕ) (Unit {0})) where
  abbrev pub meant_item : ShapeWritten → ShapeItem
  meant_item tree.Newline = tree.Newline
  meant_item (tree.Comment t) = tree.Comment t
  meant_item (Construct ws content) = Construct (entries_or_none (entries_of view ws)) content

  abbrev pub meant : WrittenShape → Shape
  meant = map meant_item

  item_meant : (i : ShapeWritten) (x : ShapeItem) → ordered_item view i ≡ Some x → x ≡ meant_item i
  item_meant tree.Newline x h = sym (some_back tree.Newline x h)
  item_meant (tree.Comment t) x h = sym (some_back (tree.Comment t) x h)
  item_meant (Construct ws content) x h =
      let m = construct_meant view ws content x h in
      m.item_is ∙ (λ i. Construct (entries_or_none (sym m.means i)) (content_starless content i))

  undocumented_meant : (items : WrittenShape) (all : Shape) → undocumented view items ≡ Some all → all ≡ meant items
  undocumented_meant [] all h = sym (some_back [] all h)
  undocumented_meant (i ∷ items) all h =
      let m = meanings_of view i items all h in
      m.all_are ∙ (λ j. item_meant i m.first m.first_is j ∷ undocumented_meant items m.others m.others_are j)

  -- the ordered shape is the meaning with its docs
  pub docs_meant : (items : WrittenShape) (all : Shape) → ordered view items ≡ Some all → all ≡ documented sets_doc Nothing (meant items)
  docs_meant items all h = by (undocumented view items) refl h
    where
      by : (o : Option Shape) → undocumented view items ≡ o → option_map (documented sets_doc Nothing) o ≡ Some all
          → all ≡ documented sets_doc Nothing (meant items)
      by None e h = cc
      by (Some plain) e h = sym (some_back (documented sets_doc Nothing plain) all h) ∙ ap (documented sets_doc Nothing) (undocumented_meant items plain e)
