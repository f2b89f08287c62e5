-- The printed doc of a construct depends on its attributes.
use Rattle.std.proofs.Common.{◌≡◌, ℕ, Bool, true, false, List, [], ◌∷◌, ◌++◌, ◌||◌, map, Option, None, refl, sym, ap, if◌then◌else◌}
use Rattle.std.specs.Prelude.{String, string_bytes}
use Rattle.std.specs.Global.{Global}
use Rattle.std.specs.List.{list_any}
use Rattle.std.specs.Option.{option_map}
use Rattle.justfile_vocabulary.specs.declared.attribute_kind.AttributeKind.{AttributeKind}
use Rattle.justfile_vocabulary.specs.declared.attribute_kind.AttributeKind.TheVariants as kinds
use Rattle.justfile_model.specs.Meanings.AttributeKinds.{same_attribute}
use Rattle.justfile_model.specs.Trees.ContentKeys.{has_attribute, kind_of_attribute}
use Rattle.justfile_model.specs.Printed.Printing.{doc_line, entries_text, if_some, item_text}
use Rattle.justfile_model.specs.Trees.Tree.{Entry, lexeme, nothing, over_attribute, over_entry}
use Rattle.justfile_model.proofs.Meanings.SameViewRules.{kind_over}
use Rattle.justfile_attribute.specs.Attribute.{attribute_of}
use Rattle.justfile_attribute.specs.declared.attribute.Attribute.{Attribute}
use Rattle.justfile_attribute_set.specs.AttributeSet.{AttributeSet, attributes_of, written_of}
use Rattle.justfile_attribute_set.specs.Attributes.{has_kind, is_of_kind, kind_of}
use Rattle.justfile_attribute_set.specs.Keys.{firsts}
use Rattle.justfile_attribute_set.specs.Pairs.{Pair, entry_of}
use Rattle.justfile_item.specs.Attributes.{attributes_text, entry_shapes}
use Rattle.justfile_item.specs.Doc.{shown_doc_of}
use Rattle.justfile_item.specs.Item.{item_shape}
use Rattle.justfile_item.specs.ItemText.{bare_text, item_attributes, item_doc_text}
use Rattle.justfile_item.specs.declared.item.Item.{Item}
use Rattle.justfile_item.specs.declared.item.Item.TheVariants as items

-- an attribute and its shape are of the same kind
kind_shown : (kind : AttributeKind) (a : Attribute) → same_attribute (kind_of_attribute (over_attribute lexeme nothing (attribute_of a))) kind ≡ is_of_kind kind a
unfolding kind_of
kind_shown kind a = ap (λ k. same_attribute k kind) (kind_over lexeme nothing (attribute_of a))

pairs_shown : (kind : AttributeKind) (pairs : List Pair) → has_attribute kind (map (over_entry lexeme nothing) (map entry_of pairs)) ≡ list_any (is_of_kind kind) (firsts pairs)
pairs_shown kind [] = refl
pairs_shown kind (p ∷ ps) = λ i. kind_shown kind p.0 i || pairs_shown kind ps i

-- a set has an attribute of a kind exactly if its shapes have
has_shown : (kind : AttributeKind) (set : AttributeSet) → has_attribute kind (entry_shapes set) ≡ has_kind kind (attributes_of set)
has_shown kind set = pairs_shown kind (written_of set)

-- the printed doc of a construct, from the attributes of its set
pub shown_doc_is : (set : AttributeSet) (doc : Option (String Global)) → shown_doc_of set doc ≡ (if has_kind kinds.Doc (attributes_of set) then None else option_map string_bytes doc)
shown_doc_is set doc = ap (λ (b : Bool). if b then None else option_map string_bytes doc) (has_shown kinds.Doc set)

either_way : (b : Bool) (o : Option (List ℕ)) → (if b then o else o) ≡ o
either_way true o = refl
either_way false o = refl

-- an item without a doc is printed without one
no_doc : (entries : List (Entry (List ℕ) (Unit {0}))) (text : List ℕ)
    → if_some doc_line (if has_attribute kinds.Doc entries then None else None) ++ entries_text entries ++ text ≡ entries_text entries ++ text
no_doc entries text = ap (λ (o : Option (List ℕ)). if_some doc_line o ++ entries_text entries ++ text) (either_way (has_attribute kinds.Doc entries) None)

-- the text of an item: its doc, its attributes, and the rest
pub item_parts : (i : Item) (indentation : List ℕ)
    → item_doc_text i ++ if_some attributes_text (item_attributes i) ++ bare_text i indentation ≡ item_text (item_shape i) indentation
item_parts (items.Alias a) indentation = sym (no_doc (entry_shapes a.attributes) (bare_text (items.Alias a) indentation))
item_parts (items.Assignment a) indentation = sym (no_doc (entry_shapes a.attributes) (bare_text (items.Assignment a) indentation))
item_parts (items.Comment text) indentation = refl
item_parts (items.Function f) indentation = sym (no_doc (entry_shapes f.attributes) (bare_text (items.Function f) indentation))
item_parts (items.Import attributes optional relative) indentation = sym (no_doc (entry_shapes attributes) (bare_text (items.Import attributes optional relative) indentation))
item_parts (items.Module attributes doc name optional relative) indentation = refl
item_parts items.Newline indentation = refl
item_parts (items.Recipe r) indentation = refl
item_parts (items.Setting s) indentation = sym (no_doc (entry_shapes s.attributes) (bare_text (items.Setting s) indentation))
item_parts (items.Unexport attributes name) indentation = sym (no_doc (entry_shapes attributes) (bare_text (items.Unexport attributes name) indentation))
