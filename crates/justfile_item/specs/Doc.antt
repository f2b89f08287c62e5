-- The printed docs of constructs.
use Rattle.std.specs.Prelude.{ℕ, List, Option, None, String, string_bytes, if◌then◌else◌}
use Rattle.std.specs.Global.{Global}
use Rattle.std.specs.Option.{option_map}
use Rattle.justfile_vocabulary.specs.declared.attribute_kind.AttributeKind.TheVariants.{Doc}
use Rattle.justfile_model.specs.Trees.ContentKeys.{has_attribute}
use Rattle.justfile_model.specs.Printed.Printing.{doc_line, if_some}
use Rattle.justfile_attribute_set.specs.AttributeSet.{AttributeSet}
use Rattle.justfile_item.specs.Attributes.{entry_shapes}

-- the doc that is printed: none if there is an attribute `doc`
abbrev pub shown_doc_of : AttributeSet → Option (String Global) → Option (List ℕ)
shown_doc_of attributes doc = if has_attribute Doc (entry_shapes attributes) then None else option_map string_bytes doc

-- the printed doc, as a comment on a line of its own
abbrev pub doc_text_of : AttributeSet → Option (String Global) → List ℕ
doc_text_of attributes doc = if_some doc_line (shown_doc_of attributes doc)
