use Rattle.std.proofs.Common.{◌≡◌, List, [], map}
use Rattle.justfile_item.specs.declared.item.Item.{Item}
use Rattle.justfile_parse_docs.specs.Docs.{with_items}
use Rattle.justfile_parse_expression.specs.View.{tokens_left, state_of}
use Rattle.justfile_parse_item.specs.DerivedFields.{HaveDerivedFields}
use Rattle.justfile_parse_item.specs.Tree.{item_tree}
use Rattle.justfile_parse_docs.proofs.Loop.{IsReadTo}
use Rattle.justfile_parse_docs.proofs.items.parse_items.Given as goal

-- the items that were read, without docs, and with them
abbrev pub invariant-lines : goal.invariant-lines
invariant-lines g l = record {
  plain : List Item;
  read : IsReadTo (state_of g.X.Expander.answer l.fn.parser) (state_of g.X.Expander.answer l.parser) l.fn.numerator l.numerator plain;
  documents : map item_tree l.items.items ≡ with_items [] (map item_tree plain);
  fields : HaveDerivedFields l.items.items;
}

abbrev pub decreases-lines : goal.decreases-lines
decreases-lines g l = tokens_left l.parser
