use Rattle.std.proofs.Common.{◌∙◌, arith, ap, map}
use Rattle.justfile_parse_docs.proofs.KeptItems.{all_taken, cut_fields}
use Rattle.justfile_parse_item.specs.Tree.{item_tree}
use Rattle.justfile_parse_docs.proofs.docs.take_docs.Goals as goal

pub returns-clause-trees : goal.returns-clause-trees
returns-clause-trees c =
    ap (map item_tree) c.truncate.ensures.items
    ∙ all_taken c.loop-index.items.items c.loop-index.kept c.loop-index.index (omega arith) _ c.loop-index.invariant.trees

pub returns-clause-fields : goal.returns-clause-fields
returns-clause-fields c = cut_fields c.loop-index.items.items _ _ c.truncate.ensures.items c.loop-index.invariant.fields
