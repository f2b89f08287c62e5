use Rattle.std.proofs.Common.{◌≡◌, ◌∙◌, sym}
use Rattle.justfile_attribute_set.specs.AttributeSet.{leaf_entries_of, written_of}
use Rattle.justfile_model.specs.Trees.ContentKeys.{has_attribute}
use Rattle.justfile_parse_item.proofs.Constructs.{has_seen}
use Rattle.justfile_parse_item.proofs.attribute_checks.has_both.Goals as goal

pub returns-then-contains : goal.returns-then-contains
returns-then-contains c =
    let pairs = written_of c.args.attributes.now in
    let first : has_attribute c.args.first (leaf_entries_of c.args.attributes.now) ≡ c.contains.result = sym (has_seen c.args.first pairs) ∙ sym c.contains.ensures in
    rw (first ∙ c.if-contains.true) (c.contains-then-contains.ensures ∙ has_seen c.args.second pairs)

pub returns-else-contains : goal.returns-else-contains
returns-else-contains c =
    let pairs = written_of c.args.attributes.now in
    let first : has_attribute c.args.first (leaf_entries_of c.args.attributes.now) ≡ c.contains.result = sym (has_seen c.args.first pairs) ∙ sym c.contains.ensures in
    rw (first ∙ c.if-contains.false) c.if-contains.false
