use Rattle.std.proofs.Common.{map}
use Rattle.justfile_attribute_set.specs.AttributeSet.{leaf_entries_of}
use Rattle.justfile_parse_attribute.specs.Attributes.{entry_of_pair}
use Rattle.justfile_parse_item.proofs.Constructs.{is_disallowed, pair_fields}
use Rattle.justfile_parse_item.proofs.attribute_checks.check_allowed.Goals as goal

pub returns-clause-reads : goal.returns-clause-reads
returns-clause-reads c =
    λ s. is_disallowed c.args.item (map entry_of_pair c.args.attributes.items) c.args.name.now s (leaf_entries_of c.in_ok-set.set)
    (c.in_ok-set.ensures.entries (pair_fields c.args.attributes.items c.requires.fields)) c.in-Err.error c.rule_error.result
    c.in-Err.ensures.invalid c.rule_error.ensures
