use Rattle.std.proofs.Common.{List, OnOk, map, subst}
use Rattle.justfile_attribute.specs.declared.attribute.Attribute.{Attribute}
use Rattle.justfile_parse_attribute.specs.Attributes.{entry_of_pair}
use Rattle.justfile_parse_attribute.specs.Labels.{AreKnown}
use Rattle.justfile_parse_attribute.proofs.KnownLabels.{known_or_same}
use Rattle.justfile_parse_attribute.proofs.read_attributes.push_checked.Goals as goal
use Rattle.justfile_written.specs.declared.written.Written.{Written}

pub returns-in-Ok-clause-labels : goal.returns-in-Ok-clause-labels
returns-in-Ok-clause-labels c =
    let P : List (Attribute × Written) → Type 0 = λ pairs. OnOk c.check_last.result (AreKnown c.check_last.new.labels (map entry_of_pair pairs)) in
    known_or_same c.check_last.result c.args.labels.now c.check_last.new.labels (map entry_of_pair c.add_attribute.new.attributes.items)
    (subst P c.as_slice.ensures.value c.check_last.ensures.known) c.check_last.ensures.kept
