use Rattle.justfile_parse_attribute.proofs.DerivedFieldsKept.{added_fields}
use Rattle.justfile_parse_attribute.proofs.new_attribute.add_attribute.Goals as goal

pub returns-in-Ok-clause-fields : goal.returns-in-Ok-clause-fields
returns-in-Ok-clause-fields c = added_fields c.push_pair.result _ _ c.in-Ok.attribute c.args.name c.push_pair.ensures.added c.in-Ok.ensures.fields
