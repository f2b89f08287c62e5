use Rattle.justfile_parse_attribute.proofs.DerivedFieldsKept.{reserved_fields}
use Rattle.justfile_parse_attribute.proofs.new_attribute.push_plain.Goals as goal

pub returns-clause-fields : goal.returns-clause-fields
returns-clause-fields c =
    reserved_fields c.args.attributes.now.items c.reserve.new.self.items c.push_reserved.new.self.items c.plain_attribute.result _ c.reserve.ensures.items
    c.push_reserved.ensures.items c.plain_attribute.ensures.fields
