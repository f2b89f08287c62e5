use Rattle.std.proofs.Common.{◌∙◌, ap, sym}
use Rattle.std.specs.Option.{option_map}
use Rattle.justfile_attribute_rules.specs.Made.{quoted_leaf}
use Rattle.justfile_parse_attribute.specs.Attributes.{arguments_of}
use Rattle.justfile_parse_attribute.proofs.GroupAttributes.{group_added, group_refused}
use Rattle.justfile_parse_attribute.proofs.new_attribute.push_group.Goals as goal

pub returns-in-Some-clause-added : goal.returns-in-Some-clause-added
returns-in-Some-clause-added c =
    let call = c.push_group_named in
    group_added c.args.name.token (arguments_of c.args.arguments) c.into_single-value.result c.into_single-value.ensures c.in-Some.literal call.result c.args.name c.args.attributes.now.items call.new.attributes.items
    (sym (ap (option_map quoted_leaf) c.in-Some.is) ∙ c.literal_of.ensures) call.ensures.added

pub returns-in-None-clause-added : goal.returns-in-None-clause-added
returns-in-None-clause-added c =
    group_refused c.args.name.token (arguments_of c.args.arguments) c.into_single-value.result c.into_single-value.ensures c.not_literal_fault.result
    (sym (ap (option_map quoted_leaf) c.in-None.is) ∙ c.literal_of.ensures) c.not_literal_fault.ensures
