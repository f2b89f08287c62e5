use Rattle.std.proofs.Common.{◌∙◌, ap, sym}
use Rattle.std.specs.Option.{option_copied}
use Rattle.justfile_attribute_set.proofs.SeenKinds.{invalid_by, none_invalid}
use Rattle.justfile_attribute_set.proofs.attribute_set.PairSet+Attribute+Written.ensure_valid_attributes.Goals as goal

pub returns-in-None-clause-valid : goal.returns-in-None-clause-valid
returns-in-None-clause-valid c =
    none_invalid c.args.item_kind c.args.self.now.pairs.items (sym c.first_invalid.ensures ∙ ap option_copied c.in-None.is)

pub returns-in-Some-clause-invalid : goal.returns-in-Some-clause-invalid
returns-in-Some-clause-invalid c =
    invalid_by c.args.item_kind c.args.self.now.pairs.items c.in-Some.pair.now c.args.item_token c.kind_of.result c.error.result
    (sym c.first_invalid.ensures ∙ ap option_copied c.in-Some.is) c.kind_of.ensures c.error.ensures.token c.error.ensures.kind c.lexeme.ensures
