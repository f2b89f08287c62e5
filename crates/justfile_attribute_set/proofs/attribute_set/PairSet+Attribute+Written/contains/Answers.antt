use Rattle.std.proofs.Common.{◌∙◌, ap}
use Rattle.std.specs.List.{list_any}
use Rattle.justfile_attribute_set.proofs.Firsts.{any_firsts}
use Rattle.justfile_attribute_set.specs.Attributes.{is_of_kind}
use Rattle.justfile_attribute_set.specs.Pairs.{Pair}
use Rattle.justfile_attribute_set.proofs.attribute_set.PairSet+Attribute+Written.contains.Goals as goal

pub returns : goal.returns
returns c =
    c.has_kind.ensures ∙ ap (list_any (λ (p : Pair). is_of_kind c.args.kind p.0)) c.deref.ensures.value
    ∙ any_firsts (is_of_kind c.args.kind) c.args.self.now.pairs.items
