use Rattle.std.proofs.Common.{◌≡◌, ◌∙◌, ◌||◌, ap, not}
use Rattle.std.specs.List.{list_any}
use Rattle.justfile_vocabulary.specs.AttributeKind.{is_enabler_kind}
use Rattle.justfile_attribute_set.proofs.Firsts.{any_firsts}
use Rattle.justfile_attribute_set.specs.AttributeSet.{attributes_of}
use Rattle.justfile_attribute_set.specs.Attributes.{kind_of}
use Rattle.justfile_attribute_set.specs.Pairs.{Pair}
use Rattle.justfile_attribute_set.proofs.attribute_set.PairSet+Attribute+Written.is_enabled.Goals as goal

pub returns : goal.returns
returns c =
    let names_any : c.has_enabler.result ≡ list_any (λ a. is_enabler_kind (kind_of a)) (attributes_of c.args.self.now) =
    c.has_enabler.ensures ∙ ap (list_any (λ (p : Pair). is_enabler_kind (kind_of p.0))) c.deref.ensures.value
    ∙ any_firsts (λ a. is_enabler_kind (kind_of a)) c.args.self.now.pairs.items in
    c.enables_here.ensures ∙ (λ i. not (names_any i) || c.contains.ensures i || c.contains-2.ensures i)
