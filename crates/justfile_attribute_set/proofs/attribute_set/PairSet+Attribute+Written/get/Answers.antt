use Rattle.std.proofs.Common.{◌∙◌, ap, find, sym}
use Rattle.std.specs.Option.{option_copied, option_map}
use Rattle.justfile_attribute_set.proofs.Firsts.{find_firsts}
use Rattle.justfile_attribute_set.specs.Attributes.{is_of_kind}
use Rattle.justfile_attribute_set.specs.Pairs.{Pair}
use Rattle.justfile_attribute_set.proofs.attribute_set.PairSet+Attribute+Written.get.Goals as goal

pub returns-in-Some : goal.returns-in-Some
returns-in-Some c =
    ap (option_map (λ (p : Pair). p.0))
    (ap option_copied (sym c.in-Some.is) ∙ c.first_of_kind.ensures ∙ ap (find (λ (p : Pair). is_of_kind c.args.kind p.0)) c.deref.ensures.value)
    ∙ find_firsts (is_of_kind c.args.kind) c.args.self.now.pairs.items

pub returns-in-None : goal.returns-in-None
returns-in-None c =
    ap (option_map (λ (p : Pair). p.0))
    (ap option_copied (sym c.in-None.is) ∙ c.first_of_kind.ensures ∙ ap (find (λ (p : Pair). is_of_kind c.args.kind p.0)) c.deref.ensures.value)
    ∙ find_firsts (is_of_kind c.args.kind) c.args.self.now.pairs.items
