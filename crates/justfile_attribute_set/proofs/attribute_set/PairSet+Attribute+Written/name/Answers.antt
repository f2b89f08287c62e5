use Rattle.std.proofs.Common.{◌∙◌, ap, find, sym}
use Rattle.std.specs.Option.{option_copied, option_map}
use Rattle.justfile_attribute_set.proofs.Named.{name_found}
use Rattle.justfile_attribute_set.specs.Pairs.{Pair, same}
use Rattle.justfile_attribute_set.proofs.attribute_set.PairSet+Attribute+Written.name.Goals as goal

pub returns-in-Some : goal.returns-in-Some
returns-in-Some c =
    ap (option_map (λ (p : Pair). p.1.name))
    (ap option_copied (sym c.in-Some.is) ∙ c.find_key.ensures ∙ ap (find (λ (p : Pair). same c.args.attribute.now p.0)) c.deref.ensures.value)
    ∙ name_found (same c.args.attribute.now) c.args.self.now.pairs.items

pub returns-in-None : goal.returns-in-None
returns-in-None c =
    ap (option_map (λ (p : Pair). p.1.name))
    (ap option_copied (sym c.in-None.is) ∙ c.find_key.ensures ∙ ap (find (λ (p : Pair). same c.args.attribute.now p.0)) c.deref.ensures.value)
    ∙ name_found (same c.args.attribute.now) c.args.self.now.pairs.items
