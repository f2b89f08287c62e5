use Rattle.std.proofs.Common.{◌∙◌, ap, find, sym}
use Rattle.std.specs.Option.{option_and_then, option_copied}
use Rattle.justfile_attribute_set.specs.Pairs.{Pair, same}
use Rattle.justfile_attribute_set.proofs.attribute_set.PairSet+Attribute+Written.comment.Goals as goal

pub returns-in-Some : goal.returns-in-Some
returns-in-Some c =
    ap (option_and_then (λ (p : Pair). p.1.comment))
    (ap option_copied (sym c.in-Some.is) ∙ c.find_key.ensures ∙ ap (find (λ (p : Pair). same c.args.attribute.now p.0)) c.deref.ensures.value)

pub returns-in-None : goal.returns-in-None
returns-in-None c =
    ap (option_and_then (λ (p : Pair). p.1.comment))
    (ap option_copied (sym c.in-None.is) ∙ c.find_key.ensures ∙ ap (find (λ (p : Pair). same c.args.attribute.now p.0)) c.deref.ensures.value)
