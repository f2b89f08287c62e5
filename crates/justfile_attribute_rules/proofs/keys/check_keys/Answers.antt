use Rattle.std.proofs.Common.{rules, ◌≡◌, ◌∷◌, false}
use Rattle.justfile_model.specs.Meanings.AttributeRules.{is_known}
use Rattle.justfile_attribute_rules.specs.Keys.{key_argument, views_keys}
use Rattle.justfile_attribute_rules.proofs.KeyLemmas.{Entry, here_refused}
use Rattle.justfile_attribute_rules.proofs.keys.check_keys.Goals as goal

pub returns-then-not-is_known : goal.returns-then-not-is_known
returns-then-not-is_known c =
    let entry : Entry = (c.in-Some.text.now, (c.in-Some.key, c.in-Some._value)) in
    let taken : c.loop-text.text-iterator ≡ entry ∷ c.next.new.self = search rules in
    let other : is_known views_keys c.args.name.token c.args.kind (key_argument entry) ≡ false = search rules in
    let refused = here_refused c.args.name.token c.args.kind c.args.keys.now c.into_iter-text-iterator.ensures.into_iter_gives.5 c.loop-text.text-iterator c.loop-text.invariant entry c.next.new.self taken other in
    rw refused (search rules)
