use Rattle.justfile_parse_attribute.proofs.KeysPut.{none_put, one_put}
use Rattle.justfile_parse_attribute.proofs.new_attribute.keys_by_text.Goals as goal

pub loop-given-init : goal.loop-given-init
loop-given-init c = none_put c.args.keyed.items c.new-keys.result c.new-keys.ensures.empty

pub loop-given-preserved : goal.loop-given-preserved
loop-given-preserved c =
    one_put c.args.keyed.items _ _ c.in-Some.given _ _ c.requires c.loop-given.invariant c.in-Some.ensures.items c.in_ok-insert_key.ensures.ok
