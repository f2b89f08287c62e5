use Rattle.std.proofs.Common.{subst, sym}
use Rattle.justfile_attribute_set.specs.AttributeSet.{written_of}
use Rattle.justfile_attribute_set.specs.Keys.{keys_left}
use Rattle.justfile_parse_header.specs.Arguments.{HaveBoundKeys}
use Rattle.justfile_parse_header.specs.Tree.{rules_of}
use Rattle.justfile_parse_header.proofs.Firsts.{firsts_begin, firsts_go_on}
use Rattle.justfile_parse_header.proofs.arg_names.find_firsts.Goals as goal

pub attributes-init : goal.attributes-init
attributes-init c =
    firsts_begin (written_of c.args.attributes.now) c.new-firsts.result (keys_left c.iter-left.result) c.new-firsts.ensures.empty c.iter-left.ensures
    (subst HaveBoundKeys (sym c.iter-left.ensures) c.requires)

pub attributes-preserved : goal.attributes-preserved
attributes-preserved c =
    firsts_go_on (rules_of c.args.attributes.now) c.attributes.firsts (keys_left c.attributes.left) c.in-Some.attribute.now (keys_left c.next.new.self) c.in-Some.ensures.steps
    c.attributes.invariant c.put.new.firsts c.in_ok-put.ensures
