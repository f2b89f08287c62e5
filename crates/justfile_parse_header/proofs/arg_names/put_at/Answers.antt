use Rattle.std.proofs.Common.{◌∙◌, sym}
use Rattle.justfile_parse_header.proofs.Firsts.{free_put, taken_put}
use Rattle.justfile_parse_header.proofs.arg_names.put_at.Goals as goal

pub returns-then-contains_key : goal.returns-then-contains_key
returns-then-contains_key c = taken_put c.args.name.now c.args.attribute.now c.args.firsts.now (sym c.contains_key.ensures ∙ c.if-contains_key.true)

pub returns-in-Ok : goal.returns-in-Ok
returns-in-Ok c =
    free_put c.args.name.now c.args.attribute c.args.firsts.now c.insert.new.self (sym c.contains_key.ensures ∙ c.if-contains_key.false) c.in-Ok.ensures.updates
