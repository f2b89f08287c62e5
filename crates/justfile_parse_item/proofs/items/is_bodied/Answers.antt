use Rattle.std.proofs.Common.{◌∙◌}
use Rattle.justfile_parse_item.proofs.Lines.{has_body_is}
use Rattle.justfile_parse_item.proofs.items.is_bodied.Goals as goal

pub returns : goal.returns
returns c = c.has_body.ensures ∙ has_body_is c.args.item.now
