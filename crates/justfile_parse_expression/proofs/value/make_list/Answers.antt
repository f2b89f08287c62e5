use Rattle.justfile_parse_expression.proofs.Rows.{list_is}
use Rattle.justfile_parse_expression.proofs.value.make_list.Goals as goal

pub returns : goal.returns
returns c = list_is c.args.elements c.args.opener
