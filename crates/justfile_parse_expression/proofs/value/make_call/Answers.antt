use Rattle.justfile_parse_expression.proofs.Rows.{call_is}
use Rattle.justfile_parse_expression.proofs.value.make_call.Goals as goal

pub returns : goal.returns
returns c = call_is c.args.name c.args.arguments
