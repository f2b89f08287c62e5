use Rattle.justfile_parse_expression.proofs.Rows.{format_is}
use Rattle.justfile_parse_expression.proofs.value.make_format_string.Goals as goal

pub returns : goal.returns
returns c = format_is c.args.start c.args.expressions
