use Rattle.justfile_parse_expression.proofs.Cooked.{part_refused}
use Rattle.justfile_parse_expression.proofs.parser_state.ParserState.cook_part.Goals as goal

pub returns-in-Err : goal.returns-in-Err
returns-in-Err g c = record { reads = part_refused g.X.Expander.answer c.args.self.now c.args.table_token.now c.args.kind c.args.part c.in-Err.fault c.literal_error.result c.in-Err.ensures.err c.literal_error.ensures }
