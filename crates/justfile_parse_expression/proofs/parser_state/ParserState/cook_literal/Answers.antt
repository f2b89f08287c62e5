use Rattle.justfile_parse_expression.proofs.Cooked.{string_given, string_refused}
use Rattle.justfile_parse_expression.proofs.parser_state.ParserState.cook_literal.Goals as goal

pub returns-in-Ok-clause-reads : goal.returns-in-Ok-clause-reads
returns-in-Ok-clause-reads g c = string_given g.X.Expander.answer c.args.self.now c.args.table_token.now c.args.expand c.in-Ok.literal c.in-Ok.ensures.ok

pub returns-in-Err-clause-reads : goal.returns-in-Err-clause-reads
returns-in-Err-clause-reads g c = string_refused g.X.Expander.answer c.args.self.now c.args.table_token.now c.args.expand c.in-Err.fault c.literal_error.result c.in-Err.ensures.err c.literal_error.ensures
