use Rattle.justfile_parse_expression.specs.View.{state_of}
use Rattle.justfile_parse_header.proofs.Variadics.{name_follows}
use Rattle.justfile_parse_header.proofs.parameter.expect_no_name.Goals as goal

pub returns-in-Some : goal.returns-in-Some
returns-in-Some g c =
    name_follows (state_of g.X.Expander.answer c.args.parser.now) c.in-Some.field-0.now _ c.rule_error.result c.after_variadic_fault.result
    c.in-Some.ensures.takes c.rule_error.ensures c.after_variadic_fault.ensures
