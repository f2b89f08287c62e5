use Rattle.std.proofs.lemmas.Result.{err_from_is_err_and}
use Rattle.justfile_parse_expression.specs.View.{state_of}
use Rattle.justfile_parse_header.specs.Tree.{rules_of}
use Rattle.justfile_parse_header.proofs.ParameterSteps.{no_variadic, then_no_name}
use Rattle.justfile_parse_header.proofs.parameter.parse_variadic.Goals as goal

pub returns-in_err-parse_parameter : goal.returns-in_err-parse_parameter
returns-in_err-parse_parameter g c =
    let A = g.X.Expander.answer in
    let p = err_from_is_err_and c.from_residual.result c.from_residual.ensures.1 in
    rw (p.1, p.2)
    (no_variadic (rules_of c.args.arg_attributes.now.attributes.now) c.args.kind _ _ _ _ _ (state_of A c.parse_parameter.new.parser) c.in_err-parse_parameter.field-0.0
    c.in_err-parse_parameter.ensures)

pub returns : goal.returns
returns g c =
    then_no_name (rules_of c.args.arg_attributes.now.attributes.now) c.args.kind _ _ _ _ _ (state_of g.X.Expander.answer c.parse_parameter.new.parser) c.expect_no_name.result
    c.in_ok-parse_parameter.ensures c.expect_no_name.ensures
