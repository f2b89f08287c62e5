use Rattle.std.proofs.Common.{map}
use Rattle.std.proofs.lemmas.Result.{err_from_is_err_and}
use Rattle.justfile_parse_attribute.specs.Attributes.{entry_of_pair}
use Rattle.justfile_parse_expression.specs.View.{state_of}
use Rattle.justfile_parse_attribute.proofs.AttributeSteps.{arguments_fail, kind_fails}
use Rattle.justfile_parse_attribute.proofs.attributes.parse_attribute.Goals as goal

pub returns-in_err-kind-clause-reads : goal.returns-in_err-kind-clause-reads
returns-in_err-kind-clause-reads g c =
    let A = g.X.Expander.answer in
    let p = err_from_is_err_and c.from_residual-in_err-kind.result c.from_residual-in_err-kind.ensures.1 in
    rw (p.1, p.2)
    (kind_fails (map entry_of_pair c.args.attributes.now.pairs.items) (state_of A c.args.parser.now) c.in_ok-name.name.now (state_of A c.expect.new.self) c.in_err-kind.field-0.0
    c.in_ok-name.ensures.reads c.in_err-kind.ensures)

pub returns-in_err-arguments-clause-reads : goal.returns-in_err-arguments-clause-reads
returns-in_err-arguments-clause-reads g c =
    let A = g.X.Expander.answer in
    let p = err_from_is_err_and c.from_residual-in_err-arguments.result c.from_residual-in_err-arguments.ensures.1 in
    rw (p.1, p.2)
    (arguments_fail (map entry_of_pair c.args.attributes.now.pairs.items) (state_of A c.args.parser.now) c.in_ok-name.name.now (state_of A c.expect.new.self) c.in_ok-kind.kind
    c.accepts_keyword_arguments.result (state_of A c.parse_arguments.new.parser) c.in_err-arguments.field-0.0
    c.in_ok-name.ensures.reads c.in_ok-kind.ensures c.accepts_keyword_arguments.ensures c.in_err-arguments.ensures.reads)
