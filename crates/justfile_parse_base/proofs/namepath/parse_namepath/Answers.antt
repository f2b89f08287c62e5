use Rattle.std.proofs.lemmas.Result.{err_from_is_err_and}
use Rattle.justfile_parse_expression.specs.View.{state_of}
use Rattle.justfile_parse_base.proofs.Paths.{path_fails, path_stops}
use Rattle.justfile_parse_base.proofs.namepath.parse_namepath.Goals as goal

pub returns-in_err-first : goal.returns-in_err-first
returns-in_err-first g c =
    let A = g.X.Expander.answer in
    let p = err_from_is_err_and c.from_residual.result c.from_residual.ensures.1 in
    rw (p.1, p.2) (path_fails (state_of A c.args.parser.now) c.in_err-first.field-0.0 (state_of A c.expect.new.self) c.in_err-first.ensures.reads)

pub returns-in_err-name : goal.returns-in_err-name
returns-in_err-name g c =
    let A = g.X.Expander.answer in
    let p = err_from_is_err_and c.from_residual-in_err-name.result c.from_residual-in_err-name.ensures.1 in
    rw (p.1, p.2)
    (path_stops (state_of A c.args.parser.now) (state_of A c.names.parser) _ c.names.invariant _ (state_of A c.accept.new.self) c.in-Some.ensures.takes
    c.in_err-name.field-0.0 (state_of A c.expect-in-names.new.self) c.in_err-name.ensures.reads)
