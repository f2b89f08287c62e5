use Rattle.std.proofs.Common.{arith}
use Rattle.std.proofs.lemmas.Result.{err_from_is_err_and}
use Rattle.justfile_parse_expression.specs.View.{state_of}
use Rattle.justfile_parse_header.proofs.Dependencies.{subsequents_fail, subsequents_missing, subsequents_read}
use Rattle.justfile_parse_header.proofs.dependency.parse_subsequents.Goals as goal

pub returns-in_err-parse_dependencies : goal.returns-in_err-parse_dependencies
returns-in_err-parse_dependencies g c =
    let A = g.X.Expander.answer in
    let p = err_from_is_err_and c.from_residual.result c.from_residual.ensures.1 in
    rw (p.1, p.2)
    (subsequents_fail c.args.dependencies.now.items (state_of A c.args.parser.now) c.in-Some._operator.now (state_of A c.accept.new.self) c.in-Some.ensures.takes
    c.in_err-parse_dependencies.field-0.0 (state_of A c.parse_dependencies.new.parser) c.in_err-parse_dependencies.ensures)

pub returns-then-len-priors : goal.returns-then-len-priors
returns-then-len-priors g c =
    let A = g.X.Expander.answer in
    let new = c.parse_dependencies.new.dependencies in
    subsequents_missing c.args.dependencies.now.items (state_of A c.args.parser.now) c.in-Some._operator.now (state_of A c.accept.new.self) c.in-Some.ensures.takes
    new.items (state_of A c.parse_dependencies.new.parser) c.in_ok-parse_dependencies.ensures
    (omega (arith, c.len-priors.ensures, c.len.ensures, c.args.dependencies.now.ok.0, new.ok.0, c.if-len-priors.true))

pub returns : goal.returns
returns g c =
    let A = g.X.Expander.answer in
    let new = c.parse_dependencies.new.dependencies in
    subsequents_read c.args.dependencies.now.items (state_of A c.args.parser.now) c.in-Some._operator.now (state_of A c.accept.new.self) c.in-Some.ensures.takes
    new.items (state_of A c.parse_dependencies.new.parser) c.in_ok-parse_dependencies.ensures
    (λ same. absurd (omega (arith, same, c.len-priors.ensures, c.len.ensures, c.args.dependencies.now.ok.0, new.ok.0, c.if-len-priors.false)))
