use Rattle.std.proofs.Common.{subst, sym}
use Rattle.std.proofs.lemmas.Result.{err_from_is_err_and}
use Rattle.justfile_model.specs.Readers.ReaderState.{NoNumber}
use Rattle.justfile_parse_expression.specs.View.{state_of}
use Rattle.justfile_parse_base.specs.Counting.{counters_of}
use Rattle.justfile_parse_item_parts.proofs.NumberedNames.{IsReadTo, begins, ends, goes_on, errs}
use Rattle.justfile_parse_item_parts.proofs.parameter_names.parse_parameter_names.Goals as goal

pub names-init : goal.names-init
names-init g c =
    let s = state_of g.X.Expander.answer c.args.parser.now in
    subst (IsReadTo s s c.args.numerator.now c.args.numerator.now) (sym c.new-parameters.ensures.items) (begins s c.args.numerator.now)

pub returns-in_err-parse_next_name-clause-reads : goal.returns-in_err-parse_next_name-clause-reads
returns-in_err-parse_next_name-clause-reads g c =
    let A = g.X.Expander.answer in
    let p = err_from_is_err_and c.from_residual.result c.from_residual.ensures.1 in
    rw (p.1, p.2)
    (errs (state_of A c.args.parser.now) (state_of A c.names.parser) c.args.numerator.now c.names.numerator c.names.parameters.items c.names.invariant
    c.in_err-parse_next_name.field-0.0 (state_of A c.parse_next_name.new.parser) (NoNumber (counters_of c.parse_next_name.new.numerator)) c.in_err-parse_next_name.ensures.reads)

pub returns-then-branch-clause-reads : goal.returns-then-branch-clause-reads
returns-then-branch-clause-reads g c =
    let A = g.X.Expander.answer in
    let h = c.in_ok-parse_next_name.ensures in
    ends (state_of A c.args.parser.now) (state_of A c.names.parser) c.args.numerator.now c.names.numerator c.names.parameters.items c.names.invariant
    c.parse_next_name.new.parameters.items c.parse_next_name.new.numerator (state_of A c.parse_next_name.new.parser) h.numbers (rw c.if-branch.true at h.reads)

pub names-preserved : goal.names-preserved
names-preserved g c =
    let A = g.X.Expander.answer in
    let h = c.in_ok-parse_next_name.ensures in
    goes_on (state_of A c.args.parser.now) (state_of A c.names.parser) c.args.numerator.now c.names.numerator c.names.parameters.items c.names.invariant
    c.parse_next_name.new.parameters.items c.parse_next_name.new.numerator (state_of A c.parse_next_name.new.parser) h.numbers (rw c.if-branch.false at h.reads)
