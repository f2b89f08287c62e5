use Rattle.std.proofs.Common.{◌≡◌, ℕ, List, get_or, subst, arith}
use Rattle.justfile_lines.specs.Positions.{byte_units}
use Rattle.justfile_lines.proofs.Walks.{stays, width_grows}
use Rattle.justfile_lines.proofs.walk.last_up_to.Goals as goal

pub returns-after-bytes-clause-column : goal.returns-after-bytes-clause-column
returns-after-bytes-clause-column c =
    omega (arith, width_grows c.args.encoding c.args.text.now c.bytes.last c.bytes.at c.bytes.invariant.passed, c.bytes.invariant.is, c.bytes.invariant.column)

pub returns-then-units-column-clause-column : goal.returns-then-units-column-clause-column
returns-then-units-column-clause-column c =
    omega (arith, width_grows c.args.encoding c.args.text.now c.bytes.last c.bytes.at c.bytes.invariant.passed, c.bytes.invariant.is, c.bytes.invariant.column)

pub returns-then-units-column-clause-last : goal.returns-then-units-column-clause-last
returns-then-units-column-clause-last c =
    λ other bound _ le.
    stays c.args.encoding c.args.text.now c.args.start c.bytes.at c.bytes.units c.args.column c.bytes.last c.byte_units-units.result c.bytes.invariant.latest c.bytes.invariant.is
    (omega arith) c.if-units-column.true
    (subst (λ (l : List ℕ). c.byte_units-units.result ≡ byte_units c.args.encoding (get_or l c.bytes.at 0)) c.as_bytes-bytes.ensures.value c.byte_units-units.ensures.exact)
    other bound le
