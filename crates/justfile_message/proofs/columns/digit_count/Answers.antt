use Rattle.std.proofs.Common.{length, arith, ap, lit<}
use Rattle.std.proofs.lemmas.Fmt.{decimal_digit, length-decimal-le_wide}
use Rattle.justfile_message.proofs.ColumnLemmas.{length-decimal_step}
use Rattle.justfile_message.proofs.columns.digit_count.Goals as goal

pub overflow_add-count : goal.overflow_add-count
overflow_add-count c =
    let i = c.loop-rest.invariant in
    let most = length-decimal-le_wide 64 c.args.number (lit< tt) (omega (arith, c.ranges.number.fits)) (omega (arith, c.ranges.number.fits)) in
    omega (arith, i.digits, most)

pub loop-rest-preserved : goal.loop-rest-preserved
loop-rest-preserved c =
    let i = c.loop-rest.invariant in
    record {
      fits = omega (arith, i.fits);
      digits = omega (arith, i.digits, length-decimal_step c.loop-rest.rest c.loop-rest-test.true i.fits);
    }

pub returns : goal.returns
returns c =
    let i = c.loop-rest.invariant in
    omega (arith, i.digits, ap length (decimal_digit c.loop-rest.rest c.loop-rest-test.false))
