use Rattle.std.specs.Fmt.{digits_output}
use Rattle.justfile_message.proofs.ShownLemmas.{written_digits}
use Rattle.justfile_message.proofs.shown.write_four_digits.Goals as goal

pub returns : goal.returns
returns g c =
    let written = rw c.laid_out.ensures at c.write.ensures.writes in
    rw (written_digits (digits_output c.in_radix.result) c.args.number c.in_radix.ensures) at written
