use Rattle.std.proofs.KnownBytes.{Appends-kept}
use Rattle.justfile_format.proofs.Buffers.{all_of, anyway, kept, part_of}
use Rattle.justfile_format.proofs.formatting.print_all.Goals as goal

pub returns-in_err-print_to-clause-err : goal.returns-in_err-print_to-clause-err
returns-in_err-print_to-clause-err g c = anyway c.from_residual.result (part_of _ _ _ c.in_err-print_to.ensures.err)

pub returns-in-Ok-clause-ok : goal.returns-in-Ok-clause-ok
returns-in-Ok-clause-ok g c =
    Appends-kept _ _ _ _ c.in_ok-print_to.ensures.ok (kept g.W.Write.contents c.print_to.new.writer c.pass_on.new.self c.in-Ok.ensures.some)

pub returns-in-Err-clause-err : goal.returns-in-Err-clause-err
returns-in-Err-clause-err g c =
    all_of _ _ _
    (Appends-kept _ _ _ _ c.in_ok-print_to.ensures.ok (kept g.W.Write.contents c.print_to.new.writer c.pass_on.new.self c.in-Err.ensures.some))
