use Rattle.std.proofs.Common.{refl, rules, []}
use Rattle.justfile_format.proofs.Buffers.{emptied, ends_err, ends_ok}
use Rattle.justfile_format.specs.Buffered.{held}
use Rattle.justfile_format.proofs.formatting.print_buffered.Goals as goal

pub returns-clause-ok : goal.returns-clause-ok
returns-clause-ok g c =
    let last = c.print_all.new.buffer in
    ends_ok g.W.Write.contents c.args.writer.now last.writer.now _ last.writer.ghost_name last.passed [] (held last) _ refl _
    (λ same. search rules) c.print_all.result (emptied last c.print_all.result c.print_all.ensures.empty) c.print_all.ensures.ok

pub returns-clause-err : goal.returns-clause-err
returns-clause-err g c =
    let last = c.print_all.new.buffer in
    ends_err g.W.Write.contents c.args.writer.now last.writer.now _ last.writer.ghost_name last.passed [] (held last) _ refl _
    (λ same. search rules) c.print_all.result c.print_all.ensures.err
