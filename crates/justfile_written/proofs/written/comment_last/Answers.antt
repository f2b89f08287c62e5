use Rattle.std.proofs.Common.{arith, ◌∙◌, sym}
use Rattle.justfile_written.proofs.Lasts.{comment_set}
use Rattle.justfile_written.proofs.written.comment_last.Goals as goal

pub returns-then-count-gt0 : goal.returns-then-count-gt0
returns-then-count-gt0 g c =
    comment_set c.args.comment c.args.pairs.now _ c.index-pairs-count.result (sym c.is_some.ensures ∙ c.if-is_some.true) (omega arith)
