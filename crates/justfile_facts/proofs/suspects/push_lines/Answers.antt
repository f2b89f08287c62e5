use Rattle.std.proofs.Common.{arith}
use Rattle.justfile_facts.proofs.Bodies.{all_lines, one_line}
use Rattle.justfile_facts.proofs.suspects.push_lines.Goals as goal

pub loop-line-preserved : goal.loop-line-preserved
loop-line-preserved c =
    one_line c.args.shell c.args.lines.now c.loop-line.line-index c.line-item.result (omega arith) c.line-item.is c.loop-line.continues c.is_continued-continues.result _ _ _ c.loop-line.invariant
    c.in_ok-push_line.ensures c.is_continued-continues.ensures

pub returns : goal.returns
returns c = all_lines c.args.shell c.args.lines.now c.loop-line.line-index (omega arith) c.loop-line.continues _ _ c.loop-line.invariant
