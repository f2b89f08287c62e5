use Rattle.std.proofs.Common.{rules}
use Rattle.justfile_scan.proofs.WhiteRunLemmas.{run_ends, run_all}
use Rattle.justfile_scan.proofs.white_run.WhiteRun.read_front.Goals as goal

pub returns-then-not-is_white-clause-run : goal.returns-then-not-is_white-clause-run
returns-then-not-is_white-clause-run c = run_ends c.args.bytes.now c.loop-at.at c.loop-at.closes c.loop-at.invariant c.loop-at-test.true (search rules)

pub returns-clause-run : goal.returns-clause-run
returns-clause-run c = run_all c.args.bytes.now c.loop-at.at c.loop-at.closes c.loop-at.invariant (search rules)
