use Rattle.std.proofs.Common.{arith}
use Rattle.justfile_model.specs.Lexing.Bytes.{is_name_byte}
use Rattle.justfile_scan.proofs.LaneLemmas.{run_stops, run_goes_on}
use Rattle.justfile_scan.proofs.bytes.word_len.Goals as goal

pub returns-then-run-lt-LANES : goal.returns-then-run-lt-LANES
returns-then-run-lt-LANES c = run_stops is_name_byte c.args.bytes.now c.loads.at 16 c.word_run-run.result c.loads.invariant (omega (arith, c.loads-test.true, c.loads.invariant.within)) c.word_run-run.ensures (omega (arith, c.if-run-lt-LANES.true))

pub loads-preserved : goal.loads-preserved
loads-preserved c = run_goes_on is_name_byte c.args.bytes.now c.loads.at 16 c.word_run-run.result c.loads.invariant (omega (arith, c.loads-test.true, c.loads.invariant.within)) c.word_run-run.ensures (omega (arith, c.if-run-lt-LANES.false))
