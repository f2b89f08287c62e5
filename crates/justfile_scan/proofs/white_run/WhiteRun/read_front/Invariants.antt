use Rattle.justfile_scan.proofs.WhiteRunLemmas.{AfterWhite}
use Rattle.justfile_scan.proofs.white_run.WhiteRun.read_front.Given as goal

abbrev pub invariant-loop-at : goal.invariant-loop-at
invariant-loop-at l = AfterWhite l.bytes l.at l.closes
