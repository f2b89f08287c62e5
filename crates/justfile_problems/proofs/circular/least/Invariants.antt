use Rattle.std.proofs.Common.{◌<◌, length}
use Rattle.justfile_problems.proofs.circular.least.Given as goal

abbrev pub invariant-loop-index : goal.invariant-loop-index
invariant-loop-index l = l.least < length l.uses
