use Rattle.std.proofs.Common.{length}
use Rattle.justfile_completion.proofs.found.+found_after.Given as goal

abbrev pub decreases-found_after : goal.decreases-found_after
decreases-found_after l = length l.ends.now
