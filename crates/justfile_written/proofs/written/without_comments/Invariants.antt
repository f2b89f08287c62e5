use Rattle.std.proofs.Common.{◌≡◌, map}
use Rattle.justfile_written.specs.Written.{uncommented}
use Rattle.justfile_written.proofs.written.without_comments.Given as goal

abbrev pub invariant-loop-attribute : goal.invariant-loop-attribute
invariant-loop-attribute g l = l.written.items ≡ map uncommented l.yielded
