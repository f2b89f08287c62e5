use Rattle.std.proofs.Common.{◌≡◌}
use Rattle.justfile_message.specs.Columns.{width_among}
use Rattle.justfile_message.proofs.columns.has_width.Given as goal

-- the characters so far take no column
abbrev pub invariant-loop-place : goal.invariant-loop-place
invariant-loop-place l = width_among l.start l.count l.yielded ≡ 0
