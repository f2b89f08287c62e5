use Rattle.std.specs.Fmt.{HasWritten, IsPlainFormatter}
use Rattle.std.specs.List.{repeat}
use Rattle.justfile_message.specs.Columns.{width_among}
use Rattle.justfile_message.proofs.columns.write_columns.Given as goal

-- the columns of the characters so far are written
abbrev pub invariant-loop-place : goal.invariant-loop-place
invariant-loop-place g l =
    IsPlainFormatter l.initial.f → HasWritten g.W.Write.write_str_gives l.initial.f (repeat (width_among l.start l.count l.yielded) l.text) l.f
