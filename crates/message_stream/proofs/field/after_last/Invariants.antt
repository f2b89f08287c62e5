use Rattle.std.proofs.Common.{◌≡◌, ◌≤◌, ◌+◌, length, take}
use Rattle.std.specs.List.{suffix_len}
use Rattle.message_stream.specs.Field.{isnt}
use Rattle.message_stream.proofs.field.after_last.Given as goal

abbrev pub invariant-bytes : goal.invariant-bytes
invariant-bytes l = record { is : suffix_len (isnt l.byte) l.text + l.start ≡ length l.text + suffix_len (isnt l.byte) (take l.start l.text); bound : l.start ≤ length l.text }

abbrev pub decreases-bytes : goal.decreases-bytes
decreases-bytes l = l.start
