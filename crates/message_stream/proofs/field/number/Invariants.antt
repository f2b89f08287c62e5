use Rattle.std.proofs.Common.{◌≡◌, ◌≤◌, take}
use Rattle.message_stream.specs.declared.field.TheConstants.{MOST}
use Rattle.message_stream.specs.Field.{number}
use Rattle.message_stream.proofs.field.number.Given as goal

abbrev pub invariant-loop-digit : goal.invariant-loop-digit
invariant-loop-digit l = record { is : l.number ≡ number (take l.digit-index l.digits); bound : l.number ≤ MOST }
