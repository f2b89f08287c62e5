use Rattle.message_stream.proofs.Headers.{Passed}
use Rattle.message_stream.specs.declared.header.TheConstants.{MOST_LINES}
use Rattle.std.proofs.Common.{◌-◌, ◌≤◌}
use Rattle.message_stream.proofs.header.read_header.Given as goal

abbrev pub invariant-lines : goal.invariant-lines
invariant-lines g l = Passed (g.R.Read.remaining l.initial.input) (g.R.Read.remaining l.input) l.count l.length × (l.count ≤ MOST_LINES)

abbrev pub decreases-lines : goal.decreases-lines
decreases-lines g l = MOST_LINES - l.count
