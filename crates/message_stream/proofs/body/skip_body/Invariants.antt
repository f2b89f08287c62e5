use Rattle.message_stream.proofs.Headers.{Skipped}
use Rattle.message_stream.proofs.body.skip_body.Given as goal

abbrev pub invariant-pieces : goal.invariant-pieces
invariant-pieces g l = Skipped l.count l.left (g.R.Read.remaining l.initial.input) (g.R.Read.remaining l.input)

abbrev pub decreases-pieces : goal.decreases-pieces
decreases-pieces g l = l.left
