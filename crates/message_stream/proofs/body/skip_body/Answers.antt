use Rattle.std.proofs.Common.{◌-◌, arith}
use Rattle.message_stream.proofs.Headers.{skipped_more}
use Rattle.message_stream.proofs.body.skip_body.Goals as goal

pub pieces-preserved : goal.pieces-preserved
pieces-preserved g c =
    skipped_more _ _ _ c.args.count c.pieces.left c.in_ok-skipped.skipped (c.pieces.left - c.in_ok-skipped.skipped) c.pieces.invariant c.in_ok-skipped.ensures.skips
    (omega (arith, c.in_ok-skipped.ensures.bound))
