use Rattle.std.proofs.Common.{ap, arith, length, refl}
use Rattle.justfile_survey.proofs.Kept.{parsed}
use Rattle.justfile_survey.proofs.recovery.parse_longer.Goals as goal

pub returns-in-None : goal.returns-in-None
returns-in-None c = (
  parsed c.args.source.path.now c.args.source.text.now c.loop-round.found _ c.args.part.start c.next_start-end.result
      (record { start = c.args.part.start; end = c.next_start-end.result }) c.in_ok-parse.field-0 c.loop-round.invariant refl (omega arith) (omega arith) (omega arith)
      (omega (arith, c.next_start-end.ensures.within, ap length c.as_bytes-bytes.ensures.value)) c.in_ok-parse.ensures,
  omega arith,
)
