use Rattle.std.proofs.Common.{ap, arith, length, refl}
use Rattle.justfile_survey.proofs.Kept.{parsed}
use Rattle.justfile_survey.proofs.recovery.take.Goals as goal

pub returns-in-None-clause-parts : goal.returns-in-None-clause-parts
returns-in-None-clause-parts c =
    parsed c.args.source.path.now c.args.source.text.now c.args.found.now _ c.args.start c.part_end-end.result (record { start = c.args.start; end = c.part_end-end.result })
    c.in_ok-parse.field-0 c.requires.parts refl (omega arith) (omega arith) (omega arith) (omega (arith, c.part_end-end.ensures.within, ap length c.as_bytes.ensures.value)) c.in_ok-parse.ensures
