use Rattle.std.proofs.Common.{ap, arith, length, refl, subst, sym}
use Rattle.std.specs.Prelude.{IfOk}
use Rattle.justfile_survey.specs.Parts.{GoesOn}
use Rattle.justfile_survey.specs.declared.recovery.Found.{Found}
use Rattle.justfile_survey.proofs.Kept.{parsed, rejected}
use Rattle.justfile_survey.proofs.recovery.parse_up_to.Goals as goal
use Rattle.justfile_survey.proofs.recovery.parse_up_to.Goals.{in-None, in-Some}

pub returns : goal.returns
returns c =
    let found : Found = record { items = c.parse.new.items; errors = c.args.found.now.errors; course = c.args.found.now.course } in
    elim c.match-branch-2.branch [
      | in-None w ↦ subst (λ r. IfOk r (GoesOn c.args.source.path.now c.args.source.text.now c.args.part found)) (sym w.result-is) (
        parsed c.args.source.path.now c.args.source.text.now c.args.found.now found c.args.part.start c.last_start-end.result
            (record { start = c.args.part.start; end = c.last_start-end.result }) c.in_ok-parse.field-0 c.requires.parts refl (omega arith) (omega arith) (omega arith)
            (omega (arith, c.last_start-end.ensures.within, ap length c.as_bytes-bytes.ensures.value)) c.in_ok-parse.ensures,
        omega arith,
      )
      | in-Some w ↦ subst (λ r. IfOk r (GoesOn c.args.source.path.now c.args.source.text.now c.args.part found)) (sym w.result-is)
          (rejected c.args.source.path.now c.args.source.text.now c.args.found.now found c.args.part.start
          (record { start = c.args.part.start; end = c.last_start-end.result }) c.in_ok-parse.field-0 _ c.requires.parts refl w.in-Some.is c.in_ok-parse.ensures)
    ]
