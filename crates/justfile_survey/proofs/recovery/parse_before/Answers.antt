use Rattle.std.proofs.Common.{arith, refl}
use Rattle.justfile_survey.proofs.Kept.{parsed}
use Rattle.justfile_survey.proofs.recovery.parse_before.Goals as goal

pub returns-in_ok-parse : goal.returns-in_ok-parse
returns-in_ok-parse c =
    parsed c.args.source.path.now c.args.source.text.now c.args.found.now _ c.args.lines.start c.args.lines.end c.args.lines c.in_ok-parse.field-0 c.requires.parts refl (omega arith)
    c.requires.inside.forward (omega arith) c.requires.inside.within c.in_ok-parse.ensures
