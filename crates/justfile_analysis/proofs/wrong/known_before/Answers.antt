use Rattle.justfile_analysis.proofs.WrongParts.{of_lines}
use Rattle.justfile_analysis.proofs.wrong.known_before.Goals as goal

pub returns-in-Ok : goal.returns-in-Ok
returns-in-Ok c =
    let file = c.in-Ok.ensures.ok in
    of_lines c.args.text.now c.in-Some.read.now c.args.start _ c.args.line c.in-Ok.known file.0 c.read_start.ensures c.in-Some.ensures.cases.0 file.1 file.2
