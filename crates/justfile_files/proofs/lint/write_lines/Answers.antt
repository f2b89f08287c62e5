use Rattle.std.proofs.Common.{inl, inr, refl}
use Rattle.justfile_files.specs.Lint.{judged, lost}
use Rattle.justfile_files.proofs.lint.write_lines.Goals as goal

pub returns-in-Ok-clause-written : goal.returns-in-Ok-clause-written
returns-in-Ok-clause-written g c = record { judgement = judged c.args.lines.now; is = inl refl; status_is = c.lines_status.ensures; left = c.in-Ok.ensures.written; told = refl }

pub returns-in-Err-clause-written : goal.returns-in-Err-clause-written
returns-in-Err-clause-written g c =
    let told = c.report.ensures.told in
    record { judgement = lost c.args.lines.now told.0; is = inr (told.0, refl, told.1); status_is = refl; left = c.in-Err.ensures.lost; told = told.2 }
