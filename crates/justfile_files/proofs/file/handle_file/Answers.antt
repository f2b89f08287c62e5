use Rattle.std.proofs.Common.{[], Bool, Ok, Err, Some, if◌then◌else◌, refl, sym, ap}
use Rattle.justfile_files.proofs.OutcomeLemmas.{result_told}
use Rattle.justfile_files.proofs.file.handle_file.Goals as goal

pub returns-in-Ok-true-clause-status : goal.returns-in-Ok-true-clause-status
returns-in-Ok-true-clause-status g c =
    let F = g.F.Formatter in
    let laws = g.met.F.Formatter in
    result_told F.formats F.rejects laws.one laws.settled laws.never_both c.args.task g.O.Output.writes g.O.Output.loses g.E.Messages.tells
    (Ok c.in-Ok-true.field-0) [] _ c.in-Ok-true.ensures refl refl (ap (λ (is : Bool). Some (if is then 0 else 1)) (sym c.in-Ok-true.field-0-test))

pub returns-in-Ok-false-clause-status : goal.returns-in-Ok-false-clause-status
returns-in-Ok-false-clause-status g c =
    let F = g.F.Formatter in
    let laws = g.met.F.Formatter in
    result_told F.formats F.rejects laws.one laws.settled laws.never_both c.args.task g.O.Output.writes g.O.Output.loses g.E.Messages.tells
    (Ok c.in-Ok-false.field-0) [] _ c.in-Ok-false.ensures refl refl (ap (λ (is : Bool). Some (if is then 0 else 1)) (sym c.in-Ok-false.field-0-test))

pub returns-in-Err-clause-status : goal.returns-in-Err-clause-status
returns-in-Err-clause-status g c =
    let F = g.F.Formatter in
    let laws = g.met.F.Formatter in
    let told = c.report.ensures.told in
    result_told F.formats F.rejects laws.one laws.settled laws.never_both c.args.task g.O.Output.writes g.O.Output.loses g.E.Messages.tells
    (Err c.in-Err.failure) told.0 c.report.result c.in-Err.ensures told.1 told.2 c.report.ensures.status
