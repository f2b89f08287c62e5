use Rattle.std.proofs.Common.{rules, refl}
use Rattle.justfile_files.specs.declared.failure.Failure.TheVariants as failures
use Rattle.justfile_files.proofs.OutcomeLemmas.{result_applied, result_nothing, result_refused, text_read}
use Rattle.justfile_files.proofs.file.format_file.Goals as goal

pub returns-in-Err : goal.returns-in-Err
returns-in-Err g c =
    let F = g.F.Formatter in
    let laws = g.met.F.Formatter in
    result_nothing F.formats F.rejects laws.one laws.settled laws.never_both c.args.task g.O.Output.writes g.O.Output.loses c.args.name.now
    (g.D.Folder.contents c.args.folder.now) (g.D.Folder.contents c.read.new.self) c.args.output.now c.args.output.now
    (failures.Reading c.in-Err.error) refl c.read.ensures.kept refl

pub returns-in-Err-from_utf8 : goal.returns-in-Err-from_utf8
returns-in-Err-from_utf8 g c =
    let F = g.F.Formatter in
    let laws = g.met.F.Formatter in
    result_nothing F.formats F.rejects laws.one laws.settled laws.never_both c.args.task g.O.Output.writes g.O.Output.loses c.args.name.now
    (g.D.Folder.contents c.args.folder.now) (g.D.Folder.contents c.read.new.self) c.args.output.now c.args.output.now
    (failures.NotUtf8 c.place_after.result) refl c.read.ensures.kept refl

pub returns-in-Err-formatted_text : goal.returns-in-Err-formatted_text
returns-in-Err-formatted_text g c =
    let F = g.F.Formatter in
    let laws = g.met.F.Formatter in
    result_refused F.formats F.rejects laws.one laws.settled laws.never_both c.args.task g.O.Output.writes g.O.Output.loses c.args.name.now
    (g.D.Folder.contents c.args.folder.now) (g.D.Folder.contents c.read.new.self) c.args.output.now c.args.output.now
    c.in-Err-formatted_text.failure c.in-Ok-from_utf8.source.now
    (text_read (g.D.Folder.contents c.args.folder.now c.args.name.now) _ _ c.in-Ok.ensures.ok (search rules)) c.in-Err-formatted_text.ensures.err
    c.read.ensures.kept refl

pub returns : goal.returns
returns g c =
    let F = g.F.Formatter in
    let laws = g.met.F.Formatter in
    result_applied F.formats F.rejects laws.one laws.settled laws.never_both c.args.task g.O.Output.writes g.O.Output.loses c.args.name.now
    (g.D.Folder.contents c.args.folder.now) (g.D.Folder.contents c.apply.new.folder) c.args.output.now c.apply.new.output
    (g.D.Folder.contents c.read.new.self) c.in-Ok-from_utf8.source.now c.as_str-2.result.now c.read.ensures.kept
    (text_read (g.D.Folder.contents c.args.folder.now c.args.name.now) _ _ c.in-Ok.ensures.ok (search rules)) (search rules) (search rules) c.apply.result c.apply.ensures
