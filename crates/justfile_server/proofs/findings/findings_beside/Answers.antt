use Rattle.std.proofs.Common.{◌∙◌, ap}
use Rattle.justfile_server.specs.Blanks.{without_wrong}
use Rattle.justfile_server.proofs.FindingsOfFile.{beside}
use Rattle.justfile_server.proofs.findings.findings_beside.Goals as goal

pub returns-in-Ok : goal.returns-in-Ok
returns-in-Ok c =
    beside c.findings_in.result c.in-Ok.others.now (without_wrong 0 c.args.parts.now c.args.text.now)
    (c.in-Ok.ensures.cases.0 ∙ c.deref.ensures.value ∙ c.in_ok-bytes.ensures ∙ ap (without_wrong 0 c.args.parts.now) c.as_bytes.ensures.value) c.findings_in.ensures
