use Rattle.justfile_server.specs.Findings.{of_tree}
use Rattle.justfile_server.proofs.FindingsOfFile.{without_tree}
use Rattle.justfile_server.proofs.findings.findings_in.Goals as goal

pub returns-in-Ok : goal.returns-in-Ok
returns-in-Ok c = of_tree c.in-Ok.ensures.ok.0 c.in-Ok.ensures.ok.1 c.in-Ok.ensures.ok.2

pub returns : goal.returns
returns c =
    without_tree c.no_findings.result c.args.imported c.args.text.now (record { fault = c.in-Err.field-0; no_root = c.in-Err.ensures.err }) c.no_findings.ensures
