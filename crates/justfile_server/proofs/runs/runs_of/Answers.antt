use Rattle.justfile_server.specs.Runs.{of_none, of_tree}
use Rattle.justfile_server.proofs.runs.runs_of.Goals as goal

pub returns-in-Ok : goal.returns-in-Ok
returns-in-Ok c = of_tree c.in-Ok.ensures.ok.0 c.in-Ok.ensures.ok.1 c.in-Ok.ensures.ok.2

pub returns : goal.returns
returns c = of_none (record { fault = c.in-Err.field-0; no_root = c.in-Err.ensures.err }) c.new.ensures.items
