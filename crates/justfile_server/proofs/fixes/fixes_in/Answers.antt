use Rattle.justfile_server.proofs.FixesOfFile.{with_tree, without_tree}
use Rattle.justfile_server.proofs.fixes.fixes_in.Goals as goal

pub returns-in-Ok : goal.returns-in-Ok
returns-in-Ok c = with_tree c.args.uri.now c.args.text.now _ _ c.may_be_imported-imported.ensures c.in-Ok.ensures.ok

pub returns : goal.returns
returns c =
    without_tree c.no_fixes.result c.args.uri.now c.args.text.now (record { fault = c.in-Err.field-0; no_root = c.in-Err.ensures.err }) c.no_fixes.ensures
