use Rattle.justfile_server.proofs.FixesOfFile.{of_file}
use Rattle.justfile_server.proofs.fixes.file_fixes.Goals as goal

pub returns : goal.returns
returns c =
    of_file c.args.imported c.args.ast.now c.in_ok-found.found c.deref.result.now c.deref-2.result.now c.deref-3.result.now c.fixes.result c.in_ok-found.ensures
    c.deref.ensures.value c.deref-2.ensures.value c.deref-3.ensures.value c.fixes.ensures
