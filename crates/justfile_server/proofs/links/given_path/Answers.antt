use Rattle.justfile_server.proofs.Given.{with_tree, without_tree}
use Rattle.justfile_server.proofs.links.given_path.Goals as goal

pub returns-in-Ok : goal.returns-in-Ok
returns-in-Ok c = with_tree c.args.chunk.now _ c.in-Ok.ensures.ok

pub returns : goal.returns
returns c = without_tree c.args.chunk.now _ c.in-Err.ensures.err
