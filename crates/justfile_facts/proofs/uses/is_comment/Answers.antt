use Rattle.justfile_facts.proofs.Last.{comment_is}
use Rattle.justfile_facts.proofs.uses.is_comment.Goals as goal

pub returns : goal.returns
returns c = comment_is c.args.line.now c.is_comment.result c.is_comment.ensures
