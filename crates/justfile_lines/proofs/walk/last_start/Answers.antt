use Rattle.justfile_lines.proofs.Feeds.{last_is, whole_is}
use Rattle.justfile_lines.proofs.walk.last_start.Goals as goal

pub returns-in-Some-clause-is : goal.returns-in-Some-clause-is
returns-in-Some-clause-is c = last_is c.args.text.now c.in-Some.feed c.in-Some.ensures.0 c.in-Some.ensures.1

pub returns-in-None-clause-is : goal.returns-in-None-clause-is
returns-in-None-clause-is c = whole_is c.args.text.now c.in-None.ensures
