use Rattle.justfile_lines.proofs.Feeds.{few_feeds, feeds_of_mask}
use Rattle.justfile_lines.proofs.walk.feeds_at.Goals as goal

pub returns-clause-is : goal.returns-clause-is
returns-clause-is c = feeds_of_mask c.args.text.now c.args.at c.requires

pub returns-clause-bound : goal.returns-clause-bound
returns-clause-bound c = few_feeds c.args.text.now c.args.at _ c.requires (feeds_of_mask c.args.text.now c.args.at c.requires)
