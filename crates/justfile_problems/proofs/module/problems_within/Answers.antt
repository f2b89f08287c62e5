use Rattle.justfile_problems.specs.Overridden.{is_overridden_in}
use Rattle.justfile_problems.proofs.Known.{alone}
use Rattle.justfile_problems.proofs.module.problems_within.Goals as goal

pub returns-in-empty-clause-all : goal.returns-in-empty-clause-all
returns-in-empty-clause-all c =
    alone c.problems_alone.result c.args.rules (is_overridden_in c.args.overridden.now) c.args.all.now c.args.own.now c.args.uses.now c.args.suspects.now c.in-empty.len_below c.problems_alone.ensures.all
