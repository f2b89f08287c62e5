use Rattle.std.proofs.Common.{◌∙◌, ap}
use Rattle.std.specs.List.{flat_map}
use Rattle.std.proofs.lemmas.List.{take_all}
use Rattle.justfile_problems.specs.Problems.{joined}
use Rattle.justfile_problem_lines.specs.Modules.{rules_at}
use Rattle.justfile_problem_lines.proofs.module.rules_in.Goals as goal

pub returns : goal.returns
returns c =
    c.joined.ensures
    ∙ ap (joined c.args.more) (c.deref.ensures.value ∙ c.loop-index.invariant ∙ ap (flat_map (rules_at c.args.files.now)) (take_all _ _ c.loop-index-test.false))
