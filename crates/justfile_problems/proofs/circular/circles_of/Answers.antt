use Rattle.std.proofs.Common.{◌∙◌, IfOk, List, ap, subst}
use Rattle.justfile_problems.specs.Circular.{AreCirclesAmong, all_steps}
use Rattle.justfile_problems.specs.declared.steps.Step.{Step}
use Rattle.justfile_problems.proofs.Rings.{are_last}
use Rattle.justfile_problems.proofs.circular.circles_of.Goals as goal

pub returns : goal.returns
returns c =
    let P : List Step → Type 0 = λ l. IfOk c.circles_among.result (λ found. AreCirclesAmong l found.items) in
    subst P (c.deref.ensures.value ∙ c.in_ok-steps.ensures ∙ ap (λ last. all_steps last c.args.uses.now) (are_last c.in_ok-nodes.nodes c.args.definitions.now c.in_ok-nodes.ensures)) c.circles_among.ensures
