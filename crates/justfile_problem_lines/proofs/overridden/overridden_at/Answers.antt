use Rattle.std.proofs.Common.{◌∙◌, ap, refl}
use Rattle.justfile_problem_lines.specs.Modules.{all_definitions, definitions_at, files_before}
use Rattle.justfile_problem_lines.proofs.Parts.{overridden_told}
use Rattle.justfile_problem_lines.proofs.overridden.overridden_at.Goals as goal

pub returns : goal.returns
returns c =
    overridden_told c.overridden_in.result (all_definitions c.args.files.now (files_before c.args.group.now c.args.index)) c.deref.result.now (definitions_at c.args.files.now c.args.index) (definitions_at c.args.files.now c.args.index)
    (c.deref.ensures.value ∙ c.in_ok-others.ensures ∙ ap (all_definitions c.args.files.now) c.files_before.ensures) refl c.overridden_in.ensures
