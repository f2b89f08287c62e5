use Rattle.std.proofs.Common.{◌∙◌, Bool, ap, cond, string_bytes, sym}
use Rattle.justfile_files.specs.Path.{path_beside}
use Rattle.justfile_problems.specs.declared.facts.Target.TheVariants.{Unknown}
use Rattle.justfile_problem_lines.specs.Links.{target_at}
use Rattle.justfile_problem_lines.proofs.links.target_of.Goals as goal

pub returns : goal.returns
returns c =
    let known = target_at c.args.files.now c.args.missing.now in
    c.target_at.ensures ∙ ap known (c.as_str-2.ensures.value ∙ c.in_ok-path.ensures ∙ ap (λ n. path_beside c.args.path.now n) c.as_str.ensures.value)
    ∙ sym (ap (λ (b : Bool). cond b (known (path_beside c.args.path.now (string_bytes c.args.import.now.path))) Unknown) c.if-not-import.false)
