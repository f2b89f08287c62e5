use Rattle.std.proofs.Common.{◌≡◌, ◌∙◌, List, Some, ap}
use Rattle.std.specs.List.{flat_map}
use Rattle.justfile_token.specs.Name.{name_text}
use Rattle.justfile_token.specs.Token.{lexeme_of}
use Rattle.justfile_token.specs.declared.token.Token.{Token}
use Rattle.justfile_problems.specs.declared.facts.Member.{Member}
use Rattle.justfile_problem_lines.specs.Modules.{is_overridden_at, use_of}
use Rattle.justfile_problem_lines.proofs.Parts.{judged_of}
use Rattle.justfile_problem_lines.proofs.members.members_in.Goals as goal

pub returns : goal.returns
returns c =
    let text : c.lexeme.result.now ≡ name_text c.args.owner = c.lexeme.ensures ∙ ap (λ (t : Token). lexeme_of t) c.deref.ensures in
    let uses =
    c.deref-3.ensures.value ∙ c.in_ok-uses.ensures ∙ ap (λ t. flat_map (use_of t) c.deref-2.result.now) text
    ∙ ap (λ (l : List Member). flat_map (use_of (name_text c.args.owner)) l) c.deref-2.ensures.value in
    judged_of c.lines_of_uses.result (Some c.args.owner) c.args.rules (is_overridden_at c.args.files.now c.args.group.now c.args.index) c.args.all.now c.deref-3.result.now _ c.args.file.now.source.now uses c.lines_of_uses.ensures
