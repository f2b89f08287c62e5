use Rattle.std.proofs.Common.{◌≡◌, ◌∙◌, ◌++◌, List, ap, map, take}
use Rattle.std.proofs.lemmas.List.{take_min}
use Rattle.editor_language.specs.declared.parts.Finding.{Finding}
use Rattle.editor_answers.specs.Ranges.{most_found, to_find, told}
use Rattle.editor_answers.proofs.shown.Shown.with_findings.Goals as goal

pub returns : goal.returns
returns c =
    let find = to_find c.args.self.now.encoding c.args.self.now.lines.text.now in
    let first : c.split_at.result.0.now ≡ take most_found c.args.findings.now =
    c.split_at.ensures.front ∙ ap (λ n. take n c.args.findings.now) c.min.ensures ∙ take_min most_found c.args.findings.now
    in
    c.in_ok-push_found.ensures ∙ ap (λ (l : List Finding). map told c.args.others.items ++ map find l) first
