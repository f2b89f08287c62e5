use Rattle.std.proofs.Common.{codes, sym, ◌∙◌}
use Rattle.std.proofs.lemmas.Str.Pattern.{ends_text}
use Rattle.line_diff.proofs.HunkLemmas.{edit_written, pushed, unended}
use Rattle.line_diff.proofs.unified.push_edit.Goals as goal

pub returns : goal.returns
returns c =
    let line = c.args.edit.now.line.now in
    pushed _ _ _ _ _ c.push_str-3.ensures.bytes
    (edit_written _ _ _ _ _ _ _ _ c.in_ok-push_str-2.ensures.bytes c.in_ok-push_str.ensures.bytes c.sign_of.ensures
    (unended line (sym (ends_text c.ends_with.result (codes "\n") line c.ends_with.ensures.cases) ∙ c.if-ends_with.false)))
