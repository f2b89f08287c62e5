use Rattle.std.proofs.Common.{◌∙◌, ℕ, List, ap, codes}
use Rattle.serde_json.specs.Written.{compact_text}
use Rattle.editor_json.proofs.Optional.{completed}
use Rattle.editor_json.proofs.Integers.{completion_integers}
use Rattle.editor_json.specs.Sent.{optional_text, put_data, text_data}
use Rattle.editor_json.proofs.elements.completion_text.Goals as goal

pub returns-clause-exact : goal.returns-clause-exact
returns-clause-exact c =
    let same = c.as_str-label.ensures.value in
    c.in_ok-text.ensures.ok
    ∙ completed c.args.range c.args.completion.now _ _ _ _ _ (c.in_ok-first.ensures ∙ ap (optional_text (codes "detail")) c.as_str.ensures.value)
    (c.in_ok-second.ensures ∙ ap (optional_text (codes "documentation")) c.as_str-2.ensures.value) c.number-kind.ensures
    (c.in_ok-label.ensures ∙ ap (λ (t : List ℕ). compact_text (text_data t)) same) (c.in_ok-edit.ensures.exact ∙ ap (λ (t : List ℕ). compact_text (put_data c.args.range t)) same)

pub returns-clause-integers : goal.returns-clause-integers
returns-clause-integers c = completion_integers c.args.range c.args.completion.now c.as_str-label.result.now c.in_ok-edit.ensures.integers
