use Rattle.std.proofs.Common.{◌∙◌, ℕ, List, ap}
use Rattle.serde_json.specs.Written.{compact_text}
use Rattle.editor_json.proofs.Optional.{diagnosed}
use Rattle.editor_json.proofs.Integers.{diagnostic_integers}
use Rattle.editor_json.specs.Sent.{text_data}
use Rattle.editor_json.proofs.elements.diagnostic_text.Goals as goal

pub returns-clause-exact : goal.returns-clause-exact
returns-clause-exact c =
    c.in_ok-text.ensures.ok
    ∙ diagnosed c.args.uri.now c.args.diagnostic.now _ _ _ _ c.in_ok-code.ensures
    (c.in_ok-message.ensures ∙ ap (λ (t : List ℕ). compact_text (text_data t)) c.as_str.ensures.value) c.in_ok-range.ensures.exact c.in_ok-related.ensures.exact

pub returns-clause-integers : goal.returns-clause-integers
returns-clause-integers c = diagnostic_integers c.args.uri.now c.args.diagnostic.now c.in_ok-range.ensures.integers c.in_ok-related.ensures.integers
