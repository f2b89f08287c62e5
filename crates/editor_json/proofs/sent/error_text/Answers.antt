use Rattle.std.proofs.Common.{◌∙◌, ap, string_bytes}
use Rattle.serde_json.specs.Written.{compact_text}
use Rattle.editor_json.proofs.Integers.{ok_then}
use Rattle.editor_json.proofs.SentBack.{refusal_reads}
use Rattle.editor_json.proofs.sent.error_text.Goals as goal

pub returns-clause-reads_back : goal.returns-clause-reads_back
returns-clause-reads_back c =
    ok_then c.text_of.result c.text_of.ensures
    (λ text e. refusal_reads c.args.id c.args.code c.args.message.now (string_bytes text) (e ∙ ap compact_text c.in_ok-value.ensures.exact) c.in_ok-value.ensures.integers)
