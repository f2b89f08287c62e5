use Rattle.std.proofs.Common.{rules, string_bytes}
use Rattle.serde_json.proofs.OnLiterals.{serde_json_on_literals}
use Rattle.editor_json.proofs.Integers.{ok_then}
use Rattle.editor_json.proofs.SentBack.{published_reads}
use Rattle.editor_json.proofs.sent.diagnostics_text.Goals as goal

pub returns-clause-exact : goal.returns-clause-exact
unfolding serde_json_on_literals
returns-clause-exact c = search rules

pub returns-clause-reads_back : goal.returns-clause-reads_back
returns-clause-reads_back c =
    ok_then c.format.result (returns-clause-exact c)
    (λ text e. published_reads c.args.uri.now c.args.version c.args.diagnostics.now (string_bytes text) e c.in_ok-params.ensures.integers)
