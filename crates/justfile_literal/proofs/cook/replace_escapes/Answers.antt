use Rattle.std.proofs.Common.{◌≡◌, ◌∙◌, true, string_bytes, sym}
use Rattle.std.proofs.lemmas.Result.{IfErr-weaker, IfOk-weaker}
use Rattle.justfile_token.specs.StringKind.{escapes}
use Rattle.justfile_literal.proofs.LiteralTexts.{cooked_string, refused_string}
use Rattle.justfile_literal.proofs.cook.replace_escapes.Goals as goal

pub returns-then-processes_escape_sequences-clause-ok : goal.returns-then-processes_escape_sequences-clause-ok
returns-then-processes_escape_sequences-clause-ok c =
    let escaping : escapes c.args.kind.delimiter ≡ true = sym c.processes_escape_sequences.ensures ∙ c.if-processes_escape_sequences.true in
    IfOk-weaker c.cook_string.result _ _ (λ cooked cooks. cooked_string c.args.kind (string_bytes c.args.text) c.as_str.result.now _ c.as_str.utf8 escaping c.as_str.ensures.value cooks) c.cook_string.ensures.ok

pub returns-then-processes_escape_sequences-clause-err : goal.returns-then-processes_escape_sequences-clause-err
returns-then-processes_escape_sequences-clause-err c =
    let escaping : escapes c.args.kind.delimiter ≡ true = sym c.processes_escape_sequences.ensures ∙ c.if-processes_escape_sequences.true in
    IfErr-weaker c.cook_string.result _ _ (λ fault is. refused_string c.args.kind (string_bytes c.args.text) c.as_str.result.now c.args.token fault c.as_str.utf8 escaping c.as_str.ensures.value is) c.cook_string.ensures.err
