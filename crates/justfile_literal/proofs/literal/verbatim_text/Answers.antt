use Rattle.std.proofs.Common.{◌≡◌, ◌∙◌, Ok, false, ap, refl, subst, sym}
use Rattle.justfile_model.specs.LiteralTexts.Literals.{escaped}
use Rattle.justfile_literal.proofs.LiteralTexts.{cooked_string}
use Rattle.justfile_literal.proofs.Verbatim.{unescaped, verbatim}
use Rattle.justfile_literal.proofs.literal.verbatim_text.Goals as goal
use Rattle.justfile_literal.proofs.literal.verbatim_text.Goals.{else-processes_escape_sequences-via-then-processes_escape_sequences+else-has_backslash, else-processes_escape_sequences-via-else-processes_escape_sequences}

pub returns : goal.returns
returns c =
    let kind = c.literal_kind-kind.result in
    let text = c.between_quotes-text.result.now in
    let single : kind.indented ≡ false = sym c.indented.ensures ∙ c.if-indented.false in
    let cooked : escaped kind text ≡ Ok text = elim c.else-processes_escape_sequences.branch [
      | else-processes_escape_sequences-via-then-processes_escape_sequences+else-has_backslash w ↦ cooked_string kind text text text c.between_quotes-text.utf8 (sym c.processes_escape_sequences.ensures ∙ w.if-processes_escape_sequences.true) refl (w.has_backslash.ensures w.if-has_backslash.false)
      | else-processes_escape_sequences-via-else-processes_escape_sequences w ↦ unescaped kind text (sym c.processes_escape_sequences.ensures ∙ w.if-processes_escape_sequences.false)
    ] in
    verbatim c.args.lexeme.now text (ap (λ k. k.indented) (sym c.literal_kind-kind.ensures) ∙ single) c.between_quotes-text.ensures
    (subst (λ k. escaped k text ≡ Ok text) c.literal_kind-kind.ensures cooked)
