use Rattle.std.proofs.Common.{◌≡◌, length, take, ap, sym, subst, ◌∙◌, arith}
use Rattle.std.proofs.lemmas.Grind.{common_steps}
use Rattle.justfile_model.specs.Lexing.Bytes.{is_blank, blank_len}
use Rattle.justfile_lex.proofs.Refusals.{next_blanks, next_other, refused_some}
use Rattle.justfile_scan.proofs.StackLemmas.{run_take}
use Rattle.justfile_lex.proofs.explain.explain.Goals as goal

pub explain_indent-requires-clause-blanks : goal.explain_indent-requires-clause-blanks
explain_indent-requires-clause-blanks c =
    let len = c.blank_len.ensures ∙ ap blank_len c.as_bytes-bytes.ensures.value in
    let found = c.take_blanks.ensures ∙ ap (λ n. take n c.args.rest.now) len in
    subst (λ bs. blank_len bs ≡ length bs) (sym found) (run_take is_blank c.args.rest.now)

pub explain_indent-requires-clause-no_token : goal.explain_indent-requires-clause-no_token
explain_indent-requires-clause-no_token c = grind (arith, common_steps, next_blanks, refused_some)

pub explain_by_class-requires-clause-some : goal.explain_by_class-requires-clause-some
explain_by_class-requires-clause-some c = grind (arith, common_steps, refused_some)

pub explain_by_class-requires-clause-no_token : goal.explain_by_class-requires-clause-no_token
explain_by_class-requires-clause-no_token c = grind (arith, common_steps, next_other, refused_some)

pub returns-then-is_blank : goal.returns-then-is_blank
returns-then-is_blank c = grind (arith, common_steps, next_blanks, refused_some)

pub returns-else-is_blank : goal.returns-else-is_blank
returns-else-is_blank c = grind (arith, common_steps, next_other, refused_some)
