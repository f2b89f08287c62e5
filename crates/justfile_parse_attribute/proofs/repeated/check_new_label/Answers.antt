use Rattle.std.proofs.Common.{◌∙◌, ℕ, Option, Err, ap, subst}
use Rattle.justfile_parse_attribute.specs.Labels.{ChecksLine, label_rule, line_at}
use Rattle.justfile_parse_attribute.proofs.repeated.check_new_label.Goals as goal

pub returns-in-Some : goal.returns-in-Some
returns-in-Some c =
    subst (λ (line : Option ℕ). ChecksLine line (label_rule c.args.is_arg c.args.literal.now) c.args.name.token (Err c.repeated_label_fault.result))
    (c.in-Some.ensures ∙ ap (λ text. line_at c.args.is_arg text c.args.labels.now) c.as_str.ensures.value)
    c.repeated_label_fault.ensures
