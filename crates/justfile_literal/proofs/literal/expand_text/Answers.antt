use Rattle.justfile_literal.proofs.LiteralTexts.{answered, answer_refused}
use Rattle.justfile_literal.proofs.literal.expand_text.Goals as goal

pub returns-in-Ok-clause-ok : goal.returns-in-Ok-clause-ok
returns-in-Ok-clause-ok g c = answered _ _ c.in-Ok.ensures.ok

pub returns-in-Err-Refused-clause-err : goal.returns-in-Err-Refused-clause-err
returns-in-Err-Refused-clause-err g c =
    c.expansion_fault.ensures _ (answer_refused _ c.in-Err-Refused.field-0 c.in-Err-Refused.err c.in-Err-Refused.ensures.err c.in-Err-Refused.field-0-is)
