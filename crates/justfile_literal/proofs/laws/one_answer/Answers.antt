use Rattle.justfile_literal.proofs.Texts.{never_both, one_cooked, one_fault}
use Rattle.justfile_literal.proofs.laws.one_answer.Goals as goal

pub returns : goal.returns
returns c = record { cooked = one_cooked; fault = one_fault; never_both = never_both }
