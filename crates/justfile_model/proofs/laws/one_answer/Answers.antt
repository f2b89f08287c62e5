use Rattle.justfile_model.proofs.Lexing.LexedLaws.{one_list, one_fault, never_both}
use Rattle.justfile_model.proofs.laws.one_answer.Goals as goal

pub returns : goal.returns
returns c = record { list = one_list; fault = one_fault; never_both = never_both }
