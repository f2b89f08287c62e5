use Rattle.justfile_model.proofs.Lexing.AnswerLaws.{answered}
use Rattle.justfile_model.proofs.laws.answer_for_all.Goals as goal

pub returns : goal.returns
returns c = answered
