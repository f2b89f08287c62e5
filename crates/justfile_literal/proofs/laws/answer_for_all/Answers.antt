use Rattle.justfile_literal.proofs.Texts.{answered, cooked_complete, cooked_sound, fault_complete, fault_sound}
use Rattle.justfile_literal.proofs.laws.answer_for_all.Goals as goal

pub returns : goal.returns
returns c = record { one = answered; sound = cooked_sound; complete = cooked_complete; sound_fault = fault_sound; complete_fault = fault_complete }
