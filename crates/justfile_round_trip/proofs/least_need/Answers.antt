use Rattle.justfile_round_trip.proofs.LeastNeed.{least_need, text_need}
use Rattle.justfile_round_trip.proofs.least_need.Goals as goal

pub returns : goal.returns
returns c = record { need = text_need; least = least_need }
