use Rattle.justfile_model.proofs.Printed.Normal.{normal_printable}
use Rattle.justfile_round_trip.proofs.RoundTrip.{back, apart, alike, fixed}
use Rattle.justfile_round_trip.proofs.reads_back.Goals as goal

pub returns : goal.returns
returns c = record { back = back; injective = apart; alike = alike; fixed = fixed; stays_printable = normal_printable }
