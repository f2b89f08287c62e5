use Rattle.justfile_round_trip.proofs.LiteralTexts.LiteralModes.{first_end, whole_ends, part_ends, plain_ends}
use Rattle.justfile_round_trip.proofs.Facts.{string_again}
use Rattle.justfile_round_trip.proofs.modes_agree.Goals as goal

pub returns : goal.returns
returns c = record { first_end = first_end; whole = whole_ends; part = part_ends; plain = plain_ends; again = string_again }
