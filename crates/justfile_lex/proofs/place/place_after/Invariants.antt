use Rattle.justfile_model.specs.Lexing.Places.{IsPlace}
use Rattle.justfile_lex.proofs.place.place_after.Given as goal

abbrev pub invariant-loop-at : goal.invariant-loop-at
invariant-loop-at l = IsPlace l.bytes l.at l.place.line l.place.column
