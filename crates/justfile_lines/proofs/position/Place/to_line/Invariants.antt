use Rattle.std.proofs.Common.{◌≡◌, ◌+◌, ◌-◌, length, take}
use Rattle.std.specs.Str.{IsCharBoundary}
use Rattle.justfile_lines.specs.declared.encoding.Encoding.{Encoding}
use Rattle.justfile_lines.specs.Going.{IsBefore, place_after}
use Rattle.justfile_lines.proofs.position.Place.to_line.Given as goal

abbrev pub invariant-lines : goal.invariant-lines
invariant-lines l = record {
  offset : l.here.offset ≡ l.self.offset + l.at;
  boundary : IsCharBoundary l.text l.at;
  is : (encoding : Encoding) → l.here ≡ place_after encoding l.self (take l.at l.text);
  before : IsBefore l.self l.line l.here;
}

abbrev pub decreases-lines : goal.decreases-lines
decreases-lines l = length l.text - l.at
