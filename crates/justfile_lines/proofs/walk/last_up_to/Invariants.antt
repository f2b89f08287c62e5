use Rattle.std.proofs.Common.{◌≡◌, ℕ, ◌+◌, ◌-◌, ◌*◌, ◌≤◌, take}
use Rattle.std.specs.Str.{IsCharBoundary}
use Rattle.justfile_lines.specs.Positions.{width}
use Rattle.justfile_lines.proofs.walk.last_up_to.Given as goal

abbrev pub invariant-bytes : goal.invariant-bytes
invariant-bytes l = record {
  from : l.start ≤ l.last;
  passed : l.last ≤ l.at;
  to : l.at ≤ l.end;
  boundary : IsCharBoundary l.text l.last;
  is : width l.encoding (take l.start l.text) + l.units ≡ width l.encoding (take l.at l.text);
  bound : l.units ≤ 2 * l.at;
  column : l.units ≤ l.column;
  latest : (other : ℕ) → IsCharBoundary l.text other → other ≤ l.at → other ≤ l.last;
}

abbrev pub decreases-bytes : goal.decreases-bytes
decreases-bytes l = l.end - l.at
