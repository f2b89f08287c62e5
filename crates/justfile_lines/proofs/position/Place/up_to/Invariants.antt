use Rattle.std.proofs.Common.{◌≡◌, ℕ, ◌+◌, ◌-◌, ◌≤◌, false, length, take}
use Rattle.std.specs.Str.{IsCharBoundary}
use Rattle.justfile_lines.specs.Going.{IsInText, is_past, place_after}
use Rattle.justfile_lines.proofs.position.Place.up_to.Given as goal

abbrev pub invariant-bytes : goal.invariant-bytes
invariant-bytes l = record {
  within : l.at ≤ length l.text;
  kept : l.count ≤ l.at;
  boundary : IsCharBoundary l.text l.count;
  latest : (other : ℕ) → IsCharBoundary l.text other → other ≤ l.at → other ≤ l.count;
  last_is : l.last ≡ place_after l.encoding l.fn.self (take l.count l.text);
  here_is : l.here ≡ place_after l.encoding l.fn.self (take l.at l.text);
  last_up_to : is_past l.position l.last ≡ false;
  here_up_to : is_past l.position l.here ≡ false;
  in_text : IsInText l.here;
  offset : l.here.offset ≡ l.fn.self.offset + l.at;
}

abbrev pub decreases-bytes : goal.decreases-bytes
decreases-bytes l = length l.text - l.at
