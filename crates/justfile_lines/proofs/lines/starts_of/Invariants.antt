use Rattle.std.proofs.Common.{◌≡◌, ℕ, ◌+◌, ◌-◌, ◌<◌, ◌≤◌, length, get_or}
use Rattle.justfile_lines.specs.Positions.{line_at}
use Rattle.justfile_lines.specs.Starts.{IsStart}
use Rattle.justfile_lines.proofs.lines.starts_of.Given as goal

abbrev pub invariant-loop-before : goal.invariant-loop-before
invariant-loop-before l = record {
  within : l.at ≤ length l.text;
  count : length l.starts.items ≡ line_at l.text l.at + 1;
  each : (line : ℕ) → line < length l.starts.items → IsStart l.text line (get_or l.starts.items line 0);
}

abbrev pub decreases-loop-before : goal.decreases-loop-before
decreases-loop-before l = length l.text - l.at
