use Rattle.std.proofs.Common.{◌-◌, ◌<◌, ◌≤◌, length, get_or}
use Rattle.justfile_lines.proofs.lines.Lines.line.Given as goal

abbrev pub invariant-halves : goal.invariant-halves
invariant-halves l = record {
  order : l.low < l.high;
  within : l.high ≤ length l.self.starts.items;
  from : get_or l.self.starts.items l.low 0 ≤ l.offset;
  to : l.high < length l.self.starts.items → l.offset < get_or l.self.starts.items l.high 0;
}

abbrev pub decreases-halves : goal.decreases-halves
decreases-halves l = l.high - l.low
