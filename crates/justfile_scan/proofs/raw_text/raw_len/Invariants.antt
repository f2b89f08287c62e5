use Rattle.std.specs.Prelude.{length, ◌-◌}
use Rattle.justfile_scan.specs.RawTexts.{IsWithinRaw}
use Rattle.justfile_scan.proofs.raw_text.raw_len.Given as goal

abbrev pub invariant-pieces : goal.invariant-pieces
invariant-pieces l = IsWithinRaw l.text l.bytes l.at

abbrev pub decreases-pieces : goal.decreases-pieces
decreases-pieces l = length l.bytes - l.at
