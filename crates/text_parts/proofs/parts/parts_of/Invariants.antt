use Rattle.std.proofs.Common.{◌-◌, length}
use Rattle.text_parts.specs.Kept.{IsBegun}
use Rattle.text_parts.proofs.parts.parts_of.Given as goal

abbrev pub invariant-parts : goal.invariant-parts
invariant-parts g l = IsBegun g.C.Cut.is_part l.text l.parts.items l.at

abbrev pub decreases-parts : goal.decreases-parts
decreases-parts g l = length l.text - l.at
