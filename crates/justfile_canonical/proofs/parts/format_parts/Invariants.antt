use Rattle.std.proofs.Common.{◌-◌, length}
use Rattle.justfile_canonical.proofs.InParts.{InParts}
use Rattle.justfile_canonical.proofs.parts.format_parts.Given as goal

abbrev pub invariant-parts : goal.invariant-parts
invariant-parts l = InParts l.source l.at l.printer

abbrev pub decreases-parts : goal.decreases-parts
decreases-parts l = length l.source - l.at
