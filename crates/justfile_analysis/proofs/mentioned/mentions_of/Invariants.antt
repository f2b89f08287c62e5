use Rattle.std.proofs.Common.{◌≡◌, ◌++◌, drop, map}
use Rattle.justfile_analysis.specs.Mentioned.{all_noted}
use Rattle.justfile_mentions.specs.Noted.{noted}
use Rattle.justfile_analysis.proofs.mentioned.mentions_of.Given as goal

abbrev pub invariant-loop-part : goal.invariant-loop-part
invariant-loop-part l = map noted l.mentions.items ++ all_noted l.start l.first (drop l.part-index l.parts) ≡ all_noted 0 0 l.parts
