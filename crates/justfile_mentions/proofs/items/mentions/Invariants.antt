use Rattle.std.proofs.Common.{map, take}
use Rattle.justfile_mentions.specs.Mentions.{AreMentions}
use Rattle.justfile_mentions.specs.Noted.{noted}
use Rattle.justfile_mentions.proofs.items.mentions.Given as goal

abbrev pub invariant-loop-index : goal.invariant-loop-index
invariant-loop-index l = AreMentions 0 (take l.index l.items) (map noted l.mentions.items)
