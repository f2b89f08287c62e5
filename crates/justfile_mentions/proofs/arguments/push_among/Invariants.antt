use Rattle.std.proofs.Common.{◌≡◌, ◌++◌, map, take}
use Rattle.std.specs.List.{flat_map}
use Rattle.justfile_mentions.specs.Arguments.{named_of}
use Rattle.justfile_mentions.specs.Noted.{noted}
use Rattle.justfile_mentions.proofs.arguments.push_among.Given as goal

abbrev pub invariant-loop-pair : goal.invariant-loop-pair
invariant-loop-pair l = map noted l.mentions.items ≡ map noted l.fn.mentions.items ++ flat_map (named_of l.index) (take l.pair-index l.pairs)
