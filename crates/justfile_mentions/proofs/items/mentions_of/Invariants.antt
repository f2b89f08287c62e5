use Rattle.std.proofs.Common.{◌≡◌, map, take}
use Rattle.justfile_mentions.specs.Mentions.{to_note}
use Rattle.justfile_mentions.specs.Noted.{noted}
use Rattle.justfile_mentions.proofs.items.mentions_of.Given as goal

abbrev pub invariant-loop-reference : goal.invariant-loop-reference
invariant-loop-reference l = map noted l.mentions.items ≡ map (to_note l.index l.defaults l.parameters) (take l.reference-index l.found)
