use Rattle.std.proofs.Common.{◌≡◌, ◌++◌, map, take}
use Rattle.justfile_analysis.specs.Mentioned.{moved_noted}
use Rattle.justfile_mentions.specs.Noted.{noted}
use Rattle.justfile_analysis.proofs.mentioned.push_mentions.Given as goal

abbrev pub invariant-loop-mention : goal.invariant-loop-mention
invariant-loop-mention l =
    map noted l.mentions.items ≡ map noted l.fn.mentions.items ++ map (λ m. moved_noted l.base l.first (noted m)) (take l.mention-index l.known.mentions.items)
