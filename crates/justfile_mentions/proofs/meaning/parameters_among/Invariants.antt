use Rattle.std.proofs.Common.{◌≡◌, take}
use Rattle.justfile_mentions.specs.Mentions.{parameters_among}
use Rattle.justfile_mentions.proofs.meaning.parameters_among.Given as goal

abbrev pub invariant-loop-reference : goal.invariant-loop-reference
invariant-loop-reference l = l.parameters.items ≡ parameters_among (take l.reference-index l.references)
