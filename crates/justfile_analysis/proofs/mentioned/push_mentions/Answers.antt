use Rattle.std.proofs.Common.{arith}
use Rattle.std.proofs.lemmas.Grind.{common_steps}
use Rattle.justfile_analysis.proofs.Lists.{map_twice}
use Rattle.justfile_analysis.proofs.mentioned.push_mentions.Goals as goal

pub returns : goal.returns
returns c = grind (arith, common_steps, map_twice)
