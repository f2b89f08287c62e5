use Rattle.std.proofs.Common.{arith}
use Rattle.std.proofs.lemmas.Grind.{common_steps}
use Rattle.editor_language.proofs.Lists.{map_twice}
use Rattle.editor_language.proofs.items.push_items.Goals as goal

pub returns : goal.returns
returns c = grind (arith, common_steps, map_twice)
