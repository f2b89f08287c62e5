use Rattle.justfile_literal.proofs.Longest.{longest_front}
use Rattle.justfile_literal.proofs.laws.longest_front.Goals as goal

pub returns : goal.returns
returns c = longest_front
