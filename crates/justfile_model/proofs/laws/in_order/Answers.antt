use Rattle.std.proofs.Common.{[]}
use Rattle.justfile_model.proofs.Lexing.LexedLaws.{from_follows}
use Rattle.justfile_model.proofs.laws.in_order.Goals as goal

pub returns : goal.returns
returns c = λ text ts. from_follows text [] ts tt
