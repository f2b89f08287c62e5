use Rattle.std.proofs.Common.{refl}
use Rattle.justfile_server.specs.Links.{HasPart, cut, outside}
use Rattle.justfile_server.proofs.chunk.part_of.Goals as goal

pub returns-in-Some : goal.returns-in-Some
returns-in-Some c = cut c.in-Some.ensures.cases.0

pub returns-in-None : goal.returns-in-None
returns-in-None c =
    let none : HasPart c.args.text.now c.args.start c.args.end → ⊥ = λ part. c.in-None.ensures.cases part.0 part.1 part.2 in
    outside none refl
