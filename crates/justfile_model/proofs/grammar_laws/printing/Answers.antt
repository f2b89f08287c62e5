use Rattle.std.proofs.Common.{ap}
use Rattle.justfile_model.specs.Printed.Printing.{text}
use Rattle.justfile_model.proofs.grammar_laws.printing.Goals as goal

pub returns : goal.returns
returns c = λ s r indentation e. ap (λ n. text n indentation) e
