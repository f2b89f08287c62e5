use Rattle.std.proofs.Common.{refl}
use Rattle.justfile_model.specs.Printed.Printing.{fixed_text}
use Rattle.justfile_model.proofs.printed_examples.headers.Goals as goal

pub returns : goal.returns
unfolding fixed_text
returns c = record { bare = refl; whole = refl; arguments = refl }
