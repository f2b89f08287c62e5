use Rattle.std.proofs.Common.{refl}
use Rattle.justfile_model.specs.Meanings.AttributeKinds.{same_attribute}
use Rattle.justfile_model.specs.Printed.Printing.{fixed_text}
use Rattle.justfile_model.proofs.printed_examples.constructs.Goals as goal

pub returns : goal.returns
unfolding fixed_text same_attribute
returns c = record { exported = refl; eager = refl; doc = refl; doc_first = refl; comments = refl; empty_doc = refl; no_doc = refl }
