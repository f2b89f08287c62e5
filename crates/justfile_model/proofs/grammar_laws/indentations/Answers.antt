use Rattle.justfile_model.proofs.Printed.IndentedShapes.{indentation_normal, indentation_valid, indentation_shape}
use Rattle.justfile_model.proofs.grammar_laws.indentations.Goals as goal

pub returns : goal.returns
returns c = record { shape = indentation_shape; normal = indentation_normal; literal = indentation_valid }
