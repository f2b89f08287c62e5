use Rattle.std.proofs.Common.{take}
use Rattle.justfile_vocabulary.specs.Indentation.{indentation_text}
use Rattle.justfile_model.specs.Printed.Printing.{body_text}
use Rattle.justfile_line.specs.Body.{line_shapes}
use Rattle.justfile_item.proofs.recipe.write_body.Given as goal

abbrev pub invariant-loop-line : goal.invariant-loop-line
invariant-loop-line g l = g.S.Sink.took l.initial.sink (body_text (indentation_text l.fn.indentation) (line_shapes (take l.line-index l.lines))) l.sink
