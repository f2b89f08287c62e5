-- The text of an assignment.
use Rattle.std.specs.Prelude.{ℕ, List}
use Rattle.justfile_model.specs.Printed.Printing as printing
use Rattle.justfile_expression.specs.declared.expression.Expression.{Expression}
use Rattle.justfile_item.specs.Item.{assignment_shape}
use Rattle.justfile_item.specs.declared.binding.Binding.{Binding}

abbrev pub binding_text : Binding Expression → List ℕ
binding_text a = printing.assignment_text (assignment_shape a)
