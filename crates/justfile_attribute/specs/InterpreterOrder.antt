-- The order of interpreters: by their commands, and then by their arguments.
use Rattle.std.specs.Prelude.{Bool, ◌&&◌}
use Rattle.std.specs.Cmp.Lexicographic.{pointwise, slice_cmp}
use Rattle.std.specs.Ordering.{ordering_then}
use Rattle.std.specs.declared.cmp.Ordering.{Ordering}
use Rattle.justfile_attribute.specs.declared.interpreter.Interpreter.{Interpreter}

module _ {T : Type 0} where
  abbrev pub interpreter_eq : (T → T → Bool) → Interpreter T → Interpreter T → Bool
  interpreter_eq eq i j = eq i.command j.command && pointwise eq i.arguments.items j.arguments.items

  abbrev pub interpreter_cmp : (T → T → Ordering) → Interpreter T → Interpreter T → Ordering
  interpreter_cmp cmp i j = ordering_then (cmp i.command j.command) (slice_cmp cmp i.arguments.items j.arguments.items)
