-- The text of an interpreter, from the texts of its parts.
use Rattle.std.specs.Prelude.{ℕ, List, [], ◌∷◌, Option, Some, codes}
use Rattle.std.specs.Fmt.{◌++?◌}
use Rattle.justfile_attribute.specs.declared.interpreter.Interpreter.{Interpreter}

-- the arguments, each after a comma and a space
abbrev pub later_output : {T : Type 0} → (T → Option (List ℕ)) → List T → Option (List ℕ)
later_output output [] = Some []
later_output output (x ∷ xs) = (Some (codes ", ") ++? output x) ++? later_output output xs

-- the command and its arguments
abbrev pub interpreter_output : {T : Type 0} → (T → Option (List ℕ)) → Interpreter T → Option (List ℕ)
interpreter_output output interpreter = output interpreter.command ++? later_output output interpreter.arguments.items
