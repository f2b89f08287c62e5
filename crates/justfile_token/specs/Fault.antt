-- The text of a fault.
use Rattle.std.specs.Prelude.{ℕ, List, ◌++◌, codes}
use Rattle.justfile_token.specs.Excerpt.{excerpt_text}
use Rattle.justfile_token.specs.Messages.{message_text}
use Rattle.justfile_token.specs.declared.fault.Fault.{Fault}
use Rattle.justfile_token.specs.declared.fault.Fault.TheVariants.{Compile, Memory, Numbers}

-- For an error its message and, on the lines after it, the excerpt of the line that it is on.
abbrev pub fault_text : Fault → List ℕ
fault_text (Compile e) = message_text e ++ codes "\n" ++ excerpt_text e.token
fault_text Memory = codes "out of memory"
fault_text Numbers = codes "out of numbers"
