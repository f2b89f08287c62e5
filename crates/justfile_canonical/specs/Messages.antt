-- The lines that tell a user about an error.
use Rattle.std.specs.Prelude.{ℕ, List, ◌++◌, codes}
use Rattle.justfile_token.specs.Excerpt.{excerpt_text}
use Rattle.justfile_token.specs.Messages.{message_text}
use Rattle.justfile_token.specs.declared.compile_error.CompileError.{CompileError}

-- the message of an error, and the excerpt of the line that it is on
abbrev pub error_text : CompileError → List ℕ
error_text e = codes "error: " ++ message_text e ++ codes "\n" ++ excerpt_text e.token ++ codes "\n"
