-- Errors, their messages and excerpts, and faults.
pub use Rattle.justfile_token.specs.CompileErrorKind.{internal_message, tokens_in}
pub use Rattle.justfile_token.specs.Excerpt.{excerpt_text}
pub use Rattle.justfile_token.specs.Fault.{fault_text}
pub use Rattle.justfile_token.specs.Messages.{message_text}
pub use Rattle.justfile_token.specs.declared.compile_error.CompileError.{CompileError}
pub use Rattle.justfile_token.specs.declared.compile_error_kind.CompileErrorKind.{CompileErrorKind}
pub use Rattle.justfile_token.specs.declared.fault.Fault.{Fault}
