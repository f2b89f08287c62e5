-- The texts of literals.
pub use Rattle.justfile_model.specs.LiteralTexts.Literals.{AreCookedTexts, Expansions, Literal, cooked_text, string_of, string_text}
unfoldable pub use Rattle.justfile_model.specs.LiteralTexts.Unindent.{unindented}
pub use Rattle.justfile_model.specs.LiteralTexts.Cook.{Cooks}
pub use Rattle.justfile_literal.specs.Literal.{answers_by}
