-- Expressions, and how the definitions see them.
pub use Rattle.justfile_expression.specs.Copies.{IsSameExpression}
pub use Rattle.justfile_expression.specs.Expression.{expr_cooked, expr_of, literal_tok}
pub use Rattle.justfile_expression.specs.Parts.{first_token, parts_of, string_literal_of}
pub use Rattle.justfile_inner_expressions.specs.Pushed.{referents}
pub use Rattle.justfile_expression.specs.Resolved.{IsResolved}
pub use Rattle.justfile_expression.specs.Text.{text_of}
pub use Rattle.justfile_expression.specs.declared.expression.Expression.{Expression}
