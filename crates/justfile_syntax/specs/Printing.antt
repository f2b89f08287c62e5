-- The printed text of a tree, and that it reads back.
pub use Rattle.justfile_model.specs.Printed.NormalShape.{normal}
pub use Rattle.justfile_model.specs.Printed.Printing.{attribute_text, header_text, item_text, body_line_text, parameter_text, expr_text, printable, printable_item, text}
pub use Rattle.justfile_model.specs.Printed.Uncommented.{HasNoComments, uncommented_text}
pub use Rattle.justfile_round_trip.specs.RoundTrip.{ReadsBack, printed, times}
pub use Rattle.justfile_ast.specs.PrintsBack.{PrintsBack}
pub use Rattle.justfile_ast.specs.Written.{AppendsPart}
pub use Rattle.justfile_token.specs.Sink.{Puts}
