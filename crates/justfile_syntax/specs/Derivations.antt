-- Which tree a text derives.
pub use Rattle.justfile_model.specs.Grammars.Conditions.{Conditions, VersionNumbers, with_expander, with_limit}
pub use Rattle.justfile_model.specs.Meanings.Versions.{version_numbers}
pub use Rattle.justfile_parse_expression.specs.Conditions.{conditions_of}
pub use Rattle.justfile_model.specs.Grammars.Features.{Noted}
pub use Rattle.justfile_model.specs.Grammars.Files.{FileDerives}
pub use Rattle.justfile_model.specs.Grammars.Need.{IsNeed}
pub use Rattle.justfile_round_trip.specs.Need.{TextNeeds}
pub use Rattle.justfile_round_trip.specs.RoundTrip.{TextDerives}
