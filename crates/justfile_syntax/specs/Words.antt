-- The fixed words of the language, and small values.
pub use Rattle.justfile_vocabulary.specs.Keyword.{keyword_text}
pub use Rattle.justfile_vocabulary.specs.AttributeKind.{attribute_name}
pub use Rattle.justfile_vocabulary.specs.Signal.{signal_name}
pub use Rattle.justfile_vocabulary.specs.TokenKind.{kind_text}
pub use Rattle.justfile_vocabulary.specs.ItemKind.{item_kind_text}
pub use Rattle.justfile_vocabulary.specs.ListFeature.{feature_text}
pub use Rattle.justfile_numbers.specs.Version.{version_text}
pub use Rattle.justfile_vocabulary.specs.Indentation.{IsIndentation, indentation_text}
pub use Rattle.justfile_numbers.specs.Numerator.{bindings_of, constants_of, number_of, recipes_of}
pub use Rattle.justfile_vocabulary.specs.declared.attribute_kind.AttributeKind.{AttributeKind}
pub use Rattle.justfile_vocabulary.specs.declared.indentation.Indentation.{Indentation}
pub use Rattle.justfile_vocabulary.specs.declared.item_kind.ItemKind.{ItemKind}
pub use Rattle.justfile_vocabulary.specs.declared.keyword.Keyword.{Keyword}
pub use Rattle.justfile_vocabulary.specs.declared.list_feature.ListFeature.{ListFeature}
pub use Rattle.justfile_numbers.specs.declared.number.Number.{Number}
pub use Rattle.justfile_numbers.specs.declared.numerator.Numerator.{Numerator}
pub use Rattle.justfile_vocabulary.specs.declared.signal.Signal.{Signal}
pub use Rattle.justfile_vocabulary.specs.declared.token_kind.TokenKind.{TokenKind}
pub use Rattle.justfile_vocabulary.specs.declared.unstable_feature.UnstableFeature.{UnstableFeature}
pub use Rattle.justfile_numbers.specs.declared.version.Version.{Version}
