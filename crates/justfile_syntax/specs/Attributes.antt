-- Attributes and sets of them, and how the definitions see them.
pub use Rattle.justfile_attribute.specs.Attribute.{attribute_of, attribute_shape}
pub use Rattle.justfile_attribute.specs.declared.attribute.Attribute.{Attribute}
pub use Rattle.justfile_attribute.specs.declared.interpreter.Interpreter.{Interpreter}
pub use Rattle.justfile_attribute_set.specs.AttributeSet.{AttributeSet, attributes_of, entries_of, pairs_of, written_of}
pub use Rattle.justfile_attribute_set.specs.Attributes.{are_enabled, groups_in, has_kind, is_of_kind}
pub use Rattle.justfile_attribute_set.specs.Copies.{IsSameAttributes}
pub use Rattle.justfile_attribute_set.specs.Expressions.{set_expressions}
pub use Rattle.justfile_attribute_set.specs.Keys.{firsts, keys_left}
pub use Rattle.justfile_written.specs.declared.written.Written.{Written}
