-- Bounds of attributes, with their keys.
use Rattle.std.specs.Prelude.{All, IsTrue, List}
use Rattle.std.specs.Option.{is_some}
use Rattle.justfile_attribute.specs.declared.attribute.Attribute.{Attribute}
use Rattle.justfile_attribute.specs.declared.attribute.Attribute.TheVariants as variants

-- Each bound of an attribute has its key; only `arg` has bounds.
abbrev pub HasBoundKeys : Attribute → Type 0
HasBoundKeys (variants.Arg flag help help_property long long_key max max_key min min_key multiple name pattern short short_key value) =
    (IsTrue (is_some max) → IsTrue (is_some max_key)) × (IsTrue (is_some min) → IsTrue (is_some min_key))
HasBoundKeys _ = Unit {0}

-- Each bound of the attributes has its key.
unfoldable pub HaveBoundKeys : List Attribute → Type 0
HaveBoundKeys attributes = All HasBoundKeys attributes
