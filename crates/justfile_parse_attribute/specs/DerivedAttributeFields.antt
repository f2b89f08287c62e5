-- The derived fields of parsed attributes: what their trees don't show.
use Rattle.std.specs.Prelude.{◌≡◌, All, List, length, map, take}
use Rattle.justfile_attribute.specs.New.{HasDerivedAttributeFields}
use Rattle.justfile_attribute.specs.declared.attribute.Attribute.{Attribute}
use Rattle.justfile_written.specs.declared.written.Written.{Written}

-- The derived fields of each attribute are right.
unfoldable pub HaveDerivedAttributeFields : List Attribute → Type 0
HaveDerivedAttributeFields attributes = All HasDerivedAttributeFields attributes

-- The derived fields of each parsed attribute are right.
abbrev pub HaveDerivedPairFields : List (Attribute × Written) → Type 0
HaveDerivedPairFields pairs = HaveDerivedAttributeFields (map (λ p. p.0) pairs)

-- If the derived fields of the old attributes are right, those of the new ones are.
unfoldable pub KeepsDerivedPairFields : (old new : List (Attribute × Written)) → Type 0
KeepsDerivedPairFields old new = HaveDerivedPairFields old → HaveDerivedPairFields new

-- The attributes of before stand at the front. If their derived fields are right, those of all are.
pub record KeepsPairs (old new : List (Attribute × Written)) : Type 0 where
  pub earlier : take (length old) new ≡ old
  pub fields : KeepsDerivedPairFields old new
