-- Copies of sets of attributes.
use Rattle.std.specs.Prelude.{◌≡◌}
use Rattle.std.specs.List.{AllZip}
use Rattle.justfile_attribute.specs.Copies.{IsSameAttribute}
use Rattle.justfile_attribute_set.specs.AttributeSet.{AttributeSet, written_of}
use Rattle.justfile_attribute_set.specs.Pairs.{Pair}

-- a copy of an attribute, with the same name and the same comment
abbrev pub IsSamePair : (copy original : Pair) → Type 0
IsSamePair copy original = IsSameAttribute copy.0 original.0 × (copy.1 ≡ original.1)

-- a copy of a set: copies of its attributes, one by one
abbrev pub IsSameAttributes : (copy original : AttributeSet) → Type 0
IsSameAttributes copy original = AllZip IsSamePair (written_of copy) (written_of original)
