-- Sets of attributes after resolution.
use Rattle.std.specs.Prelude.{◌≡◌, ℕ, List, Option}
use Rattle.std.specs.List.{AllZip}
use Rattle.justfile_attribute.specs.Resolved.{IsResolvedAttribute}
use Rattle.justfile_attribute_set.specs.AttributeSet.{AttributeSet, written_of}
use Rattle.justfile_attribute_set.specs.Pairs.{Pair}
use Rattle.justfile_numbers.specs.declared.number.Number.{Number}

module _ (numbers : (name : List ℕ) → Option Number) where
  -- a resolved attribute, with the same name and the same comment
  abbrev pub IsResolvedPair : (resolved original : Pair) → Type 0
  IsResolvedPair resolved original = IsResolvedAttribute numbers resolved.0 original.0 × (resolved.1 ≡ original.1)

  -- a set: its attributes are resolved, one by one
  abbrev pub AreResolvedAttributes : (resolved original : AttributeSet) → Type 0
  AreResolvedAttributes resolved original = AllZip IsResolvedPair (written_of resolved) (written_of original)
