-- A text names an attribute kind exactly if it is the kind's name.
use Rattle.std.proofs.Common.{◌≡◌, ℕ, List, Some, refl, sym}
use Rattle.std.proofs.lemmas.Slice.Eq.{bytes_eq-Decides}
use Rattle.std.specs.Str.{bytes_eq}
use Rattle.justfile_vocabulary.proofs.FoundLemmas.{found_passes}
use Rattle.justfile_vocabulary.specs.AttributeKind.{attribute_name, attribute_kinds, kind_named}
use Rattle.justfile_vocabulary.specs.declared.attribute_kind.AttributeKind.{AttributeKind}
use Rattle.justfile_vocabulary.specs.declared.attribute_kind.AttributeKind.TheVariants.{Android}

-- The kind of a kind's name is that kind. The first clause makes the checker go through all kinds.
pub named : (k : AttributeKind) → kind_named (attribute_name k) ≡ Some k
unfolding kind_named
named Android = refl
named kind = refl

-- a text that is the name of a kind is that kind's name
pub name_of_named : (n : List ℕ) (k : AttributeKind) → kind_named n ≡ Some k → n ≡ attribute_name k
unfolding kind_named
name_of_named n k e =
    sym ((bytes_eq-Decides (attribute_name k) n).0 (found_passes (λ kind. bytes_eq (attribute_name kind) n) attribute_kinds k e))
