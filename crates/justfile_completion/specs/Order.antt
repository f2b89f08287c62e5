-- Offers in the order of their names.
use Rattle.std.specs.Prelude.{◌≡◌, ℕ, Bool, List, IsPermutation}
use Rattle.std.specs.Cmp.Lexicographic.{slice_cmp}
use Rattle.std.specs.List.{dedup}
use Rattle.std.specs.List.Sorted.{IsSortedByKey, IsStableByKey}
use Rattle.std.specs.Ordering.{nat_cmp}
use Rattle.std.specs.Str.{bytes_eq}
use Rattle.justfile_completion.specs.declared.offer.Offer.{Offer}

abbrev pub name_of : Offer → List ℕ
name_of o = o.name.now

abbrev pub same_name : (first second : Offer) → Bool
same_name first second = bytes_eq first.name.now second.name.now

-- The offers in the order of the bytes of their names. Of those with one name only the first one is there.
pub record AreInOrder (offers ordered : List Offer) : Type 0 where
  pub all : List Offer
  pub are_all : IsPermutation offers all
  pub by_name : IsSortedByKey name_of (slice_cmp nat_cmp) all
  pub kept : IsStableByKey name_of (slice_cmp nat_cmp) offers all
  pub once : ordered ≡ dedup same_name all
