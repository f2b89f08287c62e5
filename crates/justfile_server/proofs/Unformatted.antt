-- Why a text has no formatted text.
use Rattle.std.proofs.Common.{ℕ, ◌⊎◌, List, inl, inr}
use Rattle.justfile_canonical.specs.Fault.{IsRejectionOf}
use Rattle.justfile_canonical.specs.Formatting.{HasNone, IsUnprintable, LacksNumbers, rejected, unprintable}
use Rattle.justfile_canonical.specs.declared.fault.Rejection.{Rejection}

pub no_justfile : (path source : List ℕ) (rejection : Rejection) → IsRejectionOf path source rejection → HasNone source ⊎ LacksNumbers source
no_justfile path source rejection h = inl (rejected h.told.rejected)

pub not_printable : (source : List ℕ) → IsUnprintable source → HasNone source ⊎ LacksNumbers source
not_printable source h = inl (unprintable h)

pub no_numbers : (source : List ℕ) → LacksNumbers source → HasNone source ⊎ LacksNumbers source
no_numbers source h = inr h
