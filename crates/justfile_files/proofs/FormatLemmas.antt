-- What the formatter refuses.
use Rattle.std.proofs.Common.{◌≡◌, ℕ, List, refl, sym, subst}
use Rattle.justfile_files.specs.Failure.{failure_of}
use Rattle.justfile_files.specs.FileResult.{IsRefused}
use Rattle.justfile_files.specs.Formatter.{IfRejected}
use Rattle.justfile_files.specs.declared.failure.Failure.{Failure}
use Rattle.justfile_files.specs.declared.formatter.Refusal.{Refusal}
use Rattle.justfile_files.specs.declared.formatter.Refusal.TheVariants.{Exhausted, Rejected}

refused_by : (Holds : List ℕ → Type 0) (refusal : Refusal) → IfRejected Holds refusal → IsRefused Holds (failure_of refusal)
refused_by Holds (Rejected lines) h = h
refused_by Holds (Exhausted what) h = refl

pub refused : (Holds : List ℕ → Type 0) (refusal : Refusal) (failure : Failure) → failure ≡ failure_of refusal → IfRejected Holds refusal → IsRefused Holds failure
refused Holds refusal failure e h = subst (IsRefused Holds) (sym e) (refused_by Holds refusal h)
