-- What writing the canonical text of a text means.
use Rattle.std.proofs.Common.{◌≡◌, ◌≢◌, ℕ, List, Option, Result, Ok, Err, sym, subst}
use Rattle.std.specs.Prelude.{IfErr, OnOk}
use Rattle.std.specs.Io.KnownBytes.{Appends}
use Rattle.justfile_canonical.specs.Formatting.{IsFormatted, IsUnprintable, LacksNumbers}
use Rattle.justfile_format.specs.Failure.{IfRejected, IsOfTextOrWriting}
use Rattle.justfile_format.specs.Formatting.{Formats, FormatsBeginning}
use Rattle.justfile_format.specs.declared.failure.Failure.{Failure}
use Rattle.justfile_format.specs.declared.failure.Failure.TheVariants as failures
use Rattle.system_run.specs.Beginning.{AppendsBeginning}

module _ (source canonical : List ℕ) (formatted : IsFormatted source canonical) (old new : Option (List ℕ)) where
  pub formats_text : (r : Result (Unit {0}) Failure) → OnOk r (Appends old new canonical) → OnOk r (Formats source old new)
  formats_text (Ok done) h = record { canonical = canonical; formatted = formatted; written = h }
  formats_text (Err failure) h = tt

  pub begins_text : AppendsBeginning old new canonical → FormatsBeginning source old new
  begins_text h = record { canonical = canonical; formatted = formatted; written = h }

-- ---- the only failure is that of writing

abbrev IsWriting : Failure → Type 0
IsWriting e = e ≡ failures.Writing

pub never_rejected : (Holds : List ℕ → Type 0) (r : Result (Unit {0}) Failure) → IfErr r IsWriting → IfErr r (IfRejected Holds)
never_rejected Holds (Ok done) h = tt
never_rejected Holds (Err e) h = subst (IfRejected Holds) (sym h) tt

pub writing : (r : Result (Unit {0}) Failure) → IfErr r IsWriting → IfErr r IsOfTextOrWriting
writing (Ok done) h = tt
writing (Err e) h = subst IsOfTextOrWriting (sym h) tt

pub never_unwritten : (P : Type 0) (r : Result (Unit {0}) Failure) → IfErr r IsWriting → IfErr r (λ e. e ≢ failures.Writing → P)
never_unwritten P (Ok done) h = tt
never_unwritten P (Err e) h = λ n. absurd (n h)

pub not_unprintable : (source : List ℕ) (r : Result (Unit {0}) Failure) → IfErr r IsWriting → r ≡ Err failures.NotPrintable → IsUnprintable source
not_unprintable source (Ok done) h e = absurd cc
not_unprintable source (Err f) h e = absurd cc

pub not_numbers : (source : List ℕ) (r : Result (Unit {0}) Failure) → IfErr r IsWriting → r ≡ Err failures.Numbers → LacksNumbers source
not_numbers source (Ok done) h e = absurd cc
not_numbers source (Err f) h e = absurd cc
