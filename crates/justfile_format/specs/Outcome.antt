-- Why a run fails, and what it leaves.
use Rattle.std.specs.Prelude.{◌≡◌, ◌≢◌, ℕ, List, Option, IfSome, String, string_bytes}
use Rattle.std.specs.Str.{IsUtf8}
use Rattle.justfile_format.specs.Arguments.{AsksCheck, AsksFormat}
use Rattle.justfile_format.specs.Failure.{failure_text, status_of}
use Rattle.justfile_format.specs.Formatting.{IsUnprintable, LacksNumbers}
use Rattle.justfile_format.specs.Formatting.{FormatsBeginning, IsRejection}
use Rattle.system_run.specs.Beginning.{AppendsBeginning}
use Rattle.justfile_format.specs.declared.failure.Failure.{Failure}
use Rattle.justfile_format.specs.declared.failure.Failure.TheVariants.{Usage, Reading, NotUtf8, Rejected, NotPrintable, Writing, Memory, Numbers}

-- What a failure implies about the arguments, the input, and the output before and after. That reading failed or memory ran out implies
-- nothing.
abbrev pub IsWhy : {A : Type 0} → List (String A) → (source old new : Option (List ℕ)) → Failure → Type 0
IsWhy arguments source old new Usage = ¬ AsksFormat arguments × ¬ AsksCheck arguments
IsWhy arguments source old new Reading = Unit {0}
IsWhy arguments source old new NotUtf8 = IfSome source (λ text. ¬ IsUtf8 text)
IsWhy arguments source old new (Rejected lines) = IfSome source (λ text. IsRejection text (string_bytes lines))
IsWhy arguments source old new NotPrintable = IfSome source IsUnprintable
IsWhy arguments source old new Writing = AsksFormat arguments × IfSome source (λ text. FormatsBeginning text old new)
IsWhy arguments source old new Memory = Unit {0}
IsWhy arguments source old new Numbers = IfSome source LacksNumbers

-- The run fails with this status and with a failure for a true reason. Nothing is written to the output unless a write failed. The
-- beginning of the failure's lines, or all of them, is written to standard error.
pub record Fails {A W : Type 0} (arguments : List (String A)) (source : Option (List ℕ)) (contents : W → Option (List ℕ)) (old new : W)
    (errors_old errors_new : Option (List ℕ)) (status : ℕ) : Type 0 where
  pub failure : Failure
  pub status_is : status ≡ status_of failure
  pub why : IsWhy arguments source (contents old) (contents new) failure
  pub unwritten : failure ≢ Writing → new ≡ old
  pub told : AppendsBeginning errors_old errors_new (failure_text failure)
