use Rattle.std.proofs.Common.{ap, [], ◌∷◌, refl}
use Rattle.justfile_files.proofs.OutcomeLemmas.{other_failure}
use Rattle.justfile_files.proofs.failure.report.Goals as goal

pub returns-in-Rejected-clause-told : goal.returns-in-Rejected-clause-told
returns-in-Rejected-clause-told g c = (
  c.as_str.result.now ∷ [],
  rw c.in-Rejected.is (ap (λ l. l ∷ []) c.as_str.ensures.value),
  (c.tell.new.self, c.tell.ensures, refl),
)

pub returns-in_default : goal.returns-in_default
returns-in_default g c =
    let told = c.tell_reason.ensures in
    let other = other_failure c.args.name.now told.0 c.args.failure.now c.in_default.not-Rejected c.in_default.not-Writing told.1 in
    record { status = other.0; told = (told.0 ∷ [], other.1, (c.tell_reason.new.errors, told.2, refl)) }
