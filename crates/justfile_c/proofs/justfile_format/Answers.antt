use Rattle.std.proofs.Common.{refl}
use Rattle.justfile_c.proofs.Rooms.{given, rejected_text}
use Rattle.justfile_c.specs.Answers.{IsFailure, IsRejected, not_utf8}
use Rattle.justfile_c.proofs.justfile_format.Goals as goal

pub returns-in-Err-clause-failed : goal.returns-in-Err-clause-failed
returns-in-Err-clause-failed c =
    λ status. given (IsFailure c.args.text.now) _ _ _ _ (not_utf8 c.in-Err.ensures.cases.0 refl) c.put.ensures.laid

pub returns-in-Err-Rejected-clause-told : goal.returns-in-Err-Rejected-clause-told
returns-in-Err-Rejected-clause-told c =
    let told = rejected_text _ _ _ _ _ c.in-Ok.ensures.cases.0 c.in-Err-Rejected.field-0-is c.in-Err-Rejected.ensures.err c.put_rejection.ensures.place
    in λ status. given (IsRejected c.args.text.now c.put_rejection.result) _ _ _ _ told c.put_rejection.ensures.laid
