use Rattle.justfile_files.proofs.OutcomeLemmas.{is_told}
use Rattle.justfile_files.proofs.failure.message.Goals as goal

pub returns : goal.returns
returns c = is_told _ _ _ c.with_reason.ensures
