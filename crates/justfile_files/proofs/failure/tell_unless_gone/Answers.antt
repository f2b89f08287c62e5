use Rattle.justfile_files.proofs.OutcomeLemmas.{one_message}
use Rattle.justfile_files.proofs.failure.tell_unless_gone.Goals as goal

pub returns : goal.returns
returns g c = one_message g.E.Messages.tells _ _ _ c.tell_reason.ensures
