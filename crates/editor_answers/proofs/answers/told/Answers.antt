use Rattle.editor_answers.proofs.answers.told.Goals as goal

pub returns-in-Rename-clause-failed : goal.returns-in-Rename-clause-failed
returns-in-Rename-clause-failed g c = rw c.in-Rename.is c.rename.ensures.failed
