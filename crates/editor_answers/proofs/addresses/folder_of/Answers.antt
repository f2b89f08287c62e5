use Rattle.std.proofs.Common.{refl}
use Rattle.editor_answers.specs.Links.{nowhere}
use Rattle.editor_answers.proofs.Folders.{folder_before}
use Rattle.editor_answers.proofs.addresses.folder_of.Goals as goal

pub returns-in-Some : goal.returns-in-Some
returns-in-Some c = folder_before c.args.uri.now c.in-Some.folder.now c.in-Some.field-0-1.now c.in-Some.ensures.cases

pub returns-in-None : goal.returns-in-None
returns-in-None c = nowhere c.in-None.ensures.cases refl
