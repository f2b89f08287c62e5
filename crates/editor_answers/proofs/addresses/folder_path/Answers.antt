use Rattle.editor_answers.proofs.Folders.{path_if}
use Rattle.editor_answers.proofs.addresses.folder_path.Goals as goal

pub returns-in-Some : goal.returns-in-Some
returns-in-Some c = path_if c.args.folder.now c.in-Some.encoded.now c.decoded.result c.in-Some.ensures c.decoded.ensures
