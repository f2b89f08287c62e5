use Rattle.justfile_model.proofs.Printed.UncommentedText.{without_comments}
use Rattle.justfile_model.proofs.grammar_laws.uncommented.Goals as goal

pub returns : goal.returns
returns c = without_comments
