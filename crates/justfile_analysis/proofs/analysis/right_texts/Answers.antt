use Rattle.justfile_analysis.proofs.AsRead as read
use Rattle.justfile_analysis.proofs.analysis.right_texts.Goals as goal

pub returns : goal.returns
returns c = read.right_law
