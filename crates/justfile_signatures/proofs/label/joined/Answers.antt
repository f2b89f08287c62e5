use Rattle.std.proofs.Common.{◌∙◌}
use Rattle.justfile_signatures.proofs.Joined.{same_texts}
use Rattle.justfile_signatures.proofs.label.joined.Goals as goal

pub returns : goal.returns
returns c = c.in_ok-made.ensures.ok ∙ same_texts c.args.between.now c.args.texts.now
