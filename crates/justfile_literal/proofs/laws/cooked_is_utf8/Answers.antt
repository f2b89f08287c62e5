use Rattle.justfile_literal.proofs.Texts.{cooked_utf8}
use Rattle.justfile_literal.proofs.laws.cooked_is_utf8.Goals as goal

pub returns : goal.returns
returns c = cooked_utf8
