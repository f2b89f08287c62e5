use Rattle.justfile_attribute.proofs.Equalities.{same_is}
use Rattle.justfile_attribute.proofs.laws.attributes_equal.Goals as goal

pub returns : goal.returns
returns c = same_is
