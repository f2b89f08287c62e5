use Rattle.std.proofs.Common.{refl}
use Rattle.justfile_references.proofs.defaults.Defaults.has.Goals as goal

pub returns-in-After : goal.returns-in-After
returns-in-After c = rw c.in-After.is refl
