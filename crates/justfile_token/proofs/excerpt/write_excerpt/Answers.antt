use Rattle.std.proofs.Common.{ap}
use Rattle.std.proofs.Output.{has_written_of_eq}
use Rattle.justfile_token.specs.Excerpt.{excerpt_on}
use Rattle.justfile_token.proofs.excerpt.write_excerpt.Goals as goal

pub returns : goal.returns
returns g c = λ plain ok. has_written_of_eq _ _ _ _ _ (ap (excerpt_on c.args.token.now) c.line_at.ensures) (c.write_excerpt_on.ensures plain ok)
