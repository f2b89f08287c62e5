use Rattle.std.proofs.Common.{arith}
use Rattle.std.proofs.lemmas.Grind.{common_steps}
use Rattle.justfile_model.specs.Lexing.Next.{fixed_token}
use Rattle.justfile_lex.proofs.explain.explain_fixed.Goals as goal

pub returns-then-byte-eq38 : goal.returns-then-byte-eq38
unfolding fixed_token
returns-then-byte-eq38 c = grind (arith, common_steps)

pub returns-then-byte-eq124 : goal.returns-then-byte-eq124
unfolding fixed_token
returns-then-byte-eq124 c = grind (arith, common_steps)

pub returns : goal.returns
unfolding fixed_token
returns c = grind (arith, common_steps)
