use Rattle.std.proofs.Common.{arith}
use Rattle.std.proofs.lemmas.Grind.{common_steps}
use Rattle.justfile_model.specs.Lexing.Next.{literal_part}
use Rattle.justfile_lex.proofs.explain.explain_closing_brace.Goals as goal

pub returns-in-Some : goal.returns-in-Some
unfolding literal_part
returns-in-Some c = grind (arith, common_steps)
