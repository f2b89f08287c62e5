use Rattle.std.proofs.Common.{◌≡◌}
use Rattle.justfile_expression.specs.Parts.{first_token, token_of}
use Rattle.justfile_expression.proofs.PartLemmas.{start_left}
use Rattle.justfile_expression.proofs.expression.Expression.token.Given as goal

-- what is reached begins with the token that the expression begins with
abbrev pub invariant-loop-start : goal.invariant-loop-start
invariant-loop-start l = token_of l.start ≡ first_token l.self

abbrev pub decreases-loop-start : goal.decreases-loop-start
decreases-loop-start l = start_left l.start
