use Rattle.std.proofs.Common.{take}
use Rattle.justfile_lex.proofs.TableLemmas.{IsTableTo}
use Rattle.justfile_lex.proofs.table.significant.Given as goal

abbrev pub invariant-loop-token : goal.invariant-loop-token
invariant-loop-token l = IsTableTo (take l.token-index l.tokens) l.glued l.table.items
