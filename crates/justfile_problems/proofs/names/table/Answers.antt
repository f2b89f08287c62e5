use Rattle.std.proofs.Common.{arith}
use Rattle.justfile_problems.specs.Names.{key, key_of, same}
use Rattle.justfile_problems.proofs.Firsts.{one_more}
use Rattle.justfile_problems.proofs.names.table.Goals as goal

pub loop-definition-preserved : goal.loop-definition-preserved
loop-definition-preserved c = λ space scope text.
    one_more (λ d. same (key_of d) (key space scope text)) c.args.definitions.now c.loop-definition.definition-index c.definition-item.result (omega arith) c.definition-item.is _ _
    (c.loop-definition.invariant space scope text) (c.in_ok-note.ensures space scope text)
