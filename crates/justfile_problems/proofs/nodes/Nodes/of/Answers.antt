use Rattle.justfile_problems.specs.Names.{key}
use Rattle.justfile_problems.proofs.Lasts.{one_later}
use Rattle.justfile_problems.proofs.nodes.Nodes.of.Goals as goal

pub loop-index-preserved : goal.loop-index-preserved
loop-index-preserved c = λ space scope text.
    one_later c.args.definitions.now c.loop-index.index c.index-definitions-index.result (key space scope text) c.loop-index-test.true c.index-definitions-index.is _ _
    (c.loop-index.invariant space scope text) (c.in_ok-note.ensures space scope text)
