use Rattle.justfile_facts.specs.Scopes.{last_before}
use Rattle.justfile_facts.proofs.Last.{one_less}
use Rattle.justfile_facts.proofs.scopes.last_before.Goals as goal

pub loop-parameter-preserved : goal.loop-parameter-preserved
loop-parameter-preserved c =
    let token = c.args.token.now in
    let parameters = c.args.parameters.now in
    let more =
    one_less token parameters c.loop-parameter.parameter-index c.parameter-item.result c.loop-parameter-test.true c.parameter-item.is (last_before token parameters)
    c.loop-parameter.last c.loop-parameter.invariant in
    cc
