use Rattle.std.proofs.Common.{arith}
use Rattle.justfile_references.proofs.Gathered.{mapped}
use Rattle.justfile_references.specs.References.{function_parameter}
use Rattle.justfile_references.proofs.names.push_function_parameters.Goals as goal

pub loop-parameter-preserved : goal.loop-parameter-preserved
loop-parameter-preserved c =
    mapped c.args.parameters.now c.loop-parameter.parameter-index c.parameter-item.result (omega arith) c.parameter-item.is _ _ _ function_parameter c.loop-parameter.invariant c.in_ok-push_definition.ensures
