use Rattle.std.proofs.Common.{arith}
use Rattle.justfile_outline.proofs.Shows.{gathered}
use Rattle.justfile_outline.specs.Symbols.{name_part}
use Rattle.justfile_outline.proofs.parts.names_text.Goals as goal

pub loop-parameter-preserved : goal.loop-parameter-preserved
loop-parameter-preserved c =
    gathered c.args.parameters.now c.loop-parameter.parameter-index c.parameter-item.result (omega arith) c.parameter-item.is name_part _ _ c.loop-parameter.invariant
    c.in_ok-push_name.ensures
