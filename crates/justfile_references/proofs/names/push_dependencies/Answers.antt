use Rattle.std.proofs.Common.{arith}
use Rattle.justfile_references.proofs.Gathered.{gathered}
use Rattle.justfile_references.specs.References.{dependency_names}
use Rattle.justfile_references.proofs.names.push_dependencies.Goals as goal

pub loop-dependency-preserved : goal.loop-dependency-preserved
loop-dependency-preserved c =
    gathered c.args.dependencies.now c.loop-dependency.dependency-index c.dependency-item.result (omega arith) c.dependency-item.is _ _ _ dependency_names c.loop-dependency.invariant c.in_ok-push_path.ensures
