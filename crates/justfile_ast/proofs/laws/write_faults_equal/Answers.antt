use denote.Enum.Bare.{same_true, true_same}
use Rattle.justfile_ast.specs.contracts.write_fault.WriteFault as fault
use Rattle.justfile_ast.proofs.laws.write_faults_equal.Goals as goal

pub returns : goal.returns
returns c = λ x y. (same_true fault.the_type tt x y, true_same fault.the_type x y)
