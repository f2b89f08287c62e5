use Rattle.std.proofs.Common.{arith}
use Rattle.justfile_vocabulary.proofs.ByteTable.{class_in_table}
use Rattle.justfile_vocabulary.proofs.byte_class.byte_class.Goals as goal

pub returns : goal.returns
returns c = class_in_table c.args.byte _ (omega arith)
