use Rattle.justfile_canonical.proofs.Faults.{lacking, rejection_of}
use Rattle.justfile_canonical.proofs.Indented.{file_of}
use Rattle.justfile_canonical.proofs.formatting.parse.Goals as goal

pub returns-in-Ok-clause-ok : goal.returns-in-Ok-clause-ok
returns-in-Ok-clause-ok c = file_of _ _ _ c.in-Ok.ensures.ok

pub returns-in-Err-Compile-clause-err : goal.returns-in-Err-Compile-clause-err
returns-in-Err-Compile-clause-err c =
    rejection_of _ _ c.in-Err-Compile.field-0 c.in-Err-Compile.error c.rejected_fault.result c.utf8.source c.in-Err-Compile.ensures.err c.in-Err-Compile.field-0-is c.rejected_fault.ensures

pub returns-in-Err-Numbers-clause-err : goal.returns-in-Err-Numbers-clause-err
returns-in-Err-Numbers-clause-err c = lacking _ _ c.in-Err-Numbers.field-0 c.in-Err-Numbers.ensures.err c.in-Err-Numbers.field-0-is
