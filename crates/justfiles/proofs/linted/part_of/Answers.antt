use Rattle.justfiles.proofs.Told.{said}
use Rattle.justfiles.proofs.linted.part_of.Goals as goal

pub returns-in-Ok-clause-ok : goal.returns-in-Ok-clause-ok
returns-in-Ok-clause-ok g c =
    said g.F.Folders.has c.args.file.now c.in-Ok.ast c.as_str-name.result.now c.as_str.result.now c.as_str-source.result.now c.part_in.result c.as_str-name.ensures.value c.as_str.ensures.value c.as_str-source.ensures.value c.in-Ok.ensures.ok
    c.part_in.ensures.ok
