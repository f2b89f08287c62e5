use Rattle.std.proofs.Common.{length}
use Rattle.justfile_analysis.proofs.FoundParts.{read_by}
use Rattle.justfile_analysis.proofs.reading.read_before.Goals as goal

pub returns-in_ok-known-in-Some : goal.returns-in_ok-known-in-Some
returns-in_ok-known-in-Some c =
    read_by c.args.text.now (length c.args.front.now) c.in-Some.ast c.in_ok-known-in-Some.field-0 c.requires c.in-Some.ensures
    c.in_ok-known-in-Some.ensures
