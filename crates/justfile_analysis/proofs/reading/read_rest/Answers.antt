use Rattle.justfile_analysis.proofs.FoundParts.{file_is, found_rest, start_within}
use Rattle.justfile_analysis.proofs.reading.read_rest.Goals as goal

pub returns-in-Ok : goal.returns-in-Ok
returns-in-Ok c =
    let text = c.args.text.now in
    found_rest text c.args.start c.in-Ok.known (start_within text c.args.start c.requires)
    (file_is text c.range_from-rest.result.now c.args.start c.read_start.result c.in-Ok.known c.range_from-rest.ensures.value c.read_start.ensures c.in-Ok.ensures.ok)
