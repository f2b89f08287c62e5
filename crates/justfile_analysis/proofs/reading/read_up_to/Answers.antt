use Rattle.justfile_analysis.proofs.FoundParts.{cut_after, found_read, read_is}
use Rattle.justfile_analysis.proofs.Starts.{ends_character}
use Rattle.justfile_analysis.proofs.reading.read_up_to.Goals as goal

pub range_inclusive-requires-clause-end_boundary :
    goal.range_inclusive-requires-clause-end_boundary
range_inclusive-requires-clause-end_boundary c =
    cut_after c.args.text.now c.args.start c.args.end c.utf8.text c.requires.end c.requires.within

pub range-requires-clause-end_boundary : goal.range-requires-clause-end_boundary
range-requires-clause-end_boundary c =
    ends_character c.args.text.now c.args.end c.requires.end.within c.requires.end.stop

pub returns-in-Some : goal.returns-in-Some
returns-in-Some c =
    let text = c.args.text.now in
    found_read text c.args.start c.args.end c.requires.end c.requires.within c.in-Some.known
    (read_is text c.range_inclusive.result.now c.args.start c.args.end c.read_start-from.result c.in_ok-read_before.field-0 c.in-Some.known
    c.range_inclusive.ensures.value c.read_start-from.ensures c.in-Some.is c.in_ok-read_before.ensures)
