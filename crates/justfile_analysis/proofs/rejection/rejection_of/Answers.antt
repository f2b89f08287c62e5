use Rattle.justfile_analysis.proofs.Starts.{ends_character}
use Rattle.justfile_analysis.proofs.rejection.rejection_of.Goals as goal

pub range-read-requires-clause-end_boundary : goal.range-read-requires-clause-end_boundary
range-read-requires-clause-end_boundary c = ends_character c.args.text.now c.args.end c.requires.end.within c.requires.end.stop
