use Rattle.std.proofs.Common.{arith}
use Rattle.justfile_survey.proofs.Parsed.{within}
use Rattle.justfile_survey.proofs.parsing.parse.Goals as goal

pub returns-in-Some : goal.returns-in-Some
returns-in-Some c =
    within c.args.source.path.now c.args.source.text.now _ _ c.args.part (record { start = c.args.part.start; end = c.without_blank_lines-end.result }) c.parse_piece.result (omega arith)
    c.without_blank_lines-end.ensures.within c.parse_piece.ensures
