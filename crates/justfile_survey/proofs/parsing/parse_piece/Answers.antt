use Rattle.justfile_survey.proofs.Parsed.{of_file}
use Rattle.justfile_survey.proofs.parsing.parse_piece.Goals as goal

pub returns-in-Ok : goal.returns-in-Ok
returns-in-Ok c =
    of_file c.args.piece.source.path.now c.args.piece.source.text.now _ _ c.args.piece.lines c.args.piece.base c.args.piece.parsed.now c.in-Ok.ast c.add_items-rejection.result c.requires.inside
    c.requires.base c.requires.parsed c.in-Ok.ensures.ok c.add_items-rejection.ensures
