use Rattle.std.proofs.lemmas.Result.{err_from_is_err_and}
use Rattle.justfile_parse_expression.specs.View.{state_of}
use Rattle.justfile_parse_item_parts.proofs.FilePaths.{mark_fails}
use Rattle.justfile_parse_item_parts.proofs.file_path.parse_file_path.Goals as goal

pub returns-in_err-expand : goal.returns-in_err-expand
returns-in_err-expand g c =
    let A = g.X.Expander.answer in
    let p = err_from_is_err_and c.from_residual.result c.from_residual.ensures.1 in
    rw (p.1, p.2) (mark_fails (state_of A c.args.parser.now) (state_of A c.parse_mark.new.parser) c.in_err-expand.field-0.0 c.in_err-expand.ensures)
