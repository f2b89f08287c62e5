use Rattle.justfile_model.specs.Lexing.Bytes.{is_blank}
use Rattle.justfile_model.proofs.Lexing.CutLemmas.{run_cuts, blank_ascii}
use Rattle.justfile_scan.proofs.bytes.take_blanks.Goals as goal

pub range-requires-clause-end_boundary : goal.range-requires-clause-end_boundary
range-requires-clause-end_boundary c = run_cuts is_blank blank_ascii _ _ c.utf8.text c.requires
