use Rattle.std.proofs.Common.{◌≤◌, length, sym, subst, ◌∙◌}
use Rattle.justfile_token.specs.StringKind.{delimiter_len, kind_of}
use Rattle.justfile_model.proofs.Lexing.CutLemmas.{opener_fits}
use Rattle.justfile_scan.proofs.scan.scan_by_class.Goals as goal

pub scan_literal-requires : goal.scan_literal-requires
scan_literal-requires c = subst (λ bs. delimiter_len (kind_of bs) ≤ length bs) (sym c.as_bytes-bytes.ensures.value) (opener_fits c.args.rest.now c.requires.some (sym c.requires.class ∙ c.in-Quote.is))
