use Rattle.std.proofs.Common.{◌≡◌, length, take, ap, sym, subst, ◌∙◌}
use Rattle.justfile_model.specs.Lexing.Bytes.{is_blank, blank_len}
use Rattle.justfile_scan.proofs.StackLemmas.{run_take}
use Rattle.justfile_scan.proofs.layout.scan_line_start.Goals as goal

pub scan_indent-requires : goal.scan_indent-requires
scan_indent-requires c =
    let len = c.blank_len-length.ensures ∙ ap blank_len c.as_bytes-bytes.ensures.value in
    let found = c.take_blanks-found.ensures ∙ ap (λ n. take n c.args.rest.now) len in
    subst (λ bs. blank_len bs ≡ length bs) (sym found) (run_take is_blank c.args.rest.now)
