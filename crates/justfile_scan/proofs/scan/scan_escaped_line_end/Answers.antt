use Rattle.std.proofs.Common.{arith}
use Rattle.std.proofs.lemmas.List.Sums.{prefix_len-le-length}
use Rattle.justfile_model.specs.Lexing.Bytes.{is_blank}
use Rattle.justfile_scan.proofs.scan.scan_escaped_line_end.Goals as goal

pub overflow_add-blank_len : goal.overflow_add-blank_len
overflow_add-blank_len c = omega (arith, c.blank_len.ensures, prefix_len-le-length is_blank c.skip.result.now)

pub overflow_add-blank_len-then-byte_at-eq10 : goal.overflow_add-blank_len-then-byte_at-eq10
overflow_add-blank_len-then-byte_at-eq10 c = omega (arith, c.blank_len-then-byte_at-eq10.ensures, prefix_len-le-length is_blank c.skip-then-byte_at-eq10.result.now)
