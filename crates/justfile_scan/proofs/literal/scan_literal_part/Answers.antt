use Rattle.std.proofs.Common.{◌≤◌, Bool, cond, ap, arith, length, length-drop}
use Rattle.justfile_model.specs.declared.raw_text.RawText.TheVariants.{Literal}
use Rattle.justfile_model.proofs.Lexing.CutLemmas.{raw_within}
use Rattle.justfile_scan.proofs.literal.scan_literal_part.Goals as goal

delimiter_small : (b : Bool) → cond b 3 1 ≤ 3
delimiter_small b = grind arith

pub overflow_add-opener_len-else-format : goal.overflow_add-opener_len-else-format
overflow_add-opener_len-else-format c =
    omega (arith, c.requires.fits, c.raw_len-inside_len.ensures, raw_within (Literal c.args.kind c.args.format) c.skip-body.result.now, ap length c.skip-body.ensures, length-drop c.args.opener_len c.args.rest.now)

pub overflow_add-opener_len-else-format-2 : goal.overflow_add-opener_len-else-format-2
overflow_add-opener_len-else-format-2 c =
    omega (arith, c.requires.fits, c.delimiter_len.ensures, delimiter_small c.args.kind.indented, c.raw_len-inside_len.ensures, raw_within (Literal c.args.kind c.args.format) c.skip-body.result.now, ap length c.skip-body.ensures, length-drop c.args.opener_len c.args.rest.now)
