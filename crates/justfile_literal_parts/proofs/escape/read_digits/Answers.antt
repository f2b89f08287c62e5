use Rattle.std.proofs.Common.{◌∙◌}
use Rattle.justfile_literal_parts.proofs.DigitTexts.{cut_digits, digits_hex, few, many}
use Rattle.justfile_literal_parts.proofs.escape.read_digits.Goals as goal

pub split_at-requires : goal.split_at-requires
split_at-requires c = (cut_digits c.args.text.now _ c.utf8.text c.hex_len-count.ensures).boundary

pub returns-then-count-gt-MOST_DIGITS-clause-found :
    goal.returns-then-count-gt-MOST_DIGITS-clause-found
returns-then-count-gt-MOST_DIGITS-clause-found c =
    many c.args.text.now _ c.split_at.result.0.now c.hex_len-count.ensures (cut_digits c.args.text.now _ c.utf8.text c.hex_len-count.ensures) c.split_at.ensures.front c.if-count-gt-MOST_DIGITS.true

pub read_closing_brace-requires : goal.read_closing_brace-requires
read_closing_brace-requires c = digits_hex c.args.text.now _ c.split_at.result.0.now c.hex_len-count.ensures (cut_digits c.args.text.now _ c.utf8.text c.hex_len-count.ensures) c.split_at.ensures.front

pub returns-clause-found : goal.returns-clause-found
returns-clause-found c =
    c.read_closing_brace.ensures.found ∙ few c.args.text.now _ c.split_at.result.0.now c.split_at.result.1.now c.hex_len-count.ensures (cut_digits c.args.text.now _ c.utf8.text c.hex_len-count.ensures) c.split_at.ensures.front c.split_at.ensures.back c.if-count-gt-MOST_DIGITS.false
