use Rattle.justfile_literal_parts.proofs.DigitTexts.{not_read}
use Rattle.justfile_literal_parts.proofs.escape.parse_character.Goals as goal

pub returns-in-Err : goal.returns-in-Err
returns-in-Err c = not_read c.args.hex.now _ _ c.requires.hex c.requires.some c.from_str_radix.ensures.value c.in-Err.is
