use Rattle.justfile_completion.proofs.Items.{not_cut}
use Rattle.justfile_completion.proofs.cursor.last_item.Goals as goal

pub returns-else-is_char_boundary : goal.returns-else-is_char_boundary
returns-else-is_char_boundary c =
    not_cut c.args.text.now c.as_bytes.result.now c.item_start-start.result c.is_char_boundary.result c.as_bytes.ensures.value c.item_start-start.ensures.is c.is_char_boundary.ensures.test
    c.if-is_char_boundary.false
