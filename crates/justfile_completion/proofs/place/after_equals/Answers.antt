use Rattle.std.proofs.Common.{◌≡◌, ◌≤◌, ◌∙◌, ap, get_or, length, rules}
use Rattle.justfile_completion.specs.Places.{value_of_key}
use Rattle.justfile_completion.proofs.Keys.{key_second}
use Rattle.justfile_completion.proofs.place.after_equals.Goals as goal

pub returns-in-len2-up : goal.returns-in-len2-up
returns-in-len2-up c =
    let two : 2 ≤ length c.args.words.now = search rules in
    let at : c.key-item.result ≡ get_or c.args.words.now 1 c.key-item.result = search rules in
    key_second c.args.words.now c.key-item.result c.value_of_key.result two at (c.value_of_key.ensures ∙ ap value_of_key c.lexeme.ensures)
