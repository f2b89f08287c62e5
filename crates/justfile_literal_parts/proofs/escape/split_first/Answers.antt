use Rattle.std.proofs.Common.{List, ◌++◌, ℕ, sym, ap, ◌∙◌}
use Rattle.std.specs.Char.{encode_utf8}
use Rattle.std.proofs.lemmas.Str.{chars_past_char}
use Rattle.justfile_literal_parts.proofs.escape.split_first.Goals as goal

pub returns-clause-value : goal.returns-clause-value
returns-clause-value c =
    chars_past_char c.args.text.now c.as_str.result.now c.in_ok-character.character c.utf8.text
    (sym c.chars-characters.ensures.rest ∙ c.in_ok-character.ensures.steps.0 ∙ ap (λ (l : List ℕ). encode_utf8 c.in_ok-character.character ++ l) (sym c.as_str.ensures))
