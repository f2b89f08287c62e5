use Rattle.std.proofs.Common.{◌++◌, codes, refl, sym, ap, append_assoc}
use Rattle.std.specs.Char.{encode_utf8}
use Rattle.std.proofs.Output.{has_written_append, has_written_of_eq}
use Rattle.justfile_token.specs.Excerpt.{bar, number_text}
use Rattle.justfile_message.specs.Columns.{shown_line}
use Rattle.justfile_token.proofs.excerpt.write_source.Goals as goal

pub returns : goal.returns
unfolding encode_utf8
returns g c = λ plain ok.
    let number = rw c.ordinal-number.ensures at (c.in_ok-write.ensures.writes plain refl) in
    has_written_of_eq _ _ _ _ _ (ap (λ t. t ++ shown_line c.args.line.now) (sym (append_assoc (number_text c.args.token.now) bar (codes " "))))
    (has_written_append _ _ _ _ _ _ number (c.write_line.ensures number.plain ok))
