use Rattle.std.proofs.Common.{refl, append_assoc}
use Rattle.std.specs.Char.{encode_utf8}
use Rattle.std.proofs.Output.{has_written_append, has_written_of_eq}
use Rattle.justfile_token.proofs.excerpt.write_place.Goals as goal

pub returns : goal.returns
unfolding encode_utf8
returns g c = λ plain ok.
    let indent = c.in_ok-write_indent.ensures plain refl in
    has_written_of_eq _ _ _ _ _ (simp (append_assoc, c.ordinal-line.ensures, c.ordinal-column.ensures))
    (has_written_append _ _ _ _ _ _ indent (c.write.ensures.writes indent.plain ok))
