use Rattle.std.proofs.Common.{refl}
use Rattle.std.specs.Char.{encode_utf8}
use Rattle.std.proofs.Output.{has_written_append}
use Rattle.justfile_token.proofs.excerpt.write_bar.Goals as goal

pub returns : goal.returns
unfolding encode_utf8
returns g c = λ plain ok.
    let indent = c.in_ok-write_indent.ensures plain refl in
    has_written_append _ _ _ _ _ _ indent (c.write_str.ensures.writes indent.plain ok)
