use Rattle.std.proofs.Common.{refl}
use Rattle.std.proofs.Output.{has_written_append}
use Rattle.justfile_token.proofs.excerpt.write_excerpt_on.Goals as goal

pub returns : goal.returns
returns g c = λ plain ok.
    let place = c.in_ok-write_place.ensures plain refl in
    let after_place = has_written_append _ _ _ _ _ _ place (c.in_ok-write_str.ensures.writes place.plain refl) in
    let bar = has_written_append _ _ _ _ _ _ after_place (c.in_ok-write_bar.ensures after_place.plain refl) in
    let after_bar = has_written_append _ _ _ _ _ _ bar (c.in_ok-write_str-2.ensures.writes bar.plain refl) in
    let source = has_written_append _ _ _ _ _ _ after_bar (c.in_ok-write_source.ensures after_bar.plain refl) in
    let after_source = has_written_append _ _ _ _ _ _ source (c.in_ok-write_str-3.ensures.writes source.plain refl) in
    has_written_append _ _ _ _ _ _ after_source (c.write_caret_line.ensures after_source.plain ok)
