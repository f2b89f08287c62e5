use Rattle.std.proofs.Common.{◌++◌, codes, max, refl}
use Rattle.std.proofs.Output.{has_written_append, has_written_of_eq}
use Rattle.std.specs.List.{repeat}
use Rattle.justfile_token.specs.Excerpt.{bar_line}
use Rattle.justfile_message.specs.Columns.{width_in}
use Rattle.justfile_token.proofs.excerpt.write_caret_line.Goals as goal

pub returns : goal.returns
returns g c = λ plain ok.
    let token = c.args.token.now in
    let line = c.args.line.now in
    let bar = c.in_ok-write_bar.ensures plain refl in
    let space = has_written_append _ _ _ _ _ _ bar (c.in_ok-write_str.ensures.writes bar.plain refl) in
    let before = has_written_append _ _ _ _ _ _ space (c.in_ok-write_columns.ensures space.plain refl) in
    has_written_of_eq _ _ _ _ _
    (λ i. bar_line token ++ codes " " ++ repeat (width_in line 0 token.column) (codes " ") ++ repeat (max 1 (width_in line token.column (c.max.ensures i))) (codes "^"))
    (has_written_append _ _ _ _ _ _ before (c.write_carets.ensures before.plain ok))
