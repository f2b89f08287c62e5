use Rattle.std.proofs.Common.{codes, sym}
use Rattle.std.proofs.Output.{has_written_of_eq}
use Rattle.justfile_message.proofs.ColumnLemmas.{repeat-max, repeat-max_none}
use Rattle.justfile_message.proofs.columns.write_carets.Goals as goal

pub returns-then-has_width : goal.returns-then-has_width
returns-then-has_width g c = λ plain ok.
    has_written_of_eq _ _ _ _ _ (sym (repeat-max _ (codes "^") (c.has_width.ensures.0 c.if-has_width.true)))
    (c.write_columns.ensures plain ok)

pub returns-else-has_width : goal.returns-else-has_width
returns-else-has_width g c = λ plain ok.
    has_written_of_eq _ _ _ _ _ (sym (repeat-max_none _ (codes "^") (λ some. let wide = c.has_width.ensures.1 some in absurd (cc))))
    (c.write_str.ensures.writes plain ok)
