-- Places of offsets.
use Rattle.std.proofs.Common.{◌≡◌, ◌∙◌, ℕ, List, ap}
use Rattle.justfile_lines.specs.Positions.{IsPlace, column_at, line_at}
use Rattle.justfile_lines.specs.declared.encoding.Encoding.{Encoding}
use Rattle.justfile_lines.specs.declared.position.Place.{Place}
use Rattle.editor_answers.specs.Ranges.{position_of}

-- the position of the place of an offset
pub position_is : (encoding : Encoding) (text : List ℕ) (p : Place) (offset : ℕ) → p.offset ≡ offset → IsPlace encoding text p → p.position ≡ position_of encoding text offset
position_is encoding text p offset e is =
    λ i. record { line = (is.line_is ∙ ap (line_at text) e) i; column = (is.column_is ∙ ap (column_at encoding text) e) i }
