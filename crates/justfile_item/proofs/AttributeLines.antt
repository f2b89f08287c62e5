-- The lines of attributes.
use Rattle.std.proofs.Common.{◌≡◌, List, map, ◌∙◌}
use Rattle.std.specs.List.{flat_map}
use Rattle.std.proofs.lemmas.List.Folds.{flat_map-map}
use Rattle.justfile_model.specs.Printed.Printing.{entry_text}
use Rattle.justfile_model.specs.Trees.Tree.{lexeme, nothing, over_entry}
use Rattle.justfile_attribute_set.specs.Pairs.{Pair, entry_of}
use Rattle.justfile_item.specs.Attributes.{attribute_line, lines_text}

pub lines_parts : (pairs : List Pair) → lines_text pairs ≡ flat_map attribute_line pairs
lines_parts pairs =
    flat_map-map entry_text (over_entry lexeme nothing) (map entry_of pairs)
    ∙ flat_map-map (λ e. entry_text (over_entry lexeme nothing e)) entry_of pairs
