use Rattle.std.proofs.Common.{◌≡◌, ◌-◌, drop, map, take}
use Rattle.justfile_vocabulary.specs.Indentation.{indentation_text}
use Rattle.justfile_item.specs.Item.{item_shape}
use Rattle.justfile_ast.specs.Separator.{front_text, last_separator}
use Rattle.justfile_ast.proofs.ast.write_items.Given as goal

abbrev pub invariant-loop-index : goal.invariant-loop-index
invariant-loop-index g l =
    g.S.Sink.took l.initial.sink (front_text (indentation_text l.indentation) l.fn.separator (map item_shape (take (l.index - l.first) (drop l.first l.items)))) l.sink
    × (l.following ≡ last_separator l.fn.separator (map item_shape (take (l.index - l.first) (drop l.first l.items))))
