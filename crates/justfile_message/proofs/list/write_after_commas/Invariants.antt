use Rattle.std.proofs.Common.{take}
use Rattle.std.specs.Fmt.{HasWritten, IsPlainFormatter}
use Rattle.std.specs.List.{flat_map}
use Rattle.justfile_message.specs.List.{after_comma, item_text}
use Rattle.justfile_message.proofs.list.write_after_commas.Given as goal

abbrev pub invariant-loop-item : goal.invariant-loop-item
invariant-loop-item g l =
    IsPlainFormatter l.initial.f → HasWritten g.W.Write.write_str_gives l.initial.f (flat_map (λ item. after_comma (item_text l.ticked (g.T.Alternative.alternative_text item))) (take l.item-index l.items)) l.f
