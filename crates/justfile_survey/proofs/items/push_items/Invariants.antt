use Rattle.std.proofs.Common.{length, take}
use Rattle.std.specs.List.{flat_map}
use Rattle.justfile_survey.specs.Items.{item_seen}
use Rattle.justfile_survey.specs.Seen.{Adds}
use Rattle.justfile_survey.proofs.items.push_items.Given as goal

abbrev pub invariant-loop-item : goal.invariant-loop-item
invariant-loop-item l = Adds (length l.part.text.now) l.found.items l.fn.found.items (flat_map (item_seen (length l.part.text.now) l.part.base) (take l.item-index l.items))
