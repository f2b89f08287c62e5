use Rattle.std.proofs.Common.{◌+◌, ◌-◌, length}
use Rattle.justfile_attribute_set.proofs.PlaceMoves.{HaveMoved, count_away}
use Rattle.justfile_attribute_set.proofs.places.move_to_places.Given as goal

abbrev pub invariant-loop-index : goal.invariant-loop-index
invariant-loop-index g l = HaveMoved l.index l.fn.places.items l.fn.items.items l.places.items l.items.items

abbrev pub decreases-loop-index : goal.decreases-loop-index
decreases-loop-index g l = count_away 0 l.places.items + (length l.places.items - l.index)
