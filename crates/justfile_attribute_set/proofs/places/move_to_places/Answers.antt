use Rattle.std.proofs.Common.{rules, ◌∙◌, ap, sym, subst, length}
use Rattle.std.proofs.lemmas.List.{get_or_read}
use Rattle.std.proofs.lemmas.List.Edits.{length-swap}
use Rattle.justfile_attribute_set.specs.Places.{ArePlaces}
use Rattle.justfile_attribute_set.proofs.PlaceMoves.{all_moved, falls_away, fewer_away, moved_swapped}
use Rattle.justfile_attribute_set.proofs.places.move_to_places.Goals as goal

pub loop-index-preserved : goal.loop-index-preserved
loop-index-preserved g c =
    moved_swapped c.args.places.now.items c.args.items.now.items c.loop-index.index c.loop-index.places.items c.loop-index.items.items c.loop-index.invariant
    c.index-place.result.now (search rules)
    (sym (get_or_read c.loop-index.places.items c.loop-index.index c.index-place.result.now (search rules) (search rules) 0)) (search rules) c.swap-else-place-index.new.self.items c.swap.new.self.items
    c.swap-else-place-index.ensures.by_index c.swap.ensures.by_index (ap length c.swap-else-place-index.ensures.items ∙ length-swap _ _ _)
    (ap length c.swap.ensures.items ∙ length-swap _ _ _)

pub loop-index-smaller : goal.loop-index-smaller
loop-index-smaller g c =
    let left = c.loop-index.invariant.left in
    falls_away c.loop-index.index c.loop-index.places.items c.swap-else-place-index.new.self.items
    (fewer_away c.loop-index.index c.index-place.result.now c.loop-index.places.items c.swap-else-place-index.new.self.items
    (subst (ArePlaces c.loop-index.places.items) (sym left.count) left) (search rules)
    (sym (get_or_read c.loop-index.places.items c.loop-index.index c.index-place.result.now (search rules) (search rules) 0)) (search rules)
    c.swap-else-place-index.ensures.by_index)
    (ap length c.swap-else-place-index.ensures.items ∙ length-swap _ _ _)

pub returns : goal.returns
returns g c =
    all_moved c.args.places.now.items c.args.items.now.items c.loop-index.index c.loop-index.places.items c.loop-index.items.items c.loop-index.invariant
    (search rules)
