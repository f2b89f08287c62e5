use Rattle.std.proofs.Common.{rules, sym, subst, length}
use Rattle.std.specs.Cmp.{on_total}
use Rattle.justfile_attribute_set.specs.Places.{HaveNumbers, IsInverse}
use Rattle.justfile_model.proofs.Lists.OrderLaws.{sort_by_is}
use Rattle.justfile_attribute_set.proofs.Placed.{are_places, if_ok, items_at, have_numbers}
use Rattle.justfile_attribute_set.proofs.places.places_in_order.Goals as goal

pub invert-requires : goal.invert-requires
invert-requires g c =
    subst HaveNumbers (sym c.deref.ensures.value)
    (have_numbers c.args.items.now c.in_ok-numbered.numbered.items c.sort_by.new.self.items c.in_ok-numbered.ensures c.in_ok-sort_by.ensures.permutation)

pub returns-clause-places : goal.returns-clause-places
returns-clause-places g c =
    if_ok c.invert.result
    (λ places h. are_places c.args.items.now c.in_ok-numbered.numbered.items c.sort_by.new.self.items c.in_ok-numbered.ensures c.in_ok-sort_by.ensures.permutation
    places.items (subst (λ sorted. IsInverse (length sorted) sorted places.items) c.deref.ensures.value h))
    c.invert.ensures

pub returns-clause-ordered : goal.returns-clause-ordered
returns-clause-ordered g c =
    if_ok c.invert.result
    (λ places h R total compares.
    items_at c.args.items.now c.in_ok-numbered.numbered.items c.sort_by.new.self.items c.in_ok-numbered.ensures c.in_ok-sort_by.ensures.permutation
    places.items (subst (λ sorted. IsInverse (length sorted) sorted places.items) c.deref.ensures.value h) R
    (sort_by_is (on_total (λ r. r.0.now) total) c.in_ok-numbered.numbered.items c.sort_by.new.self.items c.in_ok-sort_by.ensures.sorted
    c.in_ok-sort_by.ensures.stable (λ a r f' k. search (rules, compares))))
    c.invert.ensures
