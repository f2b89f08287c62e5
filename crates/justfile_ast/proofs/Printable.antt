-- A file is printable exactly if all of its items are, and the loop over them.
use Rattle.std.proofs.Common.{◌≡◌, ℕ, ◌+◌, ◌<◌, ◌≤◌, Bool, true, false, ◌&&◌, List, [], ◌∷◌, length, drop, map, get_or, refl, sym, ap, ◌∙◌}
use Rattle.std.specs.List.{list_all}
use Rattle.std.proofs.lemmas.List.{at_drop_more, drop_all}
use Rattle.justfile_model.specs.Printed.Printing.{printable, printable_item}
use Rattle.justfile_model.specs.Trees.Tree.{item_shape_of}
use Rattle.justfile_item.specs.Item.{item_of, item_shape}
use Rattle.justfile_item.specs.declared.item.Item.{Item}

pub printable_items : (items : List Item) → printable (map item_shape_of (map item_of items)) ≡ list_all (λ i. printable_item (item_shape i)) items
printable_items [] = refl
printable_items (i ∷ items) = ap (λ b. printable_item (item_shape i) && b) (printable_items items)

abbrev is_printable : Item → Bool
is_printable i = printable_item (item_shape i)

-- the items from an index on are the item there and those after it
printable_from : (all : List Item) (n : ℕ) (i : Item) → n < length all → i ≡ get_or all n i
    → list_all is_printable (drop n all) ≡ (is_printable i && list_all is_printable (drop (n + 1) all))
printable_from all n i h e = at_drop_more (list_all is_printable) all n i h ∙ ap (λ (k : Item). is_printable k && list_all is_printable (drop (n + 1) all)) (sym e)

and_true : (a b : Bool) → a ≡ true → (a && b) ≡ b
and_true true b e = refl
and_true false b e = absurd cc

and_false : (a b : Bool) → a ≡ false → (a && b) ≡ false
and_false true b e = absurd cc
and_false false b e = refl

module _ (all : List Item) (n : ℕ) (so_far : list_all is_printable all ≡ list_all is_printable (drop n all)) where
  -- the next item is printable
  pub one_more : (i : Item) → n < length all → i ≡ get_or all n i → is_printable i ≡ true → list_all is_printable all ≡ list_all is_printable (drop (n + 1) all)
  one_more i h e holds = so_far ∙ printable_from all n i h e ∙ and_true (is_printable i) (list_all is_printable (drop (n + 1) all)) holds

  -- the next item isn't
  pub one_fails : (i : Item) → n < length all → i ≡ get_or all n i → is_printable i ≡ false → list_all is_printable all ≡ false
  one_fails i h e fails = so_far ∙ printable_from all n i h e ∙ and_false (is_printable i) (list_all is_printable (drop (n + 1) all)) fails

  -- no item is left
  pub none_left : length all ≤ n → list_all is_printable all ≡ true
  none_left h = so_far ∙ ap (list_all is_printable) (drop_all n all h)
