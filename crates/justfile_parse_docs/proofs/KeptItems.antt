-- Items that are moved to the front of a list, each with its doc.
use Rattle.std.proofs.Common.{◌≡◌, ◌∙◌, ℕ, ◌+◌, ◌-◌, ◌<◌, ◌≤◌, ◌⊎◌, inl, inr, Bool, true, false, cond, All, List, [], ◌∷◌, ◌++◌, drop, length, map, get_or, set, take, Option, Some, None, reverse, refl, sym, ap, subst, arith}
use Rattle.std.specs.List.{swap, take-map}
use Rattle.std.proofs.Math.Nat.{eq-or-lt_of_le}
use Rattle.std.proofs.lemmas.List.{drop_all, drop_more, drop-set-lt, get_or-set_same, length-map, length-reverse, length-set, length-take, length-take-le, map-append, take-append-drop, take-append-le, take-set, take-set-le, take_more_set}
use Rattle.std.proofs.lemmas.List.Edits.{swap_is}
use Rattle.std.proofs.lemmas.List.Elements.{All-set, All-take}
use Rattle.std.proofs.lemmas.List.Sorted.{All-permutation, IsPermutation-swap}
use Rattle.justfile_item.specs.declared.item.Item.{Item}
use Rattle.justfile_item.specs.declared.item.Item.TheVariants as items
use Rattle.justfile_model.specs.Grammars.Docs.{item_with_doc, redocumented}
use Rattle.justfile_model.specs.Grammars.Files.{sets_doc}
use Rattle.justfile_model.specs.Trees.Tree as tree
use Rattle.justfile_parse_docs.specs.Docs.{LeafItem, doc_before, doc_first, doc_taken, is_line_end, item_can_take_doc, taken_docs, with_doc, with_item, with_items}
use Rattle.justfile_parse_docs.proofs.DocSteps.{line_end}
use Rattle.justfile_parse_item.specs.Tree.{item_tree}
use Rattle.justfile_parse_item.specs.DerivedFields.{HaveDerivedFields, HasDerivedItemFields}

-- ---- an element that changes places with one before it

module _ {X : Type 0} (xs ys : List X) (k p : ℕ) (d : X) (order : k ≤ p) (within : p < length xs) (e : ys ≡ swap xs k p) where
  abbrev first_set : List X
  first_set = set xs k (get_or xs p d)

  as_sets : ys ≡ set first_set p (get_or xs k d)
  as_sets = e ∙ sym (swap_is xs k p d (omega (arith, order, within)) within)

  -- it stands after those before that one
  moved_front : take (k + 1) ys ≡ take k xs ++ get_or xs p d ∷ []
  moved_front = ap (take (k + 1)) as_sets ∙ by (eq-or-lt_of_le order)
    where
      by : (k ≡ p) ⊎ (k < p) → take (k + 1) (set first_set p (get_or xs k d)) ≡ take k xs ++ get_or xs p d ∷ []
      by (inl same) =
          ap (λ (n : ℕ). take (k + 1) (set first_set n (get_or xs k d))) (sym same)
          ∙ take_more_set first_set k (get_or xs k d) (omega (arith, order, within, length-set xs k (get_or xs p d)))
          ∙ ap (λ (l : List X). l ++ get_or xs k d ∷ []) (take-set xs k (get_or xs p d))
          ∙ ap (λ (n : ℕ). take k xs ++ get_or xs n d ∷ []) same
      by (inr less) = take-set-le (k + 1) first_set p (get_or xs k d) (omega (arith, less)) ∙ take_more_set xs k (get_or xs p d) (omega (arith, order, within))

  -- those after its old index are as before
  moved_rest : drop (p + 1) ys ≡ drop (p + 1) xs
  moved_rest =
      ap (drop (p + 1)) as_sets ∙ drop-set-lt (p + 1) first_set p (get_or xs k d) (omega arith)
      ∙ drop-set-lt (p + 1) xs k (get_or xs p d) (omega (arith, order))

take_of_take : {X : Type 0} (n k : ℕ) (xs : List X) → n ≤ length (take k xs) → take n (take k xs) ≡ take n xs
take_of_take n k xs h = sym (take-append-le n (take k xs) (drop k xs) h) ∙ ap (λ (l : List _). take n l) (take-append-drop k xs)

-- the derived fields of all items are right, in any order
pub swapped_fields : (xs ys : List Item) (k p : ℕ) → k < length xs → p < length xs → ys ≡ swap xs k p → HaveDerivedFields xs → HaveDerivedFields ys
unfolding HaveDerivedFields
swapped_fields xs ys k p below within e h = All-permutation HasDerivedItemFields xs ys (IsPermutation-swap xs ys k p below within e) h

pub set_fields : (xs ys : List Item) (p : ℕ) (x : Item) → ys ≡ set xs p x → HasDerivedItemFields x → HaveDerivedFields xs → HaveDerivedFields ys
unfolding HaveDerivedFields
set_fields xs ys p x e h fields = subst (All HasDerivedItemFields) (sym e) (All-set HasDerivedItemFields xs p x h fields)

pub cut_fields : (xs ys : List Item) (n : ℕ) → ys ≡ take n xs → HaveDerivedFields xs → HaveDerivedFields ys
unfolding HaveDerivedFields
cut_fields xs ys n e h = subst (All HasDerivedItemFields) (sym e) (All-take HasDerivedItemFields n xs h)

-- ---- an item that is kept

-- it takes no doc before it
pub takes_no_doc : (i : LeafItem) (doc : Option (List ℕ)) → item_can_take_doc i ≡ false → doc_taken i doc ≡ None
takes_no_doc i None h = refl
takes_no_doc (tree.Construct entries content) (Some doc) h = ap (λ (b : Bool). cond b (Some (tree.Construct entries (redocumented (Some doc) content))) None) h
takes_no_doc _ (Some doc) h = refl

module _ (xs : List Item) (kept index : ℕ) (x : Item) (order : kept ≤ index) (within : index < length xs) (x_is : x ≡ get_or xs index x) where
  abbrev before : List LeafItem
  before = map item_tree (take kept xs)

  -- the item at the index is done, and those after it stay
  next_done : (ys done : List Item) (k : ℕ) → take k ys ≡ done → drop (index + 1) ys ≡ drop (index + 1) xs → map item_tree done ≡ with_item before (item_tree x)
      → taken_docs k (index + 1) ys ≡ taken_docs kept index xs
  next_done ys done k done_are others_are trees =
      (λ i. with_items (map item_tree (done_are i)) (map item_tree (others_are i)))
      ∙ ap (λ (l : List LeafItem). with_items l (map item_tree (drop (index + 1) xs))) trees
      ∙ sym (ap (λ (l : List Item). with_items before (map item_tree l)) (drop_more xs index x within ∙ ap (λ (y : Item). y ∷ drop (index + 1) xs) (sym x_is)))

  -- as it is
  pub kept_plain : (ys : List Item) → ys ≡ swap xs kept index → doc_taken (item_tree x) (doc_before before) ≡ None → taken_docs (kept + 1) (index + 1) ys ≡ taken_docs kept index xs
  kept_plain ys e none =
      next_done ys (take kept xs ++ x ∷ []) (kept + 1)
      (moved_front xs ys kept index x order within e ∙ ap (λ (y : Item). take kept xs ++ y ∷ []) (sym x_is))
      (moved_rest xs ys kept index x order within e)
      (map-append item_tree (take kept xs) (x ∷ []) ∙ sym (ap (with_doc before (item_tree x)) none))

  -- as the end of a line, which is made anew
  pub kept_newline : (ys : List Item) → ys ≡ set xs kept items.Newline → is_line_end (item_tree x) ≡ true → taken_docs (kept + 1) (index + 1) ys ≡ taken_docs kept index xs
  kept_newline ys e newline =
      next_done ys (take kept xs ++ items.Newline ∷ []) (kept + 1)
      (ap (take (kept + 1)) e ∙ take_more_set xs kept items.Newline (omega (arith, order, within)))
      (ap (drop (index + 1)) e ∙ drop-set-lt (index + 1) xs kept items.Newline (omega (arith, order)))
      (map-append item_tree (take kept xs) (items.Newline ∷ [])
      ∙ sym (ap (with_doc before tree.Newline) (takes_no_doc tree.Newline (doc_before before) refl))
      ∙ ap (with_item before) (sym (line_end (item_tree x) newline)))

  -- with a doc, instead of the last two
  module _ (n m : ℕ) (two : n + 2 ≡ kept) (one : m ≡ n + 1) (y : Item) (zs ys : List Item) (zs_are : zs ≡ set xs index y) (e : ys ≡ swap zs n index) where
    in_zs : index < length zs
    in_zs = omega (arith, within, ap length zs_are, length-set xs index y)

    front : take (n + 1) ys ≡ take n xs ++ y ∷ []
    front =
        moved_front zs ys n index y (omega (arith, two, order)) in_zs e
        ∙ ap (λ (l : List Item). take n l ++ get_or l index y ∷ []) zs_are
        ∙ ap (λ (l : List Item). l ++ get_or (set xs index y) index y ∷ []) (take-set-le n xs index y (omega (arith, two, order)))
        ∙ ap (λ (i : Item). take n xs ++ i ∷ []) (get_or-set_same xs index y y within)

    rest : drop (index + 1) ys ≡ drop (index + 1) xs
    rest =
        moved_rest zs ys n index y (omega (arith, two, order)) in_zs e
        ∙ ap (λ (l : List Item). drop (index + 1) l) zs_are ∙ drop-set-lt (index + 1) xs index y (omega arith)

    kept_count : length (take kept xs) ≡ n + 2
    kept_count = length-take-le kept xs (omega (arith, order, within)) ∙ sym two

    all_but_two : take (length before - 2) before ≡ map item_tree (take n xs)
    all_but_two =
        ap (λ (i : ℕ). take i before) (omega (arith, kept_count, length-map (take kept xs) item_tree))
        ∙ take-map item_tree n (take kept xs)
        ∙ ap (map item_tree) (take_of_take n kept xs (omega (arith, kept_count)))

    pub documented_fields : HasDerivedItemFields y → HaveDerivedFields xs → HaveDerivedFields ys
    documented_fields h fields = swapped_fields zs ys n index (omega (arith, two, order, in_zs)) in_zs e (set_fields xs zs index y zs_are h fields)

    pub kept_documented : doc_taken (item_tree x) (doc_before before) ≡ Some (item_tree y) → taken_docs m (index + 1) ys ≡ taken_docs kept index xs
    kept_documented taken =
        next_done ys (take n xs ++ y ∷ []) m (ap (λ (i : ℕ). take i ys) one ∙ front) rest
        (map-append item_tree (take n xs) (y ∷ []) ∙ ap (λ (l : List LeafItem). l ++ item_tree y ∷ []) (sym all_but_two)
        ∙ sym (ap (with_doc before (item_tree x)) taken))

-- items that end with a doc are two or more
two_first : (items : List LeafItem) (doc : List ℕ) → doc_first items ≡ Some doc → 2 ≤ length items
two_first (tree.Newline ∷ []) doc h = cc
two_first (i ∷ j ∷ others) doc h = omega arith
two_first _ doc h = cc

pub two_kept : (xs : List Item) (kept : ℕ) (doc : List ℕ) → doc_before (map item_tree (take kept xs)) ≡ Some doc → 2 ≤ kept
two_kept xs kept doc h =
    let all = take kept xs in
    omega (arith, two_first (reverse (map item_tree all)) doc h, length-reverse (map item_tree all), length-map all item_tree, length-take kept xs)

-- the doc that is found
pub found_taken : (i with_this : LeafItem) (found : Option (List ℕ)) (doc text : List ℕ) → found ≡ Some doc → text ≡ doc → Some with_this ≡ item_with_doc sets_doc text i
    → doc_taken i found ≡ Some with_this
found_taken i with_this found doc text is same taken =
    ap (doc_taken i) is ∙ ap (λ (t : List ℕ). item_with_doc sets_doc t i) (sym same) ∙ sym taken

-- ---- when none are left

pub all_taken : (now : List Item) (kept n : ℕ) → length now ≤ n → (all : List LeafItem) → taken_docs kept n now ≡ all → map item_tree (take kept now) ≡ all
all_taken now kept n end all so_far = ap (λ (l : List Item). with_items (map item_tree (take kept now)) (map item_tree l)) (sym (drop_all n now end)) ∙ so_far
