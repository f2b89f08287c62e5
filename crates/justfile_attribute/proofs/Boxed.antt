-- Pairs and entries that are moved into boxes, the last one first.
use Rattle.std.proofs.Common.{◌≡◌, ◌∙◌, List, [], ◌∷◌, ◌++◌, map, reverse, Option, Some, refl, sym, ap, append_assoc}
use Rattle.std.specs.BTreeMap.{insert_entry}
use Rattle.std.specs.Global.{Box}
use Rattle.std.specs.List.{All}
use Rattle.std.specs.Map.{keys_of}
use Rattle.std.specs.Option.{option_map}
use Rattle.std.specs.Ordering.{match_ordering}
use Rattle.std.specs.declared.cmp.Ordering.{Ordering}
use Rattle.std.proofs.lemmas.List.{map_push, reverse-append}
use Rattle.std.proofs.lemmas.List.Elements.{All-pop}
use Rattle.justfile_attribute.specs.Boxes.{IsBelowFirst, unboxed_entry, unboxed_pair}

module _ {A T : Type 0} where
  -- one more pair was moved
  pub pair_moved : (all before front : List (A × T)) (boxed more : List (A × Box T)) (p : A × T) (b : Box T)
      → before ++ reverse (map unboxed_pair boxed) ≡ all → before ≡ front ++ p ∷ [] → b.value ≡ p.1 → more ≡ boxed ++ (p.0, b) ∷ []
      → front ++ reverse (map unboxed_pair more) ≡ all
  pair_moved all before front boxed more p b h e is f =
      ap (λ l. front ++ reverse (map unboxed_pair l)) f
      ∙ ap (λ l. front ++ reverse l) (map_push unboxed_pair boxed (p.0, b))
      ∙ ap (λ l. front ++ l) (reverse-append (map unboxed_pair boxed) ((p.0, b.value) ∷ []))
      ∙ ap (λ x. front ++ (p.0, x) ∷ reverse (map unboxed_pair boxed)) is
      ∙ sym (append_assoc front (p ∷ []) (reverse (map unboxed_pair boxed)))
      ∙ ap (λ l. l ++ reverse (map unboxed_pair boxed)) (sym e)
      ∙ h

  -- all pairs were moved, and are in order again
  pub pairs_moved : (all : List (A × T)) (boxed : List (A × Box T)) → reverse (map unboxed_pair boxed) ≡ all → map unboxed_pair (reverse boxed) ≡ all
  pairs_moved all boxed h = reversed boxed ∙ h
    where
      reversed : (l : List (A × Box T)) → map unboxed_pair (reverse l) ≡ reverse (map unboxed_pair l)
      reversed [] = refl
      reversed (x ∷ l) =
          ap (map unboxed_pair) (reverse-append (x ∷ []) l)
          ∙ map_push unboxed_pair (reverse l) x
          ∙ ap (λ m. m ++ unboxed_pair x ∷ []) (reversed l)
          ∙ sym (reverse-append (unboxed_pair x ∷ []) (map unboxed_pair l))

-- ---- entries

-- a key below the first one comes first
pub first_put : {K V : Type 0} (cmp : K → K → Ordering) (es : List (K × V)) (key : K) (value : V)
    → IsBelowFirst cmp es key → insert_entry cmp es key value ≡ (key, value) ∷ es
first_put cmp [] key value h = refl
first_put cmp (e ∷ es) key value h = ap (λ r. match_ordering r ((key, value) ∷ e ∷ es) ((e.0, value) ∷ es) (e ∷ insert_entry cmp es key value)) h

-- the last key that is left is below those that were moved
pub last_below : {K V W : Type 0} (cmp : K → K → Ordering) (before front : List (K × V)) (e : K × V) (moved : List (K × W))
    → All (IsBelowFirst cmp moved) (keys_of before) → before ≡ front ++ e ∷ [] → IsBelowFirst cmp moved e.0
last_below {K} {V} cmp before front e moved below is =
    (All-pop (IsBelowFirst cmp moved) (keys_of before) (keys_of front) (Some e.0) (ap keys_of is ∙ map_push (λ (e : K × V). e.0) front e) below).1

-- one more entry was moved
pub entry_moved : {K A T : Type 0} (all before front : List (K × (A × Option T))) (e : K × (A × Option T)) (boxed more : List (K × (A × Option (Box T)))) (value : Option (Box T))
    → before ++ map unboxed_entry boxed ≡ all → before ≡ front ++ e ∷ [] → option_map (λ b. b.value) value ≡ e.1.1 → more ≡ (e.0, (e.1.0, value)) ∷ boxed
    → front ++ map unboxed_entry more ≡ all
entry_moved all before front e boxed more value h is same f =
    ap (λ l. front ++ map unboxed_entry l) f
    ∙ ap (λ v. front ++ (e.0, (e.1.0, v)) ∷ map unboxed_entry boxed) same
    ∙ sym (append_assoc front (e ∷ []) (map unboxed_entry boxed))
    ∙ ap (λ l. l ++ map unboxed_entry boxed) (sym is)
    ∙ h
