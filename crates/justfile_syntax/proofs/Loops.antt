-- What a caller's loop adds for each element.
use Rattle.std.proofs.Common.{◌≡◌, ◌∙◌, ◌<◌, ◌+◌, ℕ, List, [], ◌∷◌, ◌++◌, map, length, take, get_or, sym, ap}
use Rattle.std.specs.List.{flat_map}
use Rattle.std.proofs.lemmas.List.{flat_map_more, map-append, take_more}

-- the elements that a loop has visited, as they are viewed
module _ {X Y : Type 0} (view : X → Y) (xs : List X) (i : ℕ) (x : X) (inside : i < length xs) (at : x ≡ get_or xs i x) where
  pub visited : map view (take (i + 1) xs) ≡ map view (take i xs) ++ view x ∷ []
  visited = ap (map view) (take_more xs i x inside ∙ ap (λ y. take i xs ++ y ∷ []) (sym at)) ∙ map-append view (take i xs) (x ∷ [])

  -- a loop that appends a list for each element to those before
  pub appended : {A : Type 0} (f : Y → List A) (before t u : List A) → t ≡ before ++ flat_map f (map view (take i xs)) → u ≡ t ++ f (view x)
      → u ≡ before ++ flat_map f (map view (take (i + 1) xs))
  appended f before t u so_far e =
      e ∙ ap (λ a. a ++ f (view x)) so_far ∙ flat_map_more f before (map view (take i xs)) (view x) ∙ ap (λ l. before ++ flat_map f l) (sym visited)
