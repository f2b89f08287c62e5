-- Texts in pieces, with a place between two of them.
use Rattle.std.specs.Prelude.{◌≡◌, ◌≤◌, ℕ, List, [], ◌∷◌, ◌++◌, IfSome, None, Option, Some, length, reverse}
use Rattle.std.specs.Coded.{Coded, Coded-set, Unit-prop, ×_prop}
use Rattle.std.specs.List.{flat_map}
use Rattle.std.specs.Str.{IsUtf8}
use Rattle.std.proofs.Props.{props}
use Rattle.justfile_lines.specs.Going.{first_place, longest, place_after}
use Rattle.justfile_lines.specs.declared.encoding.Encoding.{Encoding}
use Rattle.justfile_lines.specs.declared.position.Place.{Place}
use Rattle.text_edits.specs.declared.pieces.Next.{Next}
use Rattle.text_edits.specs.declared.pieces.Piece.{Piece}

-- what is before the place
abbrev pub text_before : List Piece → List ℕ
text_before before = flat_map (λ (p : Piece). p.text.now) before

-- what is after it: the next piece is the last one
abbrev pub text_after : List Next → List ℕ
text_after after = flat_map (λ (p : Next). p.text.now) (reverse after)

abbrev pub text_of : List Piece → List Next → List ℕ
text_of before after = text_before before ++ text_after after

-- From a place on, each of these pieces begins where the one before it ends, and the last one ends at the other place.
abbrev pub Leads : Encoding → Place → List Piece → Place → Type 0
Leads encoding from [] to = to ≡ from
Leads encoding from (p ∷ pieces) to = (p.start ≡ from) × Leads encoding (place_after encoding from p.text.now) pieces to

-- the size that a piece has is its own, if it has one
abbrev pub HasSize : Encoding → Next → Type 0
HasSize encoding p = IfSome p.size (λ size. size ≡ place_after encoding first_place p.text.now)

-- The sizes that these pieces have are their own.
abbrev pub AreSized : Encoding → List Next → Type 0
AreSized encoding [] = Unit {0}
AreSized encoding (p ∷ after) = HasSize encoding p × AreSized encoding after

-- The pieces before the place lead to it, the sizes of those after it are their own, and the text has so many bytes.
pub record ArePieces (encoding : Encoding) (before : List Piece) (after : List Next) (here : Place) (len : ℕ) : Type 0 where
  pub leads : Leads encoding first_place before here
  pub sized : AreSized encoding after
  pub utf8 : IsUtf8 (text_of before after)
  pub len_is : length (text_of before after) ≡ len
  pub short : len ≤ longest

prop_leads : Coded Place → (encoding : Encoding) (from : Place) (pieces : List Piece) (to : Place) → IsProp (Leads encoding from pieces to)
prop_leads code encoding from [] to = Coded-set code to from
prop_leads code encoding from (p ∷ pieces) to = ×_prop (Coded-set code p.start from) (prop_leads code encoding (place_after encoding from p.text.now) pieces to)

prop_size : Coded Place → (is : Place) (size : Option Place) → IsProp (IfSome size (λ s. s ≡ is))
prop_size code is None = Unit-prop
prop_size code is (Some s) = Coded-set code s is

prop_sized : Coded Place → (encoding : Encoding) (after : List Next) → IsProp (AreSized encoding after)
prop_sized code encoding [] = Unit-prop
prop_sized code encoding (p ∷ after) = ×_prop (prop_size code (place_after encoding first_place p.text.now) p.size) (prop_sized code encoding after)

pub prop_pieces : Coded Place → (encoding : Encoding) (before : List Piece) (after : List Next) (here : Place) (len : ℕ) → IsProp (ArePieces encoding before after here len)
prop_pieces code encoding before after here len = hlevel (props, prop_leads code encoding first_place before here, prop_sized code encoding after)
