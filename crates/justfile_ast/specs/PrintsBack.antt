-- What holds for the printed text of a shape.
use Rattle.std.specs.Prelude.{◌≡◌, ℕ, ◌≤◌, true, List}
use Rattle.justfile_model.specs.Lexing.Tok.{Tok}
use Rattle.justfile_model.specs.Trees.Tree.{Tree, Shape, shape_of}
use Rattle.justfile_model.specs.Grammars.Features.{Noted}
use Rattle.justfile_model.specs.Printed.NormalShape.{normal}
use Rattle.justfile_model.specs.Printed.Printing.{printable}
use Rattle.justfile_model.specs.Grammars.Conditions.{Conditions, with_limit}
use Rattle.justfile_round_trip.specs.Need.{TextNeeds}
use Rattle.justfile_round_trip.specs.RoundTrip.{TextDerives, ReadsBack, printed}

-- Let a text derive a printable shape under some conditions. Then the printed bytes read back as the normal form of the shape. With the
-- same expander and version, and under any limit, a printable shape of another text prints as the same bytes only if its normal form is the
-- same. The bytes have a need, and no text with that normal form derives under a lower limit, whatever its expander and version.
pub record PrintsBack (shape : Shape) (indentation bytes : List ℕ) : Type 0 where
  pub reads_back : (conditions : Conditions) (source : List ℕ) (tree : Tree) (features : List (Noted Tok)) → TextDerives conditions source tree features
      → shape_of tree ≡ shape → printable shape ≡ true
      → ReadsBack conditions shape features indentation bytes
  pub injective : (conditions : Conditions) (limit : ℕ) (source other : List ℕ) (tree twin : Tree) (features others : List (Noted Tok))
      → TextDerives conditions source tree features → shape_of tree ≡ shape → printable shape ≡ true
      → TextDerives (with_limit limit conditions) other twin others → printable (shape_of twin) ≡ true
      → printed (shape_of twin) indentation ≡ bytes
      → normal (shape_of twin) ≡ normal shape
  pub least : (conditions : Conditions) (source : List ℕ) (tree : Tree) (features : List (Noted Tok)) → TextDerives conditions source tree features
      → shape_of tree ≡ shape → printable shape ≡ true
      → (need : ℕ) × TextNeeds conditions bytes need
      × ((others : Conditions) (other : List ℕ) (twin : Tree) (noted : List (Noted Tok)) → TextDerives others other twin noted → normal (shape_of twin) ≡ normal shape
      → need ≤ others.limit)
