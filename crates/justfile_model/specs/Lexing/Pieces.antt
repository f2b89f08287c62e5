-- Text that is read up to its first end, as a sequence of pieces: comments, the text of body lines, and the inside of literals.
use Rattle.std.specs.Prelude.{◌≡◌, ◌≢◌, ℕ, ◌+◌, IsTrue, List, [], ◌∷◌, ◌++◌, take}
use Rattle.std.specs.List.{concat}
use Rattle.justfile_model.specs.declared.raw_text.RawText.{RawText}
use Rattle.justfile_model.specs.Lexing.LiteralText.{hides, ends}

-- the first piece of a text: its first byte, and the bytes hidden by it
abbrev pub first_piece : RawText → List ℕ → List ℕ
first_piece s text = take (1 + hides s text) text

-- the pieces follow one another, and then this text follows
abbrev pub ArePieces : RawText → (pieces : List (List ℕ)) → (follows : List ℕ) → Type 0
ArePieces s [] follows = Unit {0}
ArePieces s (piece ∷ pieces) follows =
    (piece ≢ []) × (piece ≡ first_piece s (piece ++ (concat pieces ++ follows))) × ArePieces s pieces follows

-- A position between pieces: the text before it consists of pieces.
pub record IsBetweenPieces (s : RawText) (before follows : List ℕ) : Type 0 where
  pub pieces : List (List ℕ)
  pub joined : before ≡ concat pieces
  pub are_pieces : ArePieces s pieces follows

-- An end: reading ends here, and no escape such as `{{{{` begins here.
pub record IsEnd (s : RawText) (text : List ℕ) : Type 0 where
  pub ends_here : IsTrue (ends s text)
  pub hides_nothing : hides s text ≡ 0

-- The inside consists of pieces, an end follows it, and no earlier position between pieces is an end.
pub record IsInside (s : RawText) (inside follows : List ℕ) : Type 0 where
  pub is_between : IsBetweenPieces s inside follows
  pub end_follows : IsEnd s follows
  pub none_earlier : (before after : List ℕ) → inside ≡ before ++ after → after ≢ []
      → IsBetweenPieces s before (after ++ follows) → IsEnd s (after ++ follows) → ⊥

-- No position between pieces is an end.
abbrev pub HasNoEnd : RawText → List ℕ → Type 0
HasNoEnd s text = (before follows : List ℕ) → text ≡ before ++ follows → IsBetweenPieces s before follows → IsEnd s follows → ⊥
