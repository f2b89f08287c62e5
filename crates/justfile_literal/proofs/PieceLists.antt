-- Lists of pieces, parsed one after another.
use Rattle.std.proofs.Common.{zero, suc, ◌≡◌, ℕ, ◌+◌, ◌<◌, ◌≤◌, List, [], ◌∷◌, ◌++◌, length, Option, Ok, Err, refl, sym, ap, subst, ◌∙◌, arith, append_assoc, append-nil, length-append}
use Rattle.std.specs.Prelude.{flat_map, option_to_list}
use Rattle.justfile_model.specs.LiteralTexts.Cook.{AreEscapedPieces, BadPiece, IsBad, Piece, bad_text, fault_of, raw_of, value_of}
use Rattle.justfile_model.specs.LiteralTexts.EscapeFault.{EscapeFault}
use Rattle.justfile_model.specs.LiteralTexts.FirstPiece.{Cooked, PieceRead, cook, cook_within, go_on, first_escaped_piece, with_value}
use Rattle.justfile_literal.proofs.Complete.{bad_front, front, good_front}
use Rattle.justfile_literal.proofs.PieceSound.{Begins, Breaks, Means, piece_means}

-- the characters are these of pieces
pub record Made (cs out : List ℕ) : Type 0 where
  pub pieces : List Piece
  pub good : AreEscapedPieces pieces
  pub text_is : flat_map raw_of pieces ≡ cs
  pub value_is : flat_map value_of pieces ≡ out

-- after some pieces the characters are bad
pub record Broken (cs : List ℕ) (fault : EscapeFault) : Type 0 where
  pub pieces : List Piece
  pub bad : BadPiece
  pub later : List ℕ
  pub good : AreEscapedPieces pieces
  pub is_bad : IsBad bad later
  pub text_is : flat_map raw_of pieces ++ (bad_text bad ++ later) ≡ cs
  pub fault_is : fault_of bad ≡ fault

abbrev pub Whole : List ℕ → Cooked → Type 0
Whole cs (Ok out) = Made cs out
Whole cs (Err fault) = Broken cs fault

pub made_empty : Made [] []
made_empty = record { pieces = []; good = tt; text_is = refl; value_is = refl }

pub broken_first : (cs : List ℕ) (fault : EscapeFault) → Breaks cs fault → Broken cs fault
broken_first cs fault b = record { pieces = []; bad = b.bad; later = b.later; good = tt; is_bad = b.is_bad; text_is = b.text_is; fault_is = b.fault_is }

-- with a piece before them
pub whole_more : (cs rest : List ℕ) (value : Option ℕ) (r : Cooked) → Begins cs value rest → Whole rest r → Whole cs (with_value value r)
whole_more cs rest value (Ok out) b w = record {
  pieces = b.piece ∷ w.pieces;
  good = (b.good, w.good);
  text_is = ap (λ (l : List ℕ). raw_of b.piece ++ l) w.text_is ∙ b.text_is;
  value_is = ap (λ (l : List ℕ). l ++ flat_map value_of w.pieces) b.value_is ∙ ap (λ (l : List ℕ). option_to_list value ++ l) w.value_is;
}
whole_more cs rest value (Err fault) b w = record {
  pieces = b.piece ∷ w.pieces;
  bad = w.bad;
  later = w.later;
  good = (b.good, w.good);
  is_bad = w.is_bad;
  text_is = append_assoc (raw_of b.piece) (flat_map raw_of w.pieces) _ ∙ ap (λ (l : List ℕ). raw_of b.piece ++ l) w.text_is ∙ b.text_is;
  fault_is = w.fault_is;
}

-- a piece has a character
piece_len : (p : Piece) → 0 < length (raw_of p)
piece_len p = grind arith

pub begins_shorter : (cs rest : List ℕ) (value : Option ℕ) → Begins cs value rest → length rest < length cs
begins_shorter cs rest value b = omega (arith, piece_len b.piece, length-append (raw_of b.piece) rest, ap length b.text_is)

pub read_is : (most : ℕ) (cs : List ℕ) → length cs ≤ most → Whole cs (cook_within most cs)
unfolding cook_within
read_is zero [] le = made_empty
read_is (suc most) [] le = made_empty
read_is zero (c ∷ cs) le = absurd (omega arith)
read_is (suc most) (c ∷ cs) le = first (first_escaped_piece c cs) (piece_means c cs) (λ rest le. read_is most rest le)
  where
    first : (found : PieceRead) → Means (c ∷ cs) found → ((rest : List ℕ) → length rest ≤ most → Whole rest (cook_within most rest)) → Whole (c ∷ cs) (go_on (cook_within most) found)
    first (Ok x) m more = whole_more (c ∷ cs) x.1 x.0 (cook_within most x.1) m (more x.1 (omega (arith, begins_shorter (c ∷ cs) x.1 x.0 m)))
    first (Err fault) m more = broken_first (c ∷ cs) fault m

-- the cooked text, by its first piece
from_front : (most : ℕ) (cs : List ℕ) → 0 < length cs → cook_within (suc most) cs ≡ go_on (cook_within most) (front cs)
unfolding cook_within
from_front most [] h = absurd (omega arith)
from_front most (c ∷ cs) h = refl

-- after these values
abbrev with_values : List ℕ → Cooked → Cooked
with_values values (Ok out) = Ok (values ++ out)
with_values values (Err fault) = Err fault

one_value : (value : Option ℕ) (first values : List ℕ) (r : Cooked) → option_to_list value ≡ first → with_value value (with_values values r) ≡ with_values (first ++ values) r
one_value value first values (Ok out) e = ap (λ (l : List ℕ). Ok (l ++ (values ++ out))) e ∙ ap (λ (l : List ℕ). Ok l) (sym (append_assoc first values out))
one_value value first values (Err fault) e = refl

no_values : (r : Cooked) → with_values [] r ≡ r
no_values r = grind arith

-- what is read of some characters, however many pieces are allowed
abbrev Reads : List ℕ → Cooked → Type 0
Reads cs r = (most : ℕ) → length cs ≤ most → cook_within most cs ≡ r

reads_pieces : (ps : List Piece) (later : List ℕ) (r : Cooked) → AreEscapedPieces ps → Reads later r → Reads (flat_map raw_of ps ++ later) (with_values (flat_map value_of ps) r)
reads_pieces [] later r good h most le = h most le ∙ sym (no_values r)
reads_pieces (p ∷ ps) later r good h zero le = absurd (omega (arith, piece_len p, length-append (raw_of p) (flat_map raw_of ps), length-append (raw_of p ++ flat_map raw_of ps) later))
reads_pieces (p ∷ ps) later r good h (suc most) le =
    let rest = flat_map raw_of ps ++ later in
    let whole = append_assoc (raw_of p) (flat_map raw_of ps) later in
    let gives = good_front p rest good.0 in
    let lengths : length (raw_of p) + length rest ≤ suc most = omega (arith, length-append (raw_of p) rest, ap length whole) in
    ap (cook_within (suc most)) whole
    ∙ from_front most (raw_of p ++ rest) (omega (arith, piece_len p, length-append (raw_of p) rest))
    ∙ ap (go_on (cook_within most)) gives.found_is
    ∙ ap (with_value gives.value) (reads_pieces ps later r good.1 h most (omega (arith, piece_len p)))
    ∙ one_value gives.value (value_of p) (flat_map value_of ps) r gives.value_is

reads_empty : Reads [] (Ok [])
unfolding cook_within
reads_empty zero le = refl
reads_empty (suc most) le = refl

bad_len : (bad : BadPiece) → 0 < length (bad_text bad)
bad_len bad = grind arith

reads_bad : (bad : BadPiece) (later : List ℕ) → IsBad bad later → Reads (bad_text bad ++ later) (Err (fault_of bad))
reads_bad bad later h zero le = absurd (omega (arith, bad_len bad, length-append (bad_text bad) later))
reads_bad bad later h (suc most) le =
    from_front most (bad_text bad ++ later) (omega (arith, bad_len bad, length-append (bad_text bad) later))
    ∙ ap (go_on (cook_within most)) (bad_front bad later h)

pub made_read : (cs out : List ℕ) → Made cs out → cook cs ≡ Ok out
made_read cs out m =
    subst (λ (l : List ℕ). cook l ≡ Ok (flat_map value_of m.pieces)) (append-nil _ ∙ m.text_is)
    (reads_pieces m.pieces [] (Ok []) m.good reads_empty _ (omega arith) ∙ ap (λ (l : List ℕ). Ok l) (append-nil _))
    ∙ ap (λ (l : List ℕ). Ok l) m.value_is

pub broken_read : (cs : List ℕ) (fault : EscapeFault) → Broken cs fault → cook cs ≡ Err fault
broken_read cs fault b =
    subst (λ (l : List ℕ). cook l ≡ Err (fault_of b.bad)) b.text_is
    (reads_pieces b.pieces (bad_text b.bad ++ b.later) (Err (fault_of b.bad)) b.good (reads_bad b.bad b.later b.is_bad) _ (omega arith))
    ∙ ap (λ (f : EscapeFault). Err f) b.fault_is
