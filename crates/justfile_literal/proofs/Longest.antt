-- No longer prefix of an invalid text consists of pieces.
use Rattle.std.proofs.Common.{◌≡◌, ℕ, ◌≤◌, List, [], ◌∷◌, ◌++◌, length, Option, Ok, Err, sym, ap, ◌∙◌, arith, append_assoc, length-append}
use Rattle.std.specs.Prelude.{encode_utf8_all, flat_map}
use Rattle.std.proofs.lemmas.Str.{encodes_same}
use Rattle.justfile_model.specs.LiteralTexts.Cook.{AreEscapedPieces, BadPiece, IsBad, Piece, Refused, bad_text, fault_of, raw_of}
use Rattle.justfile_model.specs.LiteralTexts.EscapeFault.{EscapeFault}
use Rattle.justfile_model.specs.LiteralTexts.FirstPiece.{PieceRead}
use Rattle.justfile_literal.proofs.Complete.{bad_front, front, good_front}

abbrev rest_of : PieceRead → List ℕ
rest_of (Ok x) = x.1
rest_of (Err fault) = []

same_rest : (a b : PieceRead) (v w : Option ℕ) (x y : List ℕ) → a ≡ b → a ≡ Ok (v, x) → b ≡ Ok (w, y) → x ≡ y
same_rest a b v w x y e p q = sym (ap rest_of p) ∙ ap rest_of e ∙ ap rest_of q

not_both : (a b : PieceRead) (v : Option ℕ) (x : List ℕ) (fault : EscapeFault) → a ≡ b → a ≡ Ok (v, x) → b ≡ Err fault → ⊥
not_both a b v x fault e p q = cc

longest : (ps qs : List Piece) (bad : BadPiece) (later rest : List ℕ) → AreEscapedPieces ps → AreEscapedPieces qs → IsBad bad later
    → flat_map raw_of ps ++ rest ≡ flat_map raw_of qs ++ (bad_text bad ++ later) → length (flat_map raw_of ps) ≤ length (flat_map raw_of qs)
longest [] qs bad later rest g h b e = omega arith
longest (p ∷ ps) [] bad later rest g h b e =
    let more = flat_map raw_of ps ++ rest in
    let gives = good_front p more g.0 in
    absurd (not_both _ _ gives.value more (fault_of bad) (ap front (sym (append_assoc (raw_of p) (flat_map raw_of ps) rest) ∙ e)) gives.found_is (bad_front bad later b))
longest (p ∷ ps) (q ∷ qs) bad later rest g h b e =
    let more = flat_map raw_of ps ++ rest in
    let other = flat_map raw_of qs ++ (bad_text bad ++ later) in
    let gives = good_front p more g.0 in
    let takes = good_front q other h.0 in
    let whole : raw_of p ++ more ≡ raw_of q ++ other = sym (append_assoc (raw_of p) (flat_map raw_of ps) rest) ∙ e ∙ append_assoc (raw_of q) (flat_map raw_of qs) (bad_text bad ++ later) in
    let same : more ≡ other = same_rest _ _ gives.value takes.value more other (ap front whole) gives.found_is takes.found_is in
    omega (arith, longest ps qs bad later rest g.1 h.1 b same, ap length whole, ap length same, length-append (raw_of p) more, length-append (raw_of q) other, length-append (raw_of p) (flat_map raw_of ps), length-append (raw_of q) (flat_map raw_of qs))

pub longest_front : (text : List ℕ) (fault : EscapeFault) (refused : Refused text fault) (pieces : List Piece) (rest : List ℕ) → AreEscapedPieces pieces
    → encode_utf8_all (flat_map raw_of pieces ++ rest) ≡ text → length (flat_map raw_of pieces) ≤ length (flat_map raw_of refused.pieces)
longest_front text fault refused pieces rest good e = longest pieces refused.pieces refused.bad refused.following rest good refused.good refused.is_bad (encodes_same _ _ (e ∙ sym refused.text_is))
