-- Texts of bytes.
use Rattle.std.proofs.Common.{◌≡◌, ℕ, List, [], ◌∷◌, ◌++◌, ◌⊎◌, inl, inr, true, Some, Ok, Err, IsUtf8, refl, sym, ap, subst, ◌∙◌, arith}
use Rattle.std.specs.Prelude.{chars, encode_utf8_all, flat_map}
use Rattle.std.specs.Str.{all_scalars}
use Rattle.std.proofs.lemmas.Bool.{and_from}
use Rattle.std.proofs.lemmas.Str.{encodes_same, encodes-chars}
use Rattle.justfile_model.specs.LiteralTexts.Cook.{AreEscapedPieces, CarriageReturnLineFeed, Cooks, IsPiece, LineFeed, Named, Piece, Plain, Refused, Unicode, named, raw_of, value_of}
use Rattle.justfile_model.specs.LiteralTexts.EscapeFault.{EscapeFault}
use Rattle.justfile_model.specs.LiteralTexts.FirstPiece.{Cooked, as_text, cook, cooked_from_left}
use Rattle.justfile_literal.proofs.PieceLists.{Broken, Made, Whole, broken_read, made_read, read_is}

pub made : (text cooked cs : List ℕ) → encode_utf8_all cs ≡ text → (c : Cooks text cooked) → Made cs (flat_map value_of c.pieces)
made text cooked cs e c = record { pieces = c.pieces; good = c.good; text_is = encodes_same _ _ (c.text_is ∙ sym e); value_is = refl }

pub cooks : (text cs out : List ℕ) → encode_utf8_all cs ≡ text → Made cs out → Cooks text (encode_utf8_all out)
cooks text cs out e m = record { pieces = m.pieces; good = m.good; text_is = ap encode_utf8_all m.text_is ∙ e; cooked_is = ap encode_utf8_all m.value_is }

pub broken : (text cs : List ℕ) (fault : EscapeFault) → encode_utf8_all cs ≡ text → Refused text fault → Broken cs fault
broken text cs fault e r = record { pieces = r.pieces; bad = r.bad; later = r.following; good = r.good; is_bad = r.is_bad; text_is = encodes_same _ _ (r.text_is ∙ sym e); fault_is = r.fault_is }

pub refused : (text cs : List ℕ) (fault : EscapeFault) → encode_utf8_all cs ≡ text → Broken cs fault → Refused text fault
refused text cs fault e b = record { pieces = b.pieces; bad = b.bad; following = b.later; good = b.good; is_bad = b.is_bad; text_is = ap encode_utf8_all b.text_is ∙ e; fault_is = b.fault_is }

cooks_read : (text cooked cs : List ℕ) → encode_utf8_all cs ≡ text → Cooks text cooked → as_text (cook cs) ≡ Ok cooked
cooks_read text cooked cs e c = ap as_text (made_read cs _ (made text cooked cs e c)) ∙ ap (λ (l : List ℕ). Ok l) c.cooked_is

refused_read : (text cs : List ℕ) (fault : EscapeFault) → encode_utf8_all cs ≡ text → Refused text fault → as_text (cook cs) ≡ Err fault
refused_read text cs fault e r = ap as_text (broken_read cs fault (broken text cs fault e r))

pub one_cooked : (text one other : List ℕ) → Cooks text one → Cooks text other → one ≡ other
one_cooked text one other c d = let p = cooks_read text one _ c.text_is c in let q = cooks_read text other _ c.text_is d in cc

pub one_fault : (text : List ℕ) (one other : EscapeFault) → Refused text one → Refused text other → one ≡ other
one_fault text one other r s = let p = refused_read text _ one r.text_is r in let q = refused_read text _ other r.text_is s in cc

pub never_both : (text cooked : List ℕ) (fault : EscapeFault) → Cooks text cooked → Refused text fault → ⊥
never_both text cooked fault c r = let p = cooks_read text cooked _ c.text_is c in let q = refused_read text _ fault c.text_is r in cc

-- what is read is so
abbrev pub Meant : List ℕ → Cooked → Type 0
Meant text (Ok cooked) = Cooks text cooked
Meant text (Err fault) = Refused text fault

meant : (text cs : List ℕ) (r : Cooked) → encode_utf8_all cs ≡ text → Whole cs r → Meant text (as_text r)
meant text cs (Ok out) e w = cooks text cs out e w
meant text cs (Err fault) e w = refused text cs fault e w

pub text_meant : (text : List ℕ) → IsUtf8 text → Meant text (cooked_from_left text)
text_meant text u = meant text (chars text) (cook (chars text)) (encodes-chars text u) (read_is _ (chars text) (omega arith))

pub cooked_sound : (text cooked : List ℕ) → IsUtf8 text → cooked_from_left text ≡ Ok cooked → Cooks text cooked
cooked_sound text cooked u e = subst (Meant text) e (text_meant text u)

pub fault_sound : (text : List ℕ) (fault : EscapeFault) → IsUtf8 text → cooked_from_left text ≡ Err fault → Refused text fault
fault_sound text fault u e = subst (Meant text) e (text_meant text u)

pub cooked_complete : (text cooked : List ℕ) → IsUtf8 text → Cooks text cooked → cooked_from_left text ≡ Ok cooked
cooked_complete text cooked u c = cooks_read text cooked (chars text) (encodes-chars text u) c

pub fault_complete : (text : List ℕ) (fault : EscapeFault) → IsUtf8 text → Refused text fault → cooked_from_left text ≡ Err fault
fault_complete text fault u r = refused_read text (chars text) fault (encodes-chars text u) r

pub answered : (text : List ℕ) → IsUtf8 text → ((cooked : List ℕ) × Cooks text cooked) ⊎ ((fault : EscapeFault) × Refused text fault)
answered text u = by_read (cooked_from_left text) (text_meant text u)
  where
    by_read : (r : Cooked) → Meant text r → ((cooked : List ℕ) × Cooks text cooked) ⊎ ((fault : EscapeFault) × Refused text fault)
    by_read (Ok cooked) m = inl (cooked, m)
    by_read (Err fault) m = inr (fault, m)

scalars_parts : (xs ys : List ℕ) → all_scalars (xs ++ ys) ≡ true → (all_scalars xs ≡ true) × (all_scalars ys ≡ true)
scalars_parts [] ys h = (refl, h)
scalars_parts (x ∷ xs) ys h = grind (arith, scalars_parts xs ys)

scalars_joined : (xs ys : List ℕ) → all_scalars xs ≡ true → all_scalars ys ≡ true → all_scalars (xs ++ ys) ≡ true
scalars_joined [] ys h k = k
scalars_joined (x ∷ xs) ys h k = grind (arith, scalars_joined xs ys)

named_scalar : (c value : ℕ) → named c ≡ Some value → all_scalars (value ∷ []) ≡ true
named_scalar c value e = grind arith

value_scalars : (p : Piece) → IsPiece p → all_scalars (raw_of p) ≡ true → all_scalars (value_of p) ≡ true
value_scalars (Plain c) good h = h
value_scalars (Named c value) good h = named_scalar c value good
value_scalars LineFeed good h = refl
value_scalars CarriageReturnLineFeed good h = refl
value_scalars (Unicode hex) good h = and_from _ _ good.3 refl

values_scalars : (ps : List Piece) → AreEscapedPieces ps → all_scalars (flat_map raw_of ps) ≡ true → all_scalars (flat_map value_of ps) ≡ true
values_scalars [] good h = refl
values_scalars (p ∷ ps) good h =
    let both = scalars_parts (raw_of p) (flat_map raw_of ps) h in
    scalars_joined (value_of p) (flat_map value_of ps) (value_scalars p good.0 both.0) (values_scalars ps good.1 both.1)

pub cooked_utf8 : (text cooked : List ℕ) → IsUtf8 text → Cooks text cooked → IsUtf8 cooked
cooked_utf8 text cooked u c =
    let same : flat_map raw_of c.pieces ≡ u.0 = encodes_same _ _ (c.text_is ∙ sym u.1.1) in
    (flat_map value_of c.pieces, (values_scalars c.pieces c.good (rw same u.1.0), c.cooked_is))
