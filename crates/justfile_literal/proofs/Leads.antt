-- The loop of `cook_string`: its invariant, and what that means for the whole text.
use Rattle.std.proofs.Common.{◌≡◌, ℕ, ◌<◌, List, [], ◌∷◌, ◌++◌, length, Option, Ok, Err, IsUtf8, sym, ap, subst, ◌∙◌, append_assoc, append-nil}
use Rattle.std.specs.Prelude.{chars, encode_utf8_all, flat_map, option_to_list}
use Rattle.std.proofs.lemmas.Str.{encodes-append, encodes-chars}
use Rattle.justfile_model.specs.LiteralTexts.Cook.{Cooks, Refused, value_of}
use Rattle.justfile_model.specs.LiteralTexts.EscapeFault.{EscapeFault}
use Rattle.justfile_model.specs.LiteralTexts.FirstPiece.{first_escaped_piece}
use Rattle.justfile_literal.proofs.PieceSound.{Begins, Breaks, Means, piece_means}
use Rattle.justfile_literal.proofs.Texts.{broken, cooks, made, refused}
use Rattle.justfile_literal.proofs.PieceLists.{Made, begins_shorter, broken_first, made_empty, whole_more}

-- the result for the rest is the result for the text, after the cooked text so far
pub record Leads (text done rest : List ℕ) : Type 0 where
  pub cooked : (out : List ℕ) → Cooks rest out → Cooks text (done ++ out)
  pub refused : (fault : EscapeFault) → Refused rest fault → Refused text fault

pub leads_first : (text done : List ℕ) → done ≡ [] → Leads text done text
leads_first text done e = record { cooked = λ out h. rw e h; refused = λ fault h. h }

begun : (rest later cs : List ℕ) (c : ℕ) (value : Option ℕ) → chars rest ≡ c ∷ cs → first_escaped_piece c cs ≡ Ok (value, chars later) → Begins (chars rest) value (chars later)
begun rest later cs c value e p = subst (λ (l : List ℕ). Begins l value (chars later)) (sym e) (subst (Means (c ∷ cs)) p (piece_means c cs))

pub shorter : (rest later cs : List ℕ) (c : ℕ) (value : Option ℕ) → chars rest ≡ c ∷ cs → first_escaped_piece c cs ≡ Ok (value, chars later) → length (chars later) < length (chars rest)
shorter rest later cs c value e p = begins_shorter (chars rest) (chars later) value (begun rest later cs c value e p)

cooks_more : (rest later : List ℕ) (value : Option ℕ) → IsUtf8 rest → IsUtf8 later → Begins (chars rest) value (chars later) → (out : List ℕ) → Cooks later out → Cooks rest (encode_utf8_all (option_to_list value) ++ out)
cooks_more rest later value u v b out h =
    let m = made later out (chars later) (encodes-chars later v) h in
    subst (Cooks rest) (encodes-append (option_to_list value) (flat_map value_of h.pieces) ∙ ap (λ (l : List ℕ). encode_utf8_all (option_to_list value) ++ l) h.cooked_is)
    (cooks rest (chars rest) (option_to_list value ++ flat_map value_of h.pieces) (encodes-chars rest u) (whole_more (chars rest) (chars later) value (Ok (flat_map value_of h.pieces)) b m))

pub leads_more : (text done rest : List ℕ) → Leads text done rest → IsUtf8 rest
    → (later cs more : List ℕ) (c : ℕ) (value : Option ℕ) → IsUtf8 later → chars rest ≡ c ∷ cs → first_escaped_piece c cs ≡ Ok (value, chars later) → more ≡ done ++ encode_utf8_all (option_to_list value) → Leads text more later
leads_more text done rest l u later cs more c value v e p d =
    let b = begun rest later cs c value e p in
    record {
      cooked = λ out h. rw (d, append_assoc) (l.cooked _ (cooks_more rest later value u v b out h));
      refused = λ fault h. l.refused fault (refused rest (chars rest) fault (encodes-chars rest u)
          (whole_more (chars rest) (chars later) value (Err fault) b (broken later (chars later) fault (encodes-chars later v) h)));
    }

pub leads_refused : (text done rest : List ℕ) → Leads text done rest → IsUtf8 rest → (cs : List ℕ) (c : ℕ) (fault : EscapeFault) → chars rest ≡ c ∷ cs → first_escaped_piece c cs ≡ Err fault → Refused text fault
leads_refused text done rest l u cs c fault e p =
    let b = subst (λ (s : List ℕ). Breaks s fault) (sym e) (subst (Means (c ∷ cs)) p (piece_means c cs)) in
    l.refused fault (refused rest (chars rest) fault (encodes-chars rest u) (broken_first (chars rest) fault b))

pub leads_cooked : (text done rest : List ℕ) → Leads text done rest → IsUtf8 rest → chars rest ≡ [] → Cooks text done
leads_cooked text done rest l u e =
    subst (Cooks text) (append-nil done) (l.cooked [] (cooks rest (chars rest) [] (encodes-chars rest u) (subst (λ (s : List ℕ). Made s []) (sym e) made_empty)))
