-- Each token of a text whose kind has a single lexeme has that lexeme.
use Rattle.std.proofs.Common.{◌∙◌, ℕ, Bool, true, false, cond, List, [], ◌∷◌, length, take, drop, sym, ap, subst}
use Rattle.std.specs.Prelude.{reverse}
use Rattle.std.specs.List.{AllByRecursion}
use Rattle.std.proofs.lemmas.List.{reverse-append, reverse-reverse}
use Rattle.justfile_model.specs.Lexing.Lexed.{end_of, IsNext, Begins, Lexed}
use Rattle.justfile_model.specs.Lexing.Tok.{Tok}
use Rattle.justfile_model.specs.Lexing.SignificantTokens.{AllSpelled, is_whitespace, significant_from, significant_tokens, Spelling}
use Rattle.justfile_model.specs.Lexing.Modes.{mode}
use Rattle.justfile_model.proofs.Lexing.NextLaws.{token_spells}
use Rattle.justfile_model.proofs.Lists.AllParts.{both}

module _ (text : List ℕ) where
  next_spelled : (earlier : List Tok) (t : Tok) → IsNext text earlier t → Spelling t.kind t.lexeme
  next_spelled earlier t h =
      subst (Spelling t.kind) (ap (λ n. take (length t.lexeme) (drop n text)) (sym h.stands.offset_is) ∙ sym h.stands.lexeme_is)
      (token_spells (mode earlier) (drop (end_of earlier) text) t.kind (length t.lexeme) h.found)

  abbrev HasKindSpelling : Tok → Type 0
  HasKindSpelling t = Spelling t.kind t.lexeme

  abbrev AreSpelled : List Tok → Type 0
  AreSpelled ts = AllByRecursion HasKindSpelling ts

  earlier_spelled : (earlier : List Tok) → Begins text earlier → AreSpelled earlier
  earlier_spelled [] h = tt
  earlier_spelled (t ∷ earlier) h = (next_spelled earlier t h.1, earlier_spelled earlier h.0)

  turned : (ts : List Tok) → AreSpelled ts → AreSpelled (reverse ts)
  turned [] h = tt
  turned (t ∷ ts) h = subst AreSpelled (sym (reverse-append (t ∷ []) ts)) (both HasKindSpelling (reverse ts) (t ∷ []) (turned ts h.1) (h.0, tt))

  significant_spelled : (glued : Bool) (ts : List Tok) → AreSpelled ts → AllSpelled (significant_from glued ts)
  significant_spelled glued [] h = tt
  significant_spelled glued (t ∷ ts) h = within (is_whitespace t.kind) (significant_spelled false ts h.1) (significant_spelled true ts h.1)
    where
      within : (b : Bool) → AllSpelled (significant_from false ts) → AllSpelled (significant_from true ts)
          → AllSpelled (cond b (significant_from false ts) (record { tok = t; glued = glued } ∷ significant_from true ts))
      within true f g = f
      within false f g = (h.0, g)

  -- the significant tokens of a text have the spellings of their kinds
  pub lexed_spelled : (tokens : List Tok) → Lexed text tokens → AllSpelled (significant_tokens tokens)
  lexed_spelled tokens h =
      significant_spelled false tokens
      (subst AreSpelled (ap reverse (sym h.are) ∙ reverse-reverse tokens)
      (turned (h.last ∷ h.earlier) (next_spelled h.earlier h.last h.is_next, earlier_spelled h.earlier h.begins)))
