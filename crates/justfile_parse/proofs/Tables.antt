-- The table of a part is one that the parser reads.
use Rattle.std.proofs.Common.{◌≡◌, ◌∙◌, ℕ, zero, suc, ◌+◌, ◌-◌, ◌<◌, Bool, true, false, cond, ◌&&◌, IsTrue, List, [], ◌∷◌, ◌++◌, length, map, take, drop, All, refl, sym, ap, subst, arith}
use Rattle.std.specs.List.{list_all, remove}
use Rattle.std.specs.Str.{IsUtf8}
use Rattle.std.proofs.lemmas.Bool.{and_parts}
use Rattle.std.proofs.lemmas.List.{length-map}
use Rattle.std.proofs.lemmas.List.Elements.{All-append, All-drop, All-take}
use Rattle.std.proofs.lemmas.List.Folds.{list_all-append}
use Rattle.std.proofs.lemmas.Str.{IsUtf8-from_ascii}
use Rattle.justfile_vocabulary.specs.declared.token_kind.TokenKind.TheVariants as kinds
use Rattle.justfile_model.specs.Lexing.SignificantTokens.{SignificantToken, TableToken, is_whitespace, significant_from, significant_of, significant_tokens}
use Rattle.justfile_model.specs.Lexing.Tok.{Tok, tok_of}
use Rattle.justfile_lex.specs.SignificantTable.{IsTableOf}
use Rattle.justfile_round_trip.proofs.LiteralTexts.FormatParts.{are_inside}
use Rattle.justfile_round_trip.proofs.Values.TokenFacts.{Around, FormatAfter, Known, LexemeFact, Sound, around, is_comment, lexed_sound, outside}
use Rattle.justfile_parse_expression.specs.FormatStrings.{AreEnded, IsTable}
use Rattle.justfile_parse_expression.specs.Literal.{is_sound}
use Rattle.justfile_parse_file.proofs.FormatStrings.{inside_ended}
use Rattle.justfile_parse_file.proofs.Parsed.{lexed_once, some_significant, sound_lex}
use Rattle.justfile_chunks.specs.PartTables.{IsCutOff}

-- ---- the end after other tokens

end_known : (s : Around) (comment : Bool) (e : Tok) → e.kind ≡ kinds.Eof → e.lexeme ≡ [] → Known s comment e
end_known s comment e kind empty = record {
  fact = subst (λ k. LexemeFact s k e.lexeme) (sym kind) tt;
  utf8 = subst IsUtf8 (sym empty) (IsUtf8-from_ascii [] (λ i. omega arith));
  apart = λ c q k. let bad : kinds.Eof ≡ kinds.Comment = sym kind ∙ k in cc;
}

-- a token before others, of which one at the end is left out
module _ (n e : Tok) (seen : is_whitespace n.kind ≡ false) (end : e.kind ≡ kinds.Eof) (empty : e.lexeme ≡ []) where
  end_seen : is_whitespace e.kind ≡ false
  end_seen = ap is_whitespace end

  abbrev both : Bool → List SignificantToken
  both glued = significant_from glued (n ∷ e ∷ [])

  abbrev one : Bool → List SignificantToken
  one glued = significant_from glued (e ∷ [])

  one_is : (glued : Bool) → one glued ≡ record { tok = e; glued = glued } ∷ []
  one_is glued = ap (λ w. cond w [] (record { tok = e; glued = glued } ∷ [])) end_seen

  after_one : (t : Tok) (glued : Bool) → FormatAfter t (one glued)
  after_one t glued = subst (FormatAfter t) (sym (one_is glued)) (λ k l g s. let bad : kinds.Eof ≡ kinds.StringToken = sym end ∙ s in cc)

  format_cut : (t : Tok) (ts : List Tok) (glued : Bool) → FormatAfter t (significant_from glued (ts ++ (n ∷ e ∷ []))) → FormatAfter t (significant_from glued (ts ++ (e ∷ [])))
  format_cut t [] glued h = after_one t glued
  format_cut t (u ∷ ts) glued h = by (is_whitespace u.kind) (format_cut t ts false) h
    where
      by : (w : Bool) → (FormatAfter t (significant_from false (ts ++ (n ∷ e ∷ []))) → FormatAfter t (significant_from false (ts ++ (e ∷ []))))
          → FormatAfter t (cond w (significant_from false (ts ++ (n ∷ e ∷ []))) (record { tok = u; glued = glued } ∷ significant_from true (ts ++ (n ∷ e ∷ []))))
          → FormatAfter t (cond w (significant_from false (ts ++ (e ∷ []))) (record { tok = u; glued = glued } ∷ significant_from true (ts ++ (e ∷ []))))
      by true later h = later h
      by false later h = h

  sound_cut : (ts : List Tok) (s : Around) (comment glued : Bool) → Sound s comment (significant_from glued (ts ++ (n ∷ e ∷ [])))
      → Sound s comment (significant_from glued (ts ++ (e ∷ [])))
  sound_cut [] s comment glued h = subst (Sound s comment) (sym (one_is glued)) (end_known s comment e end empty, tt, tt)
  sound_cut (t ∷ ts) s comment glued h =
      by (is_whitespace t.kind) (sound_cut ts s comment false) (sound_cut ts (around t.kind t.lexeme s) (is_comment t.kind) true) h
    where
      by : (w : Bool) → (Sound s comment (significant_from false (ts ++ (n ∷ e ∷ []))) → Sound s comment (significant_from false (ts ++ (e ∷ []))))
          → (Sound (around t.kind t.lexeme s) (is_comment t.kind) (significant_from true (ts ++ (n ∷ e ∷ []))) → Sound (around t.kind t.lexeme s) (is_comment t.kind) (significant_from true (ts ++ (e ∷ []))))
          → Sound s comment (cond w (significant_from false (ts ++ (n ∷ e ∷ []))) (record { tok = t; glued = glued } ∷ significant_from true (ts ++ (n ∷ e ∷ []))))
          → Sound s comment (cond w (significant_from false (ts ++ (e ∷ []))) (record { tok = t; glued = glued } ∷ significant_from true (ts ++ (e ∷ []))))
      by true same next h = same h
      by false same next h = (h.0, format_cut t ts true h.1, next h.2)

-- ---- a token less

all_taken : {X : Type 0} (f : X → Bool) (xs : List X) (n : ℕ) → list_all f xs ≡ true → list_all f (take n xs) ≡ true
all_taken f xs zero h = refl
all_taken f [] (suc n) h = refl
all_taken f (x ∷ xs) (suc n) h = let both = and_parts (f x) (list_all f xs) h in λ i. both.0 i && all_taken f xs n both.1 i

all_dropped : {X : Type 0} (f : X → Bool) (xs : List X) (n : ℕ) → list_all f xs ≡ true → list_all f (drop n xs) ≡ true
all_dropped f xs zero h = h
all_dropped f [] (suc n) h = refl
all_dropped f (x ∷ xs) (suc n) h = all_dropped f xs n (and_parts (f x) (list_all f xs) h).1

all_but_one : {X : Type 0} (f : X → Bool) (xs : List X) (n : ℕ) → list_all f xs ≡ true → list_all f (remove xs n) ≡ true
all_but_one f xs n h = list_all-append f (take n xs) (drop (suc n) xs) ∙ (λ i. all_taken f xs n h i && all_dropped f xs (suc n) h i)

pub each_but_one : {X : Type 0} (P : X → Type 0) (xs : List X) (n : ℕ) → All P xs → All P (remove xs n)
each_but_one P xs n h = All-append P (take n xs) (drop (suc n) xs) (All-take P n xs h) (All-drop P (suc n) xs h)

-- ---- the table

module _ (path src : List ℕ) (utf8 : IsUtf8 src) (table after : List TableToken) (t : IsTableOf path src table) (off : IsCutOff (map tok_of t.tokens) (map significant_of after))
    (less : after ≡ remove table (length table - 2)) where
  abbrev left : List Tok
  left = off.part ++ (off.end ∷ [])

  some : 0 < length after
  some = omega (arith, some_significant false off.part off.end off.is_end, ap length off.significant_are, length-map after significant_of)

  sound : IsTrue (list_all is_sound after)
  sound =
      subst (λ es. IsTrue (list_all is_sound es)) (sym less)
      (all_but_one is_sound table (length table - 2) (sound_lex t.tokens table (lexed_once path src utf8 t.tokens t.lexed t.sources) t.significant.marked))

  ended : AreEnded (map significant_of after)
  ended =
      subst AreEnded (sym off.significant_are)
      (inside_ended (significant_tokens left) (are_inside outside false (significant_tokens left)
      (sound_cut off.next off.end off.seen off.is_end off.is_empty off.part outside false false
      (subst (λ ts. Sound outside false (significant_from false ts)) off.tokens_are (lexed_sound src (map tok_of t.tokens) utf8 t.lexed)))))

  pub part_table : IsTable after
  part_table = (some, sound, ended)
