-- A keyword, and what follows it.
use Rattle.std.specs.Borrow.{Bor}
use Rattle.std.proofs.Common.{◌≡◌, ◌∙◌, ℕ, Bool, true, false, cond, List, [], ◌∷◌, Option, Some, None, IsTrue, is_some, refl, sym, ap}
use Rattle.std.specs.Prelude.{◌||◌, ◌&&◌}
use Rattle.std.specs.Str.{bytes_eq}
use Rattle.justfile_vocabulary.specs.declared.token_kind.TokenKind.{TokenKind}
use Rattle.justfile_vocabulary.specs.declared.token_kind.TokenKind.TheVariants as kinds
use Rattle.justfile_model.specs.Readers.PartReader as parts
use Rattle.justfile_model.specs.Readers.ReaderState as reading
use Rattle.justfile_model.specs.Readers.ReaderState.{accept_by, at, begin_with, same_kind}
use Rattle.justfile_parse_expression.specs.MethodResults.{TakesTableToken}
use Rattle.justfile_parse_expression.specs.TableReader.{State, accept_keyword, leaves, next_are}
use Rattle.justfile_parse_expression.specs.Significant.{TableToken}
use Rattle.justfile_parse_item_parts.specs.PartTable.{accept_keyword_before, follows, follows_past}
use Rattle.justfile_parse_item_parts.specs.declared.lookahead.Lookahead.{Lookahead}
use Rattle.justfile_parse_item_parts.specs.declared.lookahead.Lookahead.TheVariants as followings

either : {a b c d : Bool} → a ≡ b → c ≡ d → (a || c) ≡ (b || d)
either h k = λ i. h i || k i

module _ (word : List ℕ) (s : State) (w : TableToken × State) (is : accept_keyword word s ≡ Some w) where
  past : (ks : List TokenKind) → next_are (kinds.Identifier ∷ ks) s ≡ next_are ks w.1
  unfolding reading.accept_keyword reading.begin_with reading.is_word
  past ks = go s.left is
    where
      first : (t : TableToken) (ts : List TableToken) (a b : Bool) → ◌≡◌ {A = Option (TableToken × State)} (cond (a && b) (Some (t, at s ts)) None) (Some w)
          → (a && begin_with leaves ks ts) ≡ begin_with leaves ks w.1.left
      first t ts true true e = ap (λ (x : Option (TableToken × State)). begin_with leaves ks (left_in x)) e
        where
          left_in : Option (TableToken × State) → List TableToken
          left_in None = []
          left_in (Some x) = x.1.left
      first t ts true false e = cc
      first t ts false b e = cc

      go : (l : List TableToken) → accept_by leaves (reading.is_word word) s l ≡ Some w → begin_with leaves (kinds.Identifier ∷ ks) l ≡ begin_with leaves ks w.1.left
      go [] e = cc
      go (t ∷ ts) e = first t ts (same_kind (leaves.see t).tok.kind kinds.Identifier) (bytes_eq (leaves.see t).tok.lexeme word) e

  line : parts.line_is leaves (kinds.Identifier ∷ kinds.Identifier ∷ []) s ≡ parts.line_is leaves (kinds.Identifier ∷ []) w.1
  line =
      let name : TokenKind → List TokenKind = λ k. kinds.Identifier ∷ k ∷ [] in
      either (either (past (name kinds.Comment)) (past (name kinds.Eol))) (past (name kinds.Eof))

  assigned : follows_past followings.Assignment s ≡ follows followings.Assignment w.1
  assigned = past (kinds.Identifier ∷ kinds.ColonEquals ∷ [])

  marked : next_are (kinds.Identifier ∷ kinds.Identifier ∷ kinds.StringToken ∷ []) s ≡ next_are (kinds.Identifier ∷ kinds.StringToken ∷ []) w.1
  marked = past (kinds.Identifier ∷ kinds.StringToken ∷ [])

  pub followed : (following : Lookahead) → follows_past following s ≡ follows following w.1
  followed followings.Assignment = assigned
  followed followings.Import = either (past (kinds.QuestionMark ∷ [])) (either (past (kinds.StringToken ∷ [])) marked)
  followed followings.Line = line
  followed followings.Module =
      either (either (either (past (kinds.QuestionMark ∷ [])) line) marked) (past (kinds.Identifier ∷ kinds.Identifier ∷ kinds.StringToken ∷ []))
  followed followings.Set = either assigned line

module _ (word : List ℕ) (following : Lookahead) (s : State) where
  -- the word that is taken is taken before what follows it
  pub taken : (found : Option (Bor TableToken)) (rest : State) → TakesTableToken found rest (accept_keyword word s) → follows_past following s ≡ true
      → TakesTableToken found rest (accept_keyword_before word (follows following) s)
  unfolding parts.accept_keyword_before
  taken (Some table_token) rest is there =
      let h : follows following rest ≡ true = sym (followed word s (table_token.now, rest) is following) ∙ there in
      rw (is, h) refl
  taken None rest is there = rw is refl

  pub not_followed : follows_past following s ≡ false → accept_keyword_before word (follows following) s ≡ None
  unfolding parts.accept_keyword_before
  not_followed none = go (accept_keyword word s) refl
    where
      go : (o : Option (TableToken × State)) → accept_keyword word s ≡ o → parts.if_follows leaves (follows following) o ≡ None
      go None is = refl
      go (Some w) is =
          let h : follows following w.1 ≡ false = sym (followed word s w is following) ∙ none in
          rw h refl

  pub no_word : is_some (accept_keyword word s) ≡ false → accept_keyword_before word (follows following) s ≡ None
  unfolding parts.accept_keyword_before
  no_word none = go (accept_keyword word s) none
    where
      go : (o : Option (TableToken × State)) → is_some o ≡ false → parts.if_follows leaves (follows following) o ≡ None
      go None h = refl
      go (Some w) h = cc
