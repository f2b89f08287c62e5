-- The keyword that a construct begins with is its first word, if that is one.
use Rattle.std.proofs.Common.{◌≡◌, ◌∙◌, Bool, true, false, ◌&&◌, ◌||◌, cond, List, ℕ, [], ◌∷◌, Option, Some, None, refl, ap}
use Rattle.std.specs.List.{find, list_any}
use Rattle.std.specs.Str.{bytes_eq}
use Rattle.std.proofs.lemmas.Slice.Eq.{bytes_eq-Decides}
use Rattle.justfile_token.specs.Token.{lexeme_of}
use Rattle.justfile_vocabulary.specs.Keyword.{keyword_text}
use Rattle.justfile_vocabulary.specs.declared.keyword.Keyword.{Keyword}
use Rattle.justfile_vocabulary.specs.declared.token_kind.TokenKind.TheVariants as kinds
use Rattle.justfile_model.specs.Readers.PartReader as parts
use Rattle.justfile_model.specs.Readers.PartReader.{if_follows}
use Rattle.justfile_model.specs.Readers.ReaderState as reading
use Rattle.justfile_model.specs.Readers.ReaderState.{accept_by, at, is_word, same_kind}
use Rattle.justfile_model.specs.Lexing.SignificantTokens.{SignificantToken}
use Rattle.justfile_parse_item.specs.ConstructKeywords.{Beginning, KeywordTaken, beginning_of, first_taken, keyword_taken, one_taken, taken_as}
use Rattle.justfile_parse_item.specs.declared.construct.ConstructKeyword.{ConstructKeyword}
use Rattle.justfile_parse_item.specs.declared.construct.TheConstants.{BEGINNINGS}
use Rattle.justfile_parse_expression.specs.TableReader.{State, accept, leaves}
use Rattle.justfile_parse_expression.specs.Significant.{TableToken, significant_of}
use Rattle.justfile_parse_item_parts.specs.PartTable.{accept_keyword_before, follows}
use Rattle.justfile_parse_item_parts.specs.declared.lookahead.Lookahead.{Lookahead}

abbrev Taken : Type 0
Taken = Option (TableToken × State)

cond_none : {X : Type 0} (b : Bool) (x : X) → cond {A = Option X} b (Some x) None ≡ None → b ≡ false
cond_none true x h = cc
cond_none false x h = refl

cond_some : {X : Type 0} (b : Bool) (x y : X) → cond {A = Option X} b (Some x) None ≡ Some y → x ≡ y
cond_some true x y h = cc
cond_some false x y h = cc

second_false : (a b : Bool) → b ≡ false → (a && b) ≡ false
second_false true b h = h
second_false false b h = refl

abbrev is_name : SignificantToken → Bool
is_name t = same_kind t.tok.kind kinds.Identifier

-- no word is taken where no name comes next
unnamed_by : (k : List ℕ) (s : State) (l : List TableToken) → accept_by leaves is_name s l ≡ None → accept_by leaves (is_word k) s l ≡ None
unfolding is_word leaves
unnamed_by k s [] h = refl
unnamed_by k s (t ∷ ts) h =
    ap (λ (b : Bool). cond {A = Taken} (b && bytes_eq (significant_of t).tok.lexeme k) (Some (t, at s ts)) None) (cond_none (is_name (significant_of t)) (t, at s ts) h)

-- nor where another word comes next
unlike_by : (k : List ℕ) (s : State) (l : List TableToken) (table_token : TableToken) (rest : State) → accept_by leaves is_name s l ≡ Some (table_token, rest)
    → bytes_eq (lexeme_of table_token.0) k ≡ false → accept_by leaves (is_word k) s l ≡ None
unfolding is_word leaves
unlike_by k s [] table_token rest h n = cc
unlike_by k s (t ∷ ts) table_token rest h n =
    let same : t ≡ table_token = ap (λ (x : TableToken × State). x.0) (cond_some (is_name (significant_of t)) (t, at s ts) (table_token, rest) h) in
    let other : bytes_eq (lexeme_of t.0) k ≡ false = ap (λ (x : TableToken). bytes_eq (lexeme_of x.0) k) same ∙ n in
    ap (λ (b : Bool). cond {A = Taken} b (Some (t, at s ts)) None) (second_false (is_name (significant_of t)) (bytes_eq (lexeme_of t.0) k) other)

-- ---- the keywords, one after another

none_before : (row : Beginning) (s : State) → reading.accept_keyword leaves (keyword_text row.1) s ≡ None → one_taken row s ≡ None
unfolding parts.accept_keyword_before
none_before row s h = ap (λ (o : Taken). if_follows leaves (follows row.2) o) h

none_step : (word : ConstructKeyword) (o : Taken) (rest : KeywordTaken) → o ≡ None → rest ≡ None → taken_as word o rest ≡ None
none_step word o rest e f = ap (λ (x : Taken). taken_as word x rest) e ∙ f

none_taken : (s : State) → ((row : Beginning) → one_taken row s ≡ None) → (rows : List Beginning) → first_taken rows s ≡ None
none_taken s none [] = refl
none_taken s none (r ∷ rs) = none_step r.0 (one_taken r s) (first_taken rs s) (none r) (none_taken s none rs)

pub unnamed : (s : State) → accept kinds.Identifier s ≡ None → keyword_taken s ≡ None
unfolding keyword_taken reading.accept reading.accept_keyword
unnamed s h = none_taken s (λ row. none_before row s (unnamed_by (keyword_text row.1) s s.left h)) BEGINNINGS

-- no two rows have one keyword
abbrev AllApart : List Beginning → Type 0
AllApart [] = Unit {0}
AllApart (r ∷ rs) = (list_any (λ row. bytes_eq (keyword_text r.1) (keyword_text row.1)) rs ≡ false) × AllApart rs

or_false : (a b : Bool) → (a || b) ≡ false → (a ≡ false) × (b ≡ false)
or_false false b h = (refl, h)
or_false true b h = cc

-- the keyword of this row, where it comes next and is followed as it has to be
abbrev by_row : State → Option Beginning → KeywordTaken
by_row s None = None
by_row s (Some row) = taken_as row.0 (one_taken row s) None

module _ (s : State) (table_token : TableToken) (rest : State) (h : accept kinds.Identifier s ≡ Some (table_token, rest)) where
  abbrev is_here : Beginning → Bool
  is_here row = bytes_eq (lexeme_of table_token.0) (keyword_text row.1)

  unlike : (row : Beginning) → is_here row ≡ false → one_taken row s ≡ None
  unfolding reading.accept reading.accept_keyword
  unlike row n = none_before row s (unlike_by (keyword_text row.1) s s.left table_token rest h n)

  none_of : (rows : List Beginning) → list_any is_here rows ≡ false → first_taken rows s ≡ None
  none_of [] n = refl
  none_of (r ∷ rs) n =
      let both = or_false (is_here r) (list_any is_here rs) n in
      none_step r.0 (one_taken r s) (first_taken rs s) (unlike r both.0) (none_of rs both.1)

  taken : (rows : List Beginning) → AllApart rows → first_taken rows s ≡ by_row s (find is_here rows)
  taken [] apart = refl
  taken (r ∷ rs) apart = by (is_here r) refl (taken rs apart.1)
    where
      by : (b : Bool) → is_here r ≡ b → first_taken rs s ≡ by_row s (find is_here rs) → first_taken (r ∷ rs) s ≡ by_row s (cond b (Some r) (find is_here rs))
      by false e others = ap (λ (x : Taken). taken_as r.0 x (first_taken rs s)) (unlike r e) ∙ others
      by true e others =
          let same : lexeme_of table_token.0 ≡ keyword_text r.1 = (bytes_eq-Decides (lexeme_of table_token.0) (keyword_text r.1)).0 e in
          ap (taken_as r.0 (one_taken r s)) (none_of rs (ap (λ (w : List ℕ). list_any (λ row. bytes_eq w (keyword_text row.1)) rs) same ∙ apart.0))

  by_its_word : keyword_taken s ≡ by_row s (beginning_of (lexeme_of table_token.0))
  unfolding keyword_taken
  by_its_word = taken BEGINNINGS (refl, (refl, (refl, (refl, (refl, (refl, (refl, tt)))))))

  -- the word is none of the keywords
  pub other_word : beginning_of (lexeme_of table_token.0) ≡ None → keyword_taken s ≡ None
  other_word e = by_its_word ∙ ap (by_row s) e

  -- it is that of a row, where it isn't followed as it has to be
  pub not_followed : (word : ConstructKeyword) (keyword : Keyword) (lookahead : Lookahead) → beginning_of (lexeme_of table_token.0) ≡ Some (word, keyword, lookahead)
      → accept_keyword_before (keyword_text keyword) (follows lookahead) s ≡ None → keyword_taken s ≡ None
  not_followed word keyword lookahead e n = by_its_word ∙ ap (by_row s) e ∙ ap (λ (o : Taken). taken_as word o None) n

  -- where it is
  pub followed : (word : ConstructKeyword) (keyword : Keyword) (lookahead : Lookahead) → beginning_of (lexeme_of table_token.0) ≡ Some (word, keyword, lookahead)
      → (found : TableToken) (new : State) → accept_keyword_before (keyword_text keyword) (follows lookahead) s ≡ Some (found, new) → keyword_taken s ≡ Some (word, new)
  followed word keyword lookahead e found new t = by_its_word ∙ ap (by_row s) e ∙ ap (λ (o : Taken). taken_as word o None) t
