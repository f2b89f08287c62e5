-- The table of significant tokens, token by token.
use Rattle.std.proofs.Common.{◌≡◌, ◌+◌, ◌<◌, ℕ, Bool, true, false, not, cond, List, [], ◌∷◌, ◌++◌, length, get_or, map, take, All, Contains, refl, sym, ap, ◌∙◌, subst, arith}
use Rattle.std.specs.List.{filter}
use Rattle.std.proofs.lemmas.List.{append_assoc, append-nil, get_or-map, length-map, map-append, take_more}
use Rattle.std.proofs.lemmas.List.Elements.{All-filter, Contains-get_or, filter-append}
use Rattle.justfile_token.specs.declared.token.Token.{Token}
use Rattle.justfile_model.specs.Lexing.Tok.{Tok, tok_of}
use Rattle.justfile_model.specs.Lexing.SignificantTokens.{SignificantToken, TableToken, is_whitespace, significant_from, significant_of, significant_tokens}
use Rattle.justfile_lex.specs.SignificantTable.{AreSignificant}

abbrev kept_in : List Token → List Token
kept_in = filter (λ t. not (is_whitespace t.kind))

-- the table of these tokens, after which the next one would be glued or not
pub record IsTableTo (tokens : List Token) (glued : Bool) (table : List TableToken) : Type 0 where
  pub marked : (more : List Tok) → significant_tokens (map tok_of tokens ++ more) ≡ map significant_of table ++ significant_from glued more
  pub kept : map (λ table_token. table_token.0) table ≡ kept_in tokens

module _ (tokens : List Token) (glued : Bool) (table : List TableToken) (t : Token) (h : IsTableTo tokens glued table) where
  all_tokens : (more : List Tok) → significant_tokens (map tok_of (tokens ++ t ∷ []) ++ more) ≡ map significant_of table ++ significant_from glued (tok_of t ∷ more)
  all_tokens more =
      ap significant_tokens (ap (λ (l : List Tok). l ++ more) (map-append tok_of tokens (t ∷ [])) ∙ append_assoc (map tok_of tokens) (tok_of t ∷ []) more)
      ∙ h.marked (tok_of t ∷ more)

  all_kept : kept_in (tokens ++ t ∷ []) ≡ kept_in tokens ++ cond (not (is_whitespace t.kind)) (t ∷ []) []
  all_kept = filter-append (λ t. not (is_whitespace t.kind)) tokens (t ∷ [])

  skips : is_whitespace t.kind ≡ true → IsTableTo (tokens ++ t ∷ []) false table
  skips white = record {
    marked = λ more.
        all_tokens more
        ∙ ap (λ (b : Bool). map significant_of table ++ cond b (significant_from false more) (significant_of (t, glued) ∷ significant_from true more)) white;
    kept =
        h.kept ∙ sym (append-nil (kept_in tokens))
        ∙ sym (all_kept ∙ ap (λ (b : Bool). kept_in tokens ++ cond (not b) (t ∷ []) []) white);
  }

  takes : is_whitespace t.kind ≡ false → IsTableTo (tokens ++ t ∷ []) true (table ++ (t, glued) ∷ [])
  takes other = record {
    marked = λ more.
        all_tokens more
        ∙ ap (λ (b : Bool). map significant_of table ++ cond b (significant_from false more) (significant_of (t, glued) ∷ significant_from true more)) other
        ∙ sym (ap (λ (l : List SignificantToken). l ++ significant_from true more) (map-append significant_of table ((t, glued) ∷ []))
        ∙ append_assoc (map significant_of table) (significant_of (t, glued) ∷ []) (significant_from true more));
    kept =
        map-append (λ (table_token : TableToken). table_token.0) table ((t, glued) ∷ [])
        ∙ ap (λ (l : List Token). l ++ t ∷ []) h.kept
        ∙ sym (all_kept ∙ ap (λ (b : Bool). kept_in tokens ++ cond (not b) (t ∷ []) []) other);
  }

  adds : IsTableTo (tokens ++ t ∷ []) (not (is_whitespace t.kind)) (table ++ cond (is_whitespace t.kind) [] ((t, glued) ∷ []))
  adds = by (is_whitespace t.kind) refl
    where
      by : (b : Bool) → is_whitespace t.kind ≡ b → IsTableTo (tokens ++ t ∷ []) (not b) (table ++ cond b [] ((t, glued) ∷ []))
      by true white = subst (IsTableTo (tokens ++ t ∷ []) false) (sym (append-nil table)) (skips white)
      by false other = takes other

  pub one_more : (after : Bool) (longer : List TableToken) → after ≡ not (is_whitespace t.kind) → longer ≡ table ++ cond (is_whitespace t.kind) [] ((t, glued) ∷ [])
      → IsTableTo (tokens ++ t ∷ []) after longer
  one_more after longer after_is longer_is =
      subst (λ b. IsTableTo (tokens ++ t ∷ []) b longer) (sym after_is)
      (subst (IsTableTo (tokens ++ t ∷ []) (not (is_whitespace t.kind))) (sym longer_is) adds)

-- a step of a loop: the table up to an index, and one token more
pub goes_on : (tokens : List Token) (index : ℕ) (before after : Bool) (so_far table : List TableToken) (t : Token) → index < length tokens → t ≡ get_or tokens index t
    → IsTableTo (take index tokens) before so_far → after ≡ not (is_whitespace t.kind) → table ≡ so_far ++ cond (is_whitespace t.kind) [] ((t, before) ∷ [])
    → IsTableTo (take (index + 1) tokens) after table
goes_on tokens index before after so_far table t below is h after_is table_is =
    let next : take index tokens ++ (t ∷ []) ≡ take (index + 1) tokens
    = sym (take_more tokens index t below ∙ ap (λ (x : Token). take index tokens ++ (x ∷ [])) (sym is)) in
    subst (λ (l : List Token). IsTableTo l after table) next (one_more (take index tokens) before so_far t h after table after_is table_is)

pub nothing : IsTableTo [] false []
nothing = record { marked = λ more. refl; kept = refl }

pub all_significant : (tokens : List Token) (glued : Bool) (table : List TableToken) → IsTableTo tokens glued table → AreSignificant tokens table
all_significant tokens glued table h = record {
  marked = sym (ap significant_tokens (sym (append-nil (map tok_of tokens))) ∙ h.marked [] ∙ append-nil (map significant_of table));
  kept = h.kept;
}

all_of_table_tokens : (P : Token → Type 0) (table : List TableToken) → All P (map (λ table_token. table_token.0) table) → All (λ table_token. P table_token.0) table
all_of_table_tokens P table all k d h =
    subst P (get_or-map (λ (table_token : TableToken). table_token.0) table k d d.0 h)
    (all k d.0 (omega (arith, h, length-map table (λ (table_token : TableToken). table_token.0))))

-- each token of the table is among the tokens
pub table_tokens_among : (tokens : List Token) (table : List TableToken) → AreSignificant tokens table → All (λ table_token. Contains tokens table_token.0) table
table_tokens_among tokens table is =
    let all : All (Contains tokens) (kept_in tokens) = All-filter (λ t. not (is_whitespace t.kind)) (Contains tokens) tokens (λ k d h. Contains-get_or tokens k d h) in
    all_of_table_tokens (Contains tokens) table (subst (All (Contains tokens)) (sym is.kept) all)
