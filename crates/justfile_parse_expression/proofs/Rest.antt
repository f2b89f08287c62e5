-- The state at an index of the table.
use Rattle.std.proofs.Common.{◌≡◌, ℕ, suc, Bool, true, false, cond, rules, ◌+◌, ◌<◌, ◌≤◌, ◌∙◌, List, [], ◌∷◌, sym, Option, Some, None, length, get_or, IsTrue, drop, refl, ap, add-one, arith, Result}
use Rattle.std.proofs.Math.Seq.{drop-cons}
use Rattle.std.proofs.lemmas.List.{append-nil, drop_all, length-drop}
use Rattle.std.specs.List.{list_all}
use Rattle.std.proofs.lemmas.List.Folds.{list_all_at}
use Rattle.justfile_token.specs.declared.token.Token.{Token}
use Rattle.justfile_vocabulary.specs.declared.token_kind.TokenKind.{TokenKind}
use Rattle.justfile_vocabulary.specs.declared.list_feature.ListFeature.{ListFeature}
use Rattle.justfile_parse_expression.specs.Literal.{is_sound}
use Rattle.justfile_parse_expression.specs.Significant.{TableToken}
use Rattle.justfile_model.specs.Readers.ReaderState.{with_next, marked_by, marks, with}
use Rattle.justfile_model.specs.Readers.ReaderState as reading
use Rattle.justfile_parse_expression.specs.TableReader.{Run, State, accept_marked, begin, leaves}
use Rattle.justfile_parse_expression.specs.Significant.{significant_of}
use Rattle.justfile_parse_expression.specs.View.{tokens_left, run_of, state_at, state_from, state_of}
use Rattle.std.proofs.Common.{is_some}
use Rattle.justfile_parse_expression.specs.declared.parser_state.ParserState.{ParserState}

module _ (run : Run) (depth n : ℕ) (fs : List (ListFeature × Token)) where
  pub state_here : (d : TableToken) → n < length run.table → state_at run depth n fs ≡ with_next (get_or run.table n d) (state_at run depth (n + 1) fs)
  unfolding state_at
  state_here d h = rw add-one (ap (λ (l : List TableToken). record { run = run; depth = depth; left = l; noted = fs }) (drop-cons run.table n d h))

  pub state_end : length run.table ≤ n → (state_at run depth n fs).left ≡ []
  unfolding state_at
  state_end h = drop_all n run.table h

  pub marked_here : (word : List ℕ) (kind : TokenKind) (d e : TableToken) → n + 1 < length run.table
      → accept_marked word kind (state_at run depth n fs)
      ≡ cond (marks word kind (significant_of (get_or run.table n d)) (significant_of (get_or run.table (n + 1) e))) (Some (get_or run.table (n + 1) e, state_at run depth (n + 2) fs)) None
  unfolding reading.accept_marked leaves state_at
  marked_here word kind d e h =
      let tail : drop (n + 1) run.table ≡ get_or run.table (n + 1) e ∷ drop (n + 2) run.table = drop-cons run.table (n + 1) e h ∙ ap (λ (k : ℕ). get_or run.table (n + 1) e ∷ drop k run.table) (two n) in
      let one : drop n run.table ≡ get_or run.table n d ∷ drop (n + 1) run.table = rw add-one (drop-cons run.table n d (omega (arith, h))) in
      let whole : drop n run.table ≡ get_or run.table n d ∷ get_or run.table (n + 1) e ∷ drop (n + 2) run.table = one ∙ ap (λ (l : List TableToken). get_or run.table n d ∷ l) tail in
      ap (λ (l : List TableToken). marked_by leaves word kind (record { run = run; depth = depth; left = l; noted = fs }) l) whole
    where
      two : (n : ℕ) → suc (n + 1) ≡ n + 2
      two n = omega arith

  pub marked_end : (word : List ℕ) (kind : TokenKind) → length run.table ≤ n + 1 → accept_marked word kind (state_at run depth n fs) ≡ None
  unfolding reading.accept_marked leaves state_at
  marked_end word kind h = short (drop n run.table) (omega (arith, h, length-drop n run.table))
    where
      short : (l : List TableToken) → length l ≤ 1 → marked_by leaves word kind (record { run = run; depth = depth; left = l; noted = fs }) l ≡ None
      short [] h = refl
      short (x ∷ []) h = refl
      short (x ∷ y ∷ l) h = absurd (omega (arith, h))

  module _ (word : List ℕ) (kind : TokenKind) (d e : TableToken) (h : n + 1 < length run.table) where
    pub marked_taken : marks word kind (significant_of (get_or run.table n d)) (significant_of (get_or run.table (n + 1) e)) ≡ true → accept_marked word kind (state_at run depth n fs) ≡ Some (get_or run.table (n + 1) e, state_at run depth (n + 2) fs)
    marked_taken is = marked_here word kind d e h ∙ ap (λ (b : Bool). cond {A = Option (TableToken × State)} b (Some (get_or run.table (n + 1) e, state_at run depth (n + 2) fs)) None) is

    pub marked_left : marks word kind (significant_of (get_or run.table n d)) (significant_of (get_or run.table (n + 1) e)) ≡ false → accept_marked word kind (state_at run depth n fs) ≡ None
    marked_left is = marked_here word kind d e h ∙ ap (λ (b : Bool). cond {A = Option (TableToken × State)} b (Some (get_or run.table (n + 1) e, state_at run depth (n + 2) fs)) None) is

decided : (one all : Bool) → (one ≡ false → all ≡ false) → IsTrue all → IsTrue one
decided true all h is = search rules
decided false all h is = let e : all ≡ false = h refl in cc

pub sound_at : (table : List TableToken) (n : ℕ) (d : TableToken) → n < length table → IsTrue (list_all is_sound table) → IsTrue (is_sound (get_or table n d))
sound_at table n d h = decided (is_sound (get_or table n d)) (list_all is_sound table) (list_all_at is_sound table n d h)

pub with_none : (s : State) → with [] s ≡ s
with_none s = ap (λ (l : List (ListFeature × Token)). record { run = s.run; depth = s.depth; left = s.left; noted = l }) (append-nil s.noted)

module _ {X : Type 0} (answer : X → List ℕ → Result (List ℕ) (List ℕ)) (p : ParserState X) where
  pub peeked : (d : TableToken) → p.next < length p.tokens.now → state_of answer p ≡ with_next (get_or p.tokens.now p.next d) (state_from answer p (p.next + 1))
  unfolding state_of
  peeked d h = state_here (run_of answer p) p.depth p.next p.list_features.items d h

  pub ended : length p.tokens.now ≤ p.next → (state_of answer p).left ≡ []
  unfolding state_of
  ended h = state_end (run_of answer p) p.depth p.next p.list_features.items h

-- the file's depth is that of the run
pub file_depth_is : {X : Type 0} (answer : X → List ℕ → Result (List ℕ) (List ℕ)) (p : ParserState X) → (state_of answer p).run.file_depth ≡ p.file_depth
unfolding state_of state_at
file_depth_is answer p = refl

pub import_offsets_are : {X : Type 0} (answer : X → List ℕ → Result (List ℕ) (List ℕ)) (p : ParserState X) → (state_of answer p).run.import_offsets ≡ p.import_offsets.now
unfolding state_of state_at
import_offsets_are answer p = refl

pub left_is : {X : Type 0} (answer : X → List ℕ → Result (List ℕ) (List ℕ)) (p : ParserState X) → length (state_of answer p).left ≡ tokens_left p
unfolding state_of state_at tokens_left
left_is answer p = length-drop p.next p.tokens.now

-- ---- where reading begins

pub begin_is : (run : Run) (fs : List (ListFeature × Token)) → fs ≡ [] → state_at run 0 0 fs ≡ begin run
unfolding state_at
begin_is run fs none = ap (λ (l : List (ListFeature × Token)). record { run = run; depth = 0; left = run.table; noted = l }) none

pub noted_is : {X : Type 0} (answer : X → List ℕ → Result (List ℕ) (List ℕ)) (p : ParserState X) → (state_of answer p).noted ≡ p.list_features.items
unfolding state_of state_at
noted_is answer p = refl

-- ---- a mark, and the string that is glued to it

marked_by_test : {X : Type 0} (b : Bool) (x : X) → b ≡ is_some (cond b (Some x) None)
marked_by_test true x = refl
marked_by_test false x = refl

module _ (run : Run) (depth n : ℕ) (fs : List (ListFeature × Token)) (word : List ℕ) (kind : TokenKind) where
  pub marked_is : (d e : TableToken) → n + 1 < length run.table
      → marks word kind (significant_of (get_or run.table n d)) (significant_of (get_or run.table (n + 1) e)) ≡ is_some (accept_marked word kind (state_at run depth n fs))
  marked_is d e h =
      marked_by_test (marks word kind (significant_of (get_or run.table n d)) (significant_of (get_or run.table (n + 1) e))) (get_or run.table (n + 1) e, state_at run depth (n + 2) fs)
      ∙ ap is_some (sym (marked_here run depth n fs word kind d e h))

  pub marked_none : length run.table ≤ n + 1 → false ≡ is_some (accept_marked word kind (state_at run depth n fs))
  marked_none h = ap is_some (sym (marked_end run depth n fs word kind h))
