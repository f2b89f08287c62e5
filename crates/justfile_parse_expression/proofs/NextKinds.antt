-- The kinds of the next tokens.
use Rattle.std.proofs.Common.{◌≡◌, ℕ, ◌+◌, ◌<◌, ◌≤◌, Bool, true, false, List, ◌∷◌, length, drop, get_or, sym, ap, ◌∙◌, add-one, arith}
use Rattle.std.specs.Prelude.{◌&&◌, nat_lt}
use Rattle.std.proofs.Math.Seq.{drop-cons}
use Rattle.std.proofs.lemmas.List.{drop_all, drop-drop}
use Rattle.std.proofs.lemmas.Bool.Decides.{nat_tests}
use Rattle.justfile_token.specs.declared.token.Token.{Token}
use Rattle.justfile_vocabulary.specs.declared.token_kind.TokenKind.{TokenKind}
use Rattle.justfile_model.specs.Readers.ReaderState as reading
use Rattle.justfile_model.specs.Readers.ReaderState.{at, same_kind}
use Rattle.justfile_parse_expression.specs.TableReader.{Run, leaves}
use Rattle.justfile_vocabulary.specs.declared.list_feature.ListFeature.{ListFeature}
use Rattle.justfile_parse_expression.specs.Significant.{TableToken}
use Rattle.justfile_parse_expression.specs.View.{state_at}

-- the kinds before an index are those of the next tokens, and the others are left
pub record AreTo (table : List TableToken) (kinds : List TokenKind) (start index next : ℕ) : Type 0 where
  pub at : next ≡ start + index
  pub within : next ≤ length table
  pub same : reading.begin_with leaves kinds (drop start table) ≡ reading.begin_with leaves (drop index kinds) (drop next table)

module _ (table : List TableToken) (kinds : List TokenKind) where
  module _ (start index next : ℕ) (so_far : AreTo table kinds start index next) where
    pub are_all : length kinds ≤ index → reading.begin_with leaves kinds (drop start table) ≡ true
    unfolding reading.begin_with
    are_all h = so_far.same ∙ ap (λ (ks : List TokenKind). reading.begin_with leaves ks (drop next table)) (drop_all index kinds h)

    pub are_within : length kinds ≤ index → index ≤ length kinds → start + length kinds ≤ length table
    are_within h k = omega (arith, so_far.at, so_far.within)

    module _ (k : TokenKind) (h : index < length kinds) where
      split : drop index kinds ≡ get_or kinds index k ∷ drop (index + 1) kinds
      split = rw add-one (drop-cons kinds index k h)

      pub are_ended : false ≡ nat_lt next (length table) → reading.begin_with leaves kinds (drop start table) ≡ false
      unfolding reading.begin_with
      are_ended e =
          so_far.same ∙ ap (λ (ks : List TokenKind). reading.begin_with leaves ks (drop next table)) split
          ∙ ap (reading.begin_with leaves (get_or kinds index k ∷ drop (index + 1) kinds)) (drop_all next table (grind (arith, nat_tests, e)))

      module _ (d table_token : TableToken) (t : true ≡ nat_lt next (length table)) (is : table_token ≡ get_or table next d) where
        inside : next < length table
        inside = grind (arith, nat_tests, t)

        next_here : drop next table ≡ get_or table next d ∷ drop (next + 1) table
        next_here = rw add-one (drop-cons table next d inside)

        here : reading.begin_with leaves kinds (drop start table) ≡ (same_kind table_token.0.kind (get_or kinds index k) && reading.begin_with leaves (drop (index + 1) kinds) (drop (next + 1) table))
        unfolding reading.begin_with leaves
        here =
            so_far.same ∙ ap (λ (ks : List TokenKind). reading.begin_with leaves ks (drop next table)) split
            ∙ ap (reading.begin_with leaves (get_or kinds index k ∷ drop (index + 1) kinds)) (next_here ∙ ap (λ (e : TableToken). e ∷ drop (next + 1) table) (sym is))

        pub are_other : same_kind table_token.0.kind (get_or kinds index k) ≡ false → reading.begin_with leaves kinds (drop start table) ≡ false
        are_other other = here ∙ ap (λ (b : Bool). b && reading.begin_with leaves (drop (index + 1) kinds) (drop (next + 1) table)) other

        pub are_go_on : same_kind table_token.0.kind (get_or kinds index k) ≡ true → AreTo table kinds start (index + 1) (next + 1)
        are_go_on same_here =
            record {
              at = omega (arith, so_far.at);
              within = omega (arith, inside);
              same = here ∙ ap (λ (b : Bool). b && reading.begin_with leaves (drop (index + 1) kinds) (drop (next + 1) table)) same_here;
            }

-- ---- the same of what is left

module _ (run : Run) (depth n : ℕ) (fs : List (ListFeature × Token)) where
  pub left_are : (kinds : List TokenKind) (b : Bool) → reading.begin_with leaves kinds (drop n run.table) ≡ b → reading.begin_with leaves kinds (state_at run depth n fs).left ≡ b
  unfolding state_at
  left_are kinds b h = h

  -- ---- tokens that are taken

  pub state_skip : (count : ℕ) → state_at run depth (n + count) fs ≡ at (state_at run depth n fs) (drop count (state_at run depth n fs).left)
  unfolding state_at
  state_skip count = ap (at (state_at run depth n fs)) (sym (drop-drop count n run.table))
