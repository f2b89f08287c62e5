-- Expressions with a vector after the resolution of its items, and loops that write one item after another.
use mathlib.Core.Former.{Count}
use Rattle.std.proofs.Common.{◌≡◌, ℕ, ◌+◌, ◌<◌, ◌≤◌, zero, suc, Option, length, take, set, get_or, ◌++◌, List, [], ◌∷◌, arith, refl, sym, ap, ◌∙◌, subst}
use native.Mathlib.Numerals.{unary_clauses}
use Rattle.std.proofs.lemmas.List.{take_all, take_at}
use Rattle.std.specs.Global.{Vec}
use Rattle.std.specs.List.{AllZip}
use Rattle.justfile_numbers.specs.declared.number.Number.{Number}
use Rattle.justfile_token.specs.declared.name.Name.{Name}
use Rattle.justfile_token.specs.declared.token.Token.{Token}
use Rattle.justfile_token.specs.declared.string_literal.StringLiteral.{StringLiteral}
use Rattle.justfile_expression.specs.Resolved.{IsResolved, AreResolved, IsResolvedPart, AreResolvedParts}
use Rattle.justfile_expression.specs.declared.expression.Expression.{Expression, Call, FormatString, List as List_of, Row_of-Expression as ExpressionRow, end_of-Expression as row_end, more_of-Expression as row_more, Row_of-Expression-FormatString-1-2 as FormatRow, end_of-Expression-FormatString-1-2 as format_row_end, more_of-Expression-FormatString-1-2 as format_row_more, items-the_row-Expression, items-the_row-Expression-FormatString-1-2, items_hidden-the_row-Expression-0, items_hidden-the_row-Expression-FormatString-1-2-1}
use Rattle.justfile_expression.proofs.ExpressionRows.{row_of, part_row_of}

module _ (numbers : (name : List ℕ) → Option Number) where
  resolved_row : (m n : Count) (resolved : ExpressionRow m) (originals : ExpressionRow n)
      → AllZip (IsResolved numbers) (items-the_row-Expression m resolved) (items-the_row-Expression n originals) → AreResolved numbers resolved originals
  resolved_row m n row_end row_end is = tt
  resolved_row m n row_end (row_more original originals) is = is
  resolved_row m n (row_more e es) row_end is = is
  resolved_row m n (row_more e es) (row_more original originals) is = (is.0, resolved_row _ _ es originals is.1)

  resolved_parts : (m n : Count) (resolved : FormatRow m) (originals : FormatRow n)
      → AllZip (IsResolvedPart numbers) (items-the_row-Expression-FormatString-1-2 m resolved) (items-the_row-Expression-FormatString-1-2 n originals) → AreResolvedParts numbers resolved originals
  resolved_parts m n format_row_end format_row_end is = tt
  resolved_parts m n format_row_end (format_row_more original part' originals) is = is
  resolved_parts m n (format_row_more e part es) format_row_end is = is
  resolved_parts m n (format_row_more e part es) (format_row_more original part' originals) is = (is.0.0, is.0.1, resolved_parts _ _ es originals is.1)

  pub resolved_call : (name : Name) (v w : Vec Expression) → AllZip (IsResolved numbers) v.items w.items → IsResolved numbers (Call name v) (Call name w)
  resolved_call name v w is =
      let resolved = row_of (Call name v) in
      let originals = row_of (Call name w) in (
        refl,
        resolved_row resolved.0 originals.0 resolved.1 originals.1
            (subst (λ (l : List Expression). AllZip (IsResolved numbers) l (items-the_row-Expression originals.0 originals.1)) (sym (items_hidden-the_row-Expression-0 v))
            (subst (λ (l : List Expression). AllZip (IsResolved numbers) v.items l) (sym (items_hidden-the_row-Expression-0 w)) is)),
      )

  pub resolved_list : (opener : Token) (v w : Vec Expression) → AllZip (IsResolved numbers) v.items w.items → IsResolved numbers (List_of v opener) (List_of w opener)
  resolved_list opener v w is =
      let resolved = row_of (List_of v opener) in
      let originals = row_of (List_of w opener) in (
        resolved_row resolved.0 originals.0 resolved.1 originals.1
            (subst (λ (l : List Expression). AllZip (IsResolved numbers) l (items-the_row-Expression originals.0 originals.1)) (sym (items_hidden-the_row-Expression-0 v))
            (subst (λ (l : List Expression). AllZip (IsResolved numbers) v.items l) (sym (items_hidden-the_row-Expression-0 w)) is)),
        refl,
      )

  pub resolved_format_string : (start : StringLiteral) (v w : Vec (Expression × StringLiteral))
      → AllZip (IsResolvedPart numbers) v.items w.items → IsResolved numbers (FormatString start v) (FormatString start w)
  resolved_format_string start v w is =
      let resolved = part_row_of (FormatString start v) in
      let originals = part_row_of (FormatString start w) in (
        refl,
        resolved_parts resolved.0 originals.0 resolved.1 originals.1
            (subst (λ (l : List (Expression × StringLiteral)). AllZip (IsResolvedPart numbers) l (items-the_row-Expression-FormatString-1-2 originals.0 originals.1)) (sym (items_hidden-the_row-Expression-FormatString-1-2-1 v))
            (subst (λ (l : List (Expression × StringLiteral)). AllZip (IsResolvedPart numbers) v.items l) (sym (items_hidden-the_row-Expression-FormatString-1-2-1 w)) is)),
      )

module _ {X : Type 0} where
  -- the items from this index on are unchanged
  abbrev pub IsKeptFrom : (i : ℕ) (xs ys : List X) → Type 0
  IsKeptFrom i xs ys = (length xs ≡ length ys) × ((k : ℕ) (d : X) → i ≤ k → get_or xs k d ≡ get_or ys k d)

  set_length : (xs : List X) (i : ℕ) (v : X) → length (set xs i v) ≡ length xs
  set_length [] i v = refl
  set_length (x ∷ xs) zero v = refl
  set_length (x ∷ xs) (suc i) v = ap suc (set_length xs i v)

  set_before : (xs : List X) (i k : ℕ) (v d : X) → i < k → get_or (set xs i v) k d ≡ get_or xs k d
  set_before [] i k v d h = refl
  set_before (x ∷ xs) zero zero v d h = absurd (omega arith)
  set_before (x ∷ xs) (suc i) zero v d h = absurd (omega arith)
  set_before (x ∷ xs) zero (suc k) v d h = refl
  set_before (x ∷ xs) (suc i) (suc k) v d h = set_before xs i k v d (omega arith)

  -- the next item is written
  pub kept_on : (i : ℕ) (xs ys : List X) (v : X) → IsKeptFrom i xs ys → IsKeptFrom (i + 1) (set xs i v) ys
  kept_on i xs ys v kept = (set_length xs i v ∙ kept.0, λ k d h. set_before xs i k v d (omega arith) ∙ kept.1 k d (omega arith))

  -- each item written so far is related to the original one
  pub related_on : (R : X → X → Type 0) (i : ℕ) (xs ys : List X) (v d : X) → length xs ≡ length ys → i < length ys
      → AllZip R (take i xs) (take i ys) → R v (get_or ys i d) → AllZip R (take (i + 1) (set xs i v)) (take (i + 1) ys)
  related_on R i [] [] v d same h all is = absurd (omega arith)
  related_on R i [] (y ∷ ys) v d same h all is = absurd (omega arith)
  related_on R i (x ∷ xs) [] v d same h all is = absurd (omega arith)
  related_on R zero (x ∷ xs) (y ∷ ys) v d same h all is = (is, tt)
  related_on R (suc i) (x ∷ xs) (y ∷ ys) v d same h all is = simp unary_clauses (all.0, simp unary_clauses at (related_on R i xs ys v d (omega arith) (omega arith) all.1 is))

  -- all items are written
  pub all_related : (R : X → X → Type 0) (n i : ℕ) (xs ys zs rest : List X) → ys ≡ zs → length xs ≡ length ys → length ys ≡ n → length ys ≤ i
      → AllZip R (take i xs) (take i ys) → AllZip R (take n (xs ++ rest)) zs
  all_related R n i xs ys zs rest same lengths is ended all =
      subst (λ (l : List X). AllZip R l zs) (sym (take_at xs rest n (lengths ∙ is)))
      (subst (λ (l : List X). AllZip R xs l) (take_all i ys ended ∙ same)
      (subst (λ (l : List X). AllZip R l (take i ys)) (take_all i xs (omega arith)) all))
