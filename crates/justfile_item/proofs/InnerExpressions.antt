-- The expressions in an expression, by its parts, and what is left of them on the way along a path.
use mathlib.Core.Former.{Count}
use native.Mathlib.Numerals.{unary_clauses}
use Rattle.std.proofs.Common.{◌≡◌, ◌∙◌, ◌<◌, ◌+◌, ◌*◌, ℕ, zero, suc, List, [], ◌∷◌, ◌++◌, None, Some, map, length, drop, reverse, refl, sym, ap, append_assoc, append-nil, arith}
use Rattle.std.proofs.lemmas.List.{length-append, map-append, reverse-append}
use Rattle.std.specs.Borrow.{Bor}
use Rattle.std.specs.List.{flat_map, slice_get}
use Rattle.justfile_token.specs.declared.string_literal.StringLiteral as literals
use Rattle.justfile_expression.specs.Children.{Child, children, row_children, then_part, then_text}
use Rattle.justfile_expression.specs.Parts.{parts_of}
use Rattle.justfile_inner_expressions.specs.Pushed.{referents}
use Rattle.justfile_expression.specs.declared.expression.Expression.{Expression, And', Assert', Backtick, Call', Comparison', Concatenation', Conditional', FormatString', Group', Join', List', ListConcatenation', Not', Or', StringLiteral, Variable, None', Some', Row_of-Expression as ExpressionRow, end_of-Expression as row_end, more_of-Expression as row_more, Row_of-Expression-FormatString-1-2 as FormatRow, end_of-Expression-FormatString-1-2 as format_row_end, more_of-Expression-FormatString-1-2 as format_row_more, items-the_row-Expression, items-the_row-Expression-FormatString-1-2}
use Rattle.justfile_item.specs.AllExpressions.{inner, part_inner, row_inner, with_inner}

-- ---- by its parts

-- the expressions of a row's children
row_parts : {X : Type 0} (next last : X → Child) (part : X → Expression) → ((x : X) → (next x).0 ≡ part x) → ((x : X) → (last x).0 ≡ part x)
    → (xs : List X) → map (λ (c : Child). c.0) (row_children next last xs) ≡ map part xs
row_parts next last part a b [] = refl
row_parts next last part a b (x ∷ []) = ap (λ e. e ∷ []) (b x)
row_parts next last part a b (x ∷ y ∷ xs) = λ i. a x i ∷ row_parts next last part a b (y ∷ xs) i

elements : (a b : _) (es : List Expression) → map (λ (c : Child). c.0) (row_children (then_text a) (then_text b) es) ≡ map (λ e. e) es
elements a b es = row_parts (then_text a) (then_text b) (λ e. e) (λ e. refl) (λ e. refl) es

in_row : (n : Count) (row : ExpressionRow n) → row_inner row ≡ flat_map with_inner (map (λ e. e) (items-the_row-Expression n row))
in_row n row_end = refl
in_row n (row_more e others) = ap (λ es. with_inner e ++ es) (in_row _ others)

in_parts : (n : Count) (row : FormatRow n) → part_inner row ≡ flat_map with_inner (map (λ p. p.0) (items-the_row-Expression-FormatString-1-2 n row))
in_parts n format_row_end = refl
in_parts n (format_row_more e literal others) = ap (λ es. with_inner e ++ es) (in_parts _ others)

one : (a : Expression) → with_inner a ≡ flat_map with_inner (a ∷ [])
one a = sym (append-nil (with_inner a))

two : (a b : Expression) → with_inner a ++ with_inner b ≡ flat_map with_inner (a ∷ b ∷ [])
two a b = ap (λ es. with_inner a ++ es) (one b)

-- the expressions in an expression are its parts, each followed by those in it
pub by_parts : (e : Expression) → inner e ≡ flat_map with_inner (parts_of e)
by_parts (And' p lhs q rhs) = two lhs rhs
by_parts (Assert' p condition None' name) = refl
by_parts (Assert' p condition (Some' q message) name) = two condition message
by_parts (Backtick contents token) = refl
by_parts (Call' name n arguments) = in_row _ arguments ∙ ap (flat_map with_inner) (sym (elements _ _ (items-the_row-Expression _ arguments)))
by_parts (Comparison' p lhs operator q rhs token) = two lhs rhs
by_parts (Concatenation' p lhs operator q rhs) = two lhs rhs
by_parts (Conditional' p condition q branch None') = refl
by_parts (Conditional' p condition q branch (Some' r other)) = ap (λ es. with_inner condition ++ es) (two branch other)
by_parts (FormatString' first n expressions) =
    in_parts _ expressions
    ∙ ap (flat_map with_inner) (sym (row_parts (then_part _) (then_part _) (λ p. p.0) (λ p. refl) (λ p. refl) (items-the_row-Expression-FormatString-1-2 _ expressions)))
by_parts (Group' p contents) = one contents
by_parts (Join' None' operator q rhs) = one rhs
by_parts (Join' (Some' p lhs) operator q rhs) = two lhs rhs
by_parts (List' n row opener) = in_row _ row ∙ ap (flat_map with_inner) (sym (elements _ _ (items-the_row-Expression _ row)))
by_parts (ListConcatenation' p lhs operator q rhs) = two lhs rhs
by_parts (Not' p operand) = one operand
by_parts (Or' p lhs q rhs) = two lhs rhs
by_parts (StringLiteral literal) = refl
by_parts (Variable name number) = refl

-- ---- along a path

cut : {X : Type 0} (xs : List X) (i : ℕ) (x : X) → Some x ≡ slice_get xs i → drop i xs ≡ x ∷ drop (suc i) xs
cut [] i x h = absurd cc
cut (y ∷ ys) zero x h = let same : y ≡ x = cc in ap (λ z. z ∷ ys) same
cut (y ∷ ys) (suc i) x h = cut ys i x h

dropped : {X : Type 0} (xs : List X) (i : ℕ) (x : X) → Some x ≡ slice_get xs i → drop i xs ≡ x ∷ drop (i + 1) xs
dropped xs i x h = simp unary_clauses (cut xs i x h)

none_left : {X : Type 0} (xs : List X) (i : ℕ) → None ≡ slice_get xs i → drop i xs ≡ []
none_left [] zero h = refl
none_left [] (suc i) h = refl
none_left (y ∷ ys) zero h = absurd cc
none_left (y ∷ ys) (suc i) h = none_left ys i h

-- what is left of an expression from its part at an index on
abbrev left : Bor Expression × ℕ → List Expression
left s = flat_map with_inner (drop s.1 (parts_of s.0.now))

-- what is left along a path, from its end on
abbrev pub left_along : List (Bor Expression × ℕ) → List Expression
left_along path = flat_map left (reverse path)

longer : (path : List (Bor Expression × ℕ)) (s : Bor Expression × ℕ) → left_along (path ++ s ∷ []) ≡ left s ++ left_along path
longer path s = ap (flat_map left) (reverse-append path (s ∷ []))

module _ (old path : List (Bor Expression × ℕ)) (e : Bor Expression) (index : ℕ) (is : old ≡ path ++ (e, index) ∷ []) where
  -- the next part is taken
  pub deeper : (new : List (Bor Expression × ℕ)) (part : Bor Expression) → Some part.now ≡ slice_get (parts_of e.now) index
      → new ≡ (path ++ (e, index + 1) ∷ []) ++ (part, 0) ∷ [] → left_along old ≡ part.now ∷ left_along new
  deeper new part at pushed =
      ap left_along is ∙ longer path (e, index)
      ∙ ap (λ es. flat_map with_inner es ++ left_along path) (dropped (parts_of e.now) index part.now at)
      ∙ ap (λ es. part.now ∷ es)
      (append_assoc (inner part.now) (left (e, index + 1)) (left_along path)
      ∙ ap (λ es. es ++ (left (e, index + 1) ++ left_along path)) (by_parts part.now)
      ∙ ap (λ es. left (part, 0) ++ es) (sym (longer path (e, index + 1)))
      ∙ sym (longer (path ++ (e, index + 1) ∷ []) (part, 0)) ∙ ap left_along (sym pushed))

  -- no part is left
  pub back : None ≡ slice_get (parts_of e.now) index → left_along old ≡ left_along path
  back at = ap left_along is ∙ longer path (e, index) ∙ ap (λ es. flat_map with_inner es ++ left_along path) (none_left (parts_of e.now) index at)

-- what is left, and how long the path is: this gets less at each step
abbrev pub steps_left : List (Bor Expression × ℕ) → ℕ
steps_left path = 2 * length (left_along path) + length path

one_more : {X : Type 0} (xs : List X) (x : X) → length (xs ++ x ∷ []) ≡ length xs + 1
one_more xs x = length-append xs (x ∷ [])

module _ (old path : List (Bor Expression × ℕ)) (e : Bor Expression) (index : ℕ) (is : old ≡ path ++ (e, index) ∷ []) where
  pub deeper_falls : (new : List (Bor Expression × ℕ)) (part : Bor Expression) → Some part.now ≡ slice_get (parts_of e.now) index
      → new ≡ (path ++ (e, index + 1) ∷ []) ++ (part, 0) ∷ [] → steps_left new < steps_left old
  deeper_falls new part at pushed =
      omega (
        arith,
        ap length (deeper old path e index is new part at pushed),
        ap length is,
        one_more path (e, index),
        ap length pushed,
        one_more (path ++ (e, index + 1) ∷ []) (part, 0),
        one_more path (e, index + 1),
      )

module _ (whole : List Expression) (found more : List (Bor Expression)) (part : Bor Expression) (old new : List Expression) where
  -- what was found and what is left are the whole, after one more is found
  pub found_more : referents found ++ old ≡ whole → more ≡ found ++ part ∷ [] → old ≡ part.now ∷ new → referents more ++ new ≡ whole
  found_more so_far is next =
      ap (λ es. referents es ++ new) is ∙ ap (λ es. es ++ new) (map-append (λ (e : Bor Expression). e.now) found (part ∷ []))
      ∙ append_assoc (referents found) (part.now ∷ []) new ∙ ap (λ es. referents found ++ es) (sym next) ∙ so_far

-- what was found and what is left along the first path are the whole
pub begun : (e : Bor Expression) (found more : List (Bor Expression)) (empty path : List (Bor Expression × ℕ)) → more ≡ found ++ e ∷ [] → empty ≡ []
    → path ≡ empty ++ (e, 0) ∷ [] → referents more ++ left_along path ≡ referents found ++ with_inner e.now
begun e found more empty path pushed none is =
    ap (λ es. referents es ++ left_along path) pushed ∙ ap (λ es. es ++ left_along path) (map-append (λ (e : Bor Expression). e.now) found (e ∷ []))
    ∙ append_assoc (referents found) (e.now ∷ []) (left_along path)
    ∙ ap (λ es. referents found ++ e.now ∷ es)
    (ap left_along is ∙ longer empty (e, 0) ∙ ap (λ es. left (e, 0) ++ left_along es) none ∙ append-nil (left (e, 0)) ∙ sym (by_parts e.now))
