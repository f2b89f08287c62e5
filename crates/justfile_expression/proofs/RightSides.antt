-- Rows of expressions: each is the right side of the one before.
use Rattle.std.proofs.Common.{◌≡◌, ℕ, ◌+◌, ◌<◌, ◌≤◌, None, Some, Option, IfSome, List, [], ◌∷◌, ◌++◌, length, reverse, sym, ap, ◌∙◌, subst, arith}
use Rattle.std.proofs.lemmas.List.{reverse-append}
use Rattle.std.proofs.lemmas.List.Elements.{All-nil, All-push, All-pop}
use Rattle.std.specs.Borrow.{Bor}
use Rattle.std.specs.Global.{Box}
use Rattle.std.specs.List.{All}
use Rattle.justfile_expression.specs.RightSides.{right_side, IsLessDeep, IsChain, IsCopied}
use Rattle.justfile_expression.specs.declared.expression.Expression.{Expression, size-Expression}

-- a measure of what is left of a chain: the size of its next expression
abbrev pub chain_left : Option (Bor Expression) → ℕ
chain_left None = 0
chain_left (Some e) = size-Expression e.now + 1

-- the measure falls from an expression to its right side
pub falls : (e : Expression) (answer : Option (Bor Expression))
    → IfSome answer (IsLessDeep e) → chain_left answer < size-Expression e + 1
falls e None smaller = omega arith
falls e (Some r) smaller = omega (arith, smaller)

-- a bound on what is left bounds the next expression
pub next_shallow : (rest : Option (Bor Expression)) (next : Bor Expression) (n : ℕ) → rest ≡ Some next → chain_left rest ≤ n → size-Expression next.now + 1 ≤ n
next_shallow rest next n is h = subst (λ (r : Option (Bor Expression)). chain_left r ≤ n) is h

-- a chain without expressions yet
pub begun : (chain : List (Bor Expression)) (whole : Expression) (right : Option Expression) → chain ≡ [] → right ≡ right_side whole → IsChain (reverse chain) whole right
begun chain whole right is h = subst (λ (l : List (Bor Expression)). IsChain (reverse l) whole right) (sym is) (sym h)

-- a chain with one more expression
pub pushed : (chain more : List (Bor Expression)) (e : Bor Expression) (whole : Expression) (right : Option Expression) → more ≡ chain ++ (e ∷ []) → right ≡ right_side e.now → IsChain (reverse chain) whole (Some e.now) → IsChain (reverse more) whole right
pushed chain more e whole right is h in_chain = subst (λ (l : List (Bor Expression)). IsChain l whole right) (sym (ap reverse is ∙ reverse-append chain (e ∷ []))) (sym h, in_chain)

-- a chain with one expression less
pub popped : (chain less : List (Bor Expression)) (e : Bor Expression) (whole : Expression) (right : Option Expression) → chain ≡ less ++ (e ∷ []) → IsChain (reverse chain) whole right → (right_side e.now ≡ right) × IsChain (reverse less) whole (Some e.now)
popped chain less e whole right is in_chain = subst (λ (l : List (Bor Expression)). IsChain l whole right) (ap reverse is ∙ reverse-append less (e ∷ [])) in_chain

-- a chain without expressions
pub emptied : (chain : List (Bor Expression)) (whole : Expression) (right : Option Expression) → length chain ≡ 0 → IsChain (reverse chain) whole right → right_side whole ≡ right
emptied [] whole right e in_chain = in_chain
emptied (x ∷ xs) whole right e in_chain = absurd (omega arith)

-- `IsCopied` for an equal right side
pub copied : (copy : Option (Box Expression)) (right other : Option Expression) → other ≡ right → IsCopied copy right → IsCopied copy other
copied copy right other is same = subst (λ (o : Option Expression). IsCopied copy o) (sym is) same

-- for a chain without expressions, all are less deep
pub none_deep : (chain : List (Bor Expression)) (whole : Expression) → chain ≡ [] → All (IsLessDeep whole) chain
none_deep chain whole is = subst (λ (l : List (Bor Expression)). All (IsLessDeep whole) l) (sym is) (All-nil (IsLessDeep whole))

-- the same for a chain with one more expression
pub pushed_deep : (chain more : List (Bor Expression)) (e : Bor Expression) (rest : Option (Bor Expression)) (whole : Expression)
    → more ≡ chain ++ (e ∷ []) → rest ≡ Some e → All (IsLessDeep whole) chain → IfSome rest (IsLessDeep whole) → All (IsLessDeep whole) more
pushed_deep chain more e rest whole is h all last =
    subst (λ (l : List (Bor Expression)). All (IsLessDeep whole) l) (sym is)
    (All-push (IsLessDeep whole) chain e all (subst (λ (r : Option (Bor Expression)). IfSome r (IsLessDeep whole)) h last))

below_next : (e : Bor Expression) (answer : Option (Bor Expression)) (whole : Expression)
    → IsLessDeep whole e → IfSome answer (IsLessDeep e.now) → IfSome answer (IsLessDeep whole)
below_next e None whole less less' = tt
below_next e (Some x) whole less less' = omega (arith, less, less')

-- the same for the right side of the next expression
pub next_deep : (e : Bor Expression) (rest answer : Option (Bor Expression)) (whole : Expression)
    → rest ≡ Some e → IfSome answer (IsLessDeep e.now) → IfSome rest (IsLessDeep whole) → IfSome answer (IsLessDeep whole)
next_deep e rest answer whole h less' less = below_next e answer whole (subst (λ (r : Option (Bor Expression)). IfSome r (IsLessDeep whole)) h less) less'

-- the same for a chain with one expression less, and for that expression
pub popped_deep : (chain less : List (Bor Expression)) (e : Bor Expression) (whole : Expression)
    → chain ≡ less ++ (e ∷ []) → All (IsLessDeep whole) chain → All (IsLessDeep whole) less × IsLessDeep whole e
popped_deep chain less e whole is all = All-pop (IsLessDeep whole) chain less (Some e) is all
