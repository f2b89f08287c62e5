-- The expressions directly in an expression, and the token that it begins with.
use Rattle.std.proofs.Common.{◌≡◌, ◌∙◌, ◌+◌, ◌<◌, ℕ, Option, None, sym, ap, arith}
use Rattle.std.proofs.lemmas.Option.{slice_get-map}
use Rattle.std.specs.Borrow.{Bor}
use Rattle.std.specs.List.{slice_get}
use Rattle.std.specs.Option.{option_map}
use Rattle.justfile_expression.specs.Children.{Child, child_of, children}
use Rattle.justfile_expression.specs.Parts.{IsWithin, parts_of}
use Rattle.justfile_expression.specs.declared.expression.Expression.{Expression, size-Expression}
use Rattle.justfile_expression.specs.declared.parts.Start.{Start}
use Rattle.justfile_expression.specs.declared.parts.Start.TheVariants as starts
use Rattle.justfile_leaves.specs.declared.words.Words.{Words}

-- there is no child at the index
pub no_part : (e : Expression) (index : ℕ) (found : Option (Bor Expression × Words)) → found ≡ None → child_of found ≡ slice_get (children e) index → None ≡ slice_get (parts_of e) index
no_part e index found is h =
    ap (option_map (λ (c : Child). c.0)) (sym (ap child_of is) ∙ h) ∙ sym (slice_get-map (λ (c : Child). c.0) (children e) index)

-- what is left to follow: the size of the expression
abbrev pub start_left : Start → ℕ
start_left (starts.Token token) = 0
start_left (starts.Expression e) = size-Expression e.now + 1

-- it falls from an expression to what it begins with
pub start_falls : (e : Bor Expression) (start next : Start) → start ≡ starts.Expression e → IsWithin e.now next → start_left next < start_left start
start_falls e start (starts.Token token) is within = omega (arith, ap start_left is)
start_falls e start (starts.Expression f) is within = omega (arith, ap start_left is, within)
