-- Fragments and lines after resolution.
use Rattle.std.specs.Prelude.{◌≡◌, ℕ, List, Option}
use Rattle.std.specs.List.{AllZip}
use Rattle.justfile_numbers.specs.declared.number.Number.{Number}
use Rattle.justfile_expression.specs.Resolved.{IsResolved}
use Rattle.justfile_line.specs.declared.fragment.Fragment.{Fragment}
use Rattle.justfile_line.specs.declared.fragment.Fragment.TheVariants.{Interpolation, Text}
use Rattle.justfile_line.specs.declared.line.Line.{Line}

module _ (numbers : (name : List ℕ) → Option Number) where
  -- a fragment of the same case: an expression is resolved, and a text is the same
  abbrev pub IsResolvedFragment : (resolved original : Fragment) → Type 0
  IsResolvedFragment (Interpolation resolved) (Interpolation original) = IsResolved numbers resolved original
  IsResolvedFragment (Text token) (Text token') = token ≡ token'
  IsResolvedFragment _ _ = ⊥

  -- a line: its fragments are resolved, and its number is the same
  pub record IsResolvedLine (resolved original : Line) : Type 0 where
    pub fragments : AllZip IsResolvedFragment resolved.fragments.items original.fragments.items
    pub number : resolved.number ≡ original.number
