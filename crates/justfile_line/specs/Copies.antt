-- Copies of lines and fragments.
use Rattle.std.specs.Prelude.{◌≡◌}
use Rattle.std.specs.List.{AllZip}
use Rattle.justfile_expression.specs.Copies.{IsSameExpression}
use Rattle.justfile_line.specs.declared.fragment.Fragment.{Fragment}
use Rattle.justfile_line.specs.declared.fragment.Fragment.TheVariants.{Interpolation, Text}
use Rattle.justfile_line.specs.declared.line.Line.{Line}

-- a copy of a fragment: the same case, and all fields are the same
abbrev pub IsSameFragment : (copy original : Fragment) → Type 0
IsSameFragment (Interpolation copy) (Interpolation original) = IsSameExpression copy original
IsSameFragment (Text copy) (Text original) = copy ≡ original
IsSameFragment _ _ = ⊥

-- a copy of a line: its fragments are copies, and its number is the same
pub record IsSameLine (copy original : Line) : Type 0 where
  pub fragments : AllZip IsSameFragment copy.fragments.items original.fragments.items
  pub number : copy.number ≡ original.number
