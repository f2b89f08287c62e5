-- Concatenation of texts.
use Rattle.std.specs.Prelude.{ℕ, List, ◌++◌}

-- `a & b` is `a ++ b`. It associates to the right, as the parts of a format string do.
infixr 65 ◌&◌
abbrev pub ◌&◌ : List ℕ → List ℕ → List ℕ
◌&◌ = ◌++◌
