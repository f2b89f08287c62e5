-- The fixed texts around the other branch of a conditional: braces, unless it is a conditional itself.
use Rattle.std.specs.Prelude.{ℕ, Bool, true, false, List, [], codes}

abbrev pub before_other : (conditional : Bool) → List ℕ
before_other true = codes " } else "
before_other false = codes " } else { "

abbrev pub after_other : (conditional : Bool) → List ℕ
after_other true = []
after_other false = codes " }"
