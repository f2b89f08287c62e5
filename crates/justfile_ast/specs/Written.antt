-- What a writer has if a text wasn't written completely.
use Rattle.std.specs.Prelude.{◌≡◌, ℕ, List, ◌∷◌, ◌++◌, Option}
use Rattle.std.specs.Io.KnownBytes.{Appends}

-- the bytes grow by a proper beginning of the text, if they are known
pub record AppendsPart (old new : Option (List ℕ)) (text : List ℕ) : Type 0 where
  pub written : List ℕ
  pub next : ℕ
  pub rest : List ℕ
  pub is : text ≡ written ++ next ∷ rest
  pub appended : Appends old new written
