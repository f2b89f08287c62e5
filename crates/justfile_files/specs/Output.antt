-- Texts that are written, or a beginning of them.
use Rattle.std.specs.Prelude.{◌≡◌, ℕ, List, ◌++◌, Option}
use Rattle.std.specs.Io.KnownBytes.{Appends}

-- If the bytes are known, the beginning of the text or all of it was appended to them.
pub record AppendsBeginning (old new : Option (List ℕ)) (text : List ℕ) : Type 0 where
  pub written : List ℕ
  pub rest : List ℕ
  pub is : text ≡ written ++ rest
  pub appended : Appends old new written
