-- The text of a unified diff.
use Rattle.std.specs.Prelude.{◌≡◌, ℕ, All, List, [], ◌∷◌, ◌++◌, codes}
use Rattle.line_diff.specs.Hunks.{HasChange, Hunk, Leads, hunks_text}
use Rattle.line_diff.specs.Label.{label_of}
use Rattle.line_diff.specs.Lines.{text_lines}

-- the two lines that name the file before and after
abbrev pub header_text : (name : List ℕ) → List ℕ
header_text name = codes "--- " ++ label_of name ++ codes "\n+++ " ++ label_of name ++ codes "\n"

-- the header and the hunks; nothing if there are none
abbrev pub diff_text : (name : List ℕ) → List Hunk → List ℕ
diff_text name [] = []
diff_text name (hunk ∷ hunks) = header_text name ++ hunks_text (hunk ∷ hunks)

-- The text is a unified diff of the file with this name. It leads from the old text to the new one. Each hunk changes something, and the diff
-- of a text with itself is empty.
pub record IsUnified (name old new text : List ℕ) : Type 0 where
  pub hunks : List Hunk
  pub leads : Leads 0 0 hunks (text_lines old) (text_lines new)
  pub changed : All HasChange hunks
  pub same : old ≡ new → text ≡ []
  pub is : text ≡ diff_text name hunks
