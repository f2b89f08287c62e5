-- Hunks, how they lead from one text to another, and how they are written.
use Rattle.std.specs.Prelude.{◌≡◌, ◌==◌, ℕ, ◌+◌, All, Any, List, [], ◌∷◌, ◌++◌, length, codes, decimal, if◌then◌else◌, nat_eq}
use Rattle.std.specs.List.{ends_with, flat_map}
use Rattle.line_diff.specs.declared.edits.Change.{Change}
use Rattle.line_diff.specs.declared.edits.Change.TheVariants.{Keep, Remove, Insert}
use Rattle.line_diff.specs.declared.edits.Edit.{Edit}
use Rattle.line_diff.specs.Edits.{IsChange, new_lines, old_lines}

-- edits, after so many lines of the old text and so many of the new
pub record Hunk : Type 0 where
  pub old_before : ℕ
  pub new_before : ℕ
  pub edits : List Edit

-- The hunk takes a line out or puts one in.
abbrev pub HasChange : Hunk → Type 0
HasChange hunk = Any IsChange hunk.edits

-- After so many lines of the old text and of the new, hunks lead from the other lines of the old text to those of the new: before each hunk,
-- and after the last, both texts have the same lines.
abbrev pub Leads : (old_before new_before : ℕ) → List Hunk → (old new : List (List ℕ)) → Type 0
Leads old_before new_before [] old new = old ≡ new
Leads old_before new_before (hunk ∷ hunks) old new =
    (same : List (List ℕ)) × (old_rest : List (List ℕ)) × (new_rest : List (List ℕ))
    × (old ≡ same ++ old_lines hunk.edits ++ old_rest)
    × (new ≡ same ++ new_lines hunk.edits ++ new_rest)
    × (hunk.old_before ≡ old_before + length same)
    × (hunk.new_before ≡ new_before + length same)
    × Leads (hunk.old_before + length (old_lines hunk.edits)) (hunk.new_before + length (new_lines hunk.edits)) hunks old_rest new_rest

abbrev pub sign : Change → List ℕ
sign Keep = codes " "
sign Remove = codes "-"
sign Insert = codes "+"

-- a line with its line feed; one without is followed by a line feed and the line `\ No newline at end of file`
abbrev pub ended_line : List ℕ → List ℕ
ended_line line = if ends_with nat_eq line (codes "\n") then line else line ++ codes "\n\\ No newline at end of file\n"

abbrev pub edit_text : Edit → List ℕ
edit_text e = sign e.change ++ ended_line e.line.now

-- The number of the first of so many lines, from 1, and their count. If there are none, the number is that of the line before.
abbrev pub range_text : (before count : ℕ) → List ℕ
range_text before count = decimal (if count == 0 then before else before + 1) ++ codes "," ++ decimal count

abbrev pub hunk_text : Hunk → List ℕ
hunk_text h = codes "@@ -" ++ range_text h.old_before (length (old_lines h.edits)) ++ codes " +" ++ range_text h.new_before (length (new_lines h.edits))
    ++ codes " @@\n" ++ flat_map edit_text h.edits

abbrev pub hunks_text : List Hunk → List ℕ
hunks_text hunks = flat_map hunk_text hunks

-- The text is that of hunks that lead from the lines of the old text to those of the new. Each of them changes something.
pub record AreHunks (edits : List Edit) (text : List ℕ) : Type 0 where
  pub hunks : List Hunk
  pub leads : Leads 0 0 hunks (old_lines edits) (new_lines edits)
  pub changed : All HasChange hunks
  pub is : text ≡ hunks_text hunks
