-- What was written of a text.
use Rattle.std.proofs.Common.{◌≡◌, ℕ, List, [], append-nil, Option, take, drop, length, take-append-drop, sym, subst, ap, ◌∙◌}
use Rattle.std.proofs.Math.Seq.{take-length}
use Rattle.std.specs.Io.KnownBytes.{Appends}
use Rattle.system_run.specs.Beginning.{AppendsBeginning}

pub whole : (old new : Option (List ℕ)) (text : List ℕ) → Appends old new text → AppendsBeginning old new text
whole old new text h = record { written = text; rest = []; is = sym (append-nil text); appended = h }

-- the first bytes were written, or none or all of them
pub front : (old new : Option (List ℕ)) (text : List ℕ) (count : ℕ) → Appends old new (take count text) → AppendsBeginning old new text
front old new text count h = record { written = take count text; rest = drop count text; is = sym (take-append-drop count text); appended = h }

-- as many bytes were written as there are
pub all_of : (old new : Option (List ℕ)) (text : List ℕ) (count : ℕ) → Appends old new (take count text) → count ≡ length text → Appends old new text
all_of old new text count h e = subst (λ (t : List ℕ). Appends old new t) (ap (λ (n : ℕ). take n text) e ∙ take-length text) h
