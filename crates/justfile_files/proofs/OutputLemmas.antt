-- Texts that are written, or a beginning of them.
use Rattle.std.proofs.Common.{◌≡◌, ◌≤◌, ℕ, List, [], length, take, drop, append-nil, Option, sym, subst, take-append-drop}
use Rattle.std.specs.Io.KnownBytes.{Appends, Keeps}
use Rattle.std.proofs.KnownBytes.{Appends-kept, Appends-trans}
use Rattle.std.proofs.lemmas.List.{take_all}
use Rattle.justfile_files.specs.Output.{AppendsBeginning}

-- the first bytes were written, or none or all of them
pub front : (old new : Option (List ℕ)) (text : List ℕ) (count : ℕ) → Appends old new (take count text) → AppendsBeginning old new text
front old new text count h = record { written = take count text; rest = drop count text; is = sym (take-append-drop count text); appended = h }

pub all : (old new : Option (List ℕ)) (text : List ℕ) (count : ℕ) → length text ≤ count → Appends old new (take count text) → Appends old new text
all old new text count h a = subst (Appends old new) (take_all count text h) a

-- what was written stays
pub flushed : (old mid new : Option (List ℕ)) (text : List ℕ) → Appends old mid text → Keeps mid new → Appends old new text
flushed old mid new text a kept = Appends-kept old mid new text a kept

pub flushed_beginning : (old mid new : Option (List ℕ)) (text : List ℕ) → AppendsBeginning old mid text → Keeps mid new → AppendsBeginning old new text
flushed_beginning old mid new text a kept = record { written = a.written; rest = a.rest; is = a.is; appended = Appends-kept old mid new a.written a.appended kept }

-- some bytes were written, and then none
pub front_alone : (a b c : Option (List ℕ)) (text rest : List ℕ) (count more : ℕ) → more ≡ 0 → Appends a b (take count text) → Appends b c (take more rest) → AppendsBeginning a c text
front_alone a b c text rest count more e h k =
    let nothing : Appends b c [] = subst (λ (n : ℕ). Appends b c (take n rest)) e k in
    front a c text count (subst (Appends a c) (append-nil (take count text)) (Appends-trans a b c (take count text) [] h nothing))
