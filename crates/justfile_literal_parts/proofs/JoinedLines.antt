-- Unindented lines, concatenated from the first to the last.
use Rattle.std.proofs.Common.{◌≡◌, ℕ, false, List, [], ◌∷◌, ◌++◌, map, refl, sym, ap, ◌∙◌, append_assoc, append-nil, Bor, Result, Ok, Err}
use Rattle.std.specs.Result.{OnOk, is_ok}
use Rattle.std.specs.Bool.{if◌then◌else◌}
use Rattle.std.specs.List.{flat_map, concat, list_any}
use Rattle.std.proofs.lemmas.Bool.{or_parts}
use Rattle.std.proofs.lemmas.List.{map_push}
use Rattle.justfile_model.specs.LiteralTexts.Unindent.{is_blank_line, joined, later_lines, middle_line, outer_line}

pub later_push : (run : List ℕ) (middle : List (List ℕ)) (last : List ℕ) → later_lines run (middle ++ last ∷ []) ≡ flat_map (middle_line run) middle ++ outer_line run last
later_push run [] last = refl
later_push run (line ∷ []) last = ap (λ v. v ++ outer_line run last) (sym (append-nil (middle_line run line)))
later_push run (line ∷ next ∷ more) last =
    ap (λ v. middle_line run line ++ v) (later_push run (next ∷ more) last) ∙ sym (append_assoc (middle_line run line) (flat_map (middle_line run) (next ∷ more)) (outer_line run last))

pub later_is : (run front : List ℕ) (lines middle : List (Bor (List ℕ))) (last : Bor (List ℕ)) → lines ≡ middle ++ last ∷ []
    → (front ++ flat_map (middle_line run) (map (λ line. line.now) middle)) ++ outer_line run last.now ≡ front ++ later_lines run (map (λ line. line.now) lines)
later_is run front lines middle last e =
    let now : Bor (List ℕ) → List ℕ = λ line. line.now in
    append_assoc front (flat_map (middle_line run) (map now middle)) (outer_line run last.now)
    ∙ ap (λ v. front ++ v) (sym (ap (λ ls. later_lines run (map now ls)) e ∙ ap (later_lines run) (map_push now middle last) ∙ later_push run (map now middle) last.now))

-- the effect of a call that succeeded
pub where_ok : {X E : Type 0} (r : Result X E) (after good before : List ℕ) → after ≡ (if is_ok r then good else before) → OnOk r (after ≡ good)
where_ok (Ok _) after good before e = e
where_ok (Err _) after good before e = tt

-- ---- without a run, and without blank lines
later_same : (ls : List (List ℕ)) → list_any is_blank_line ls ≡ false → later_lines [] ls ≡ concat ls
later_same [] h = refl
later_same (line ∷ []) h = let p = or_parts (is_blank_line line) false h in rw p.0 (sym (append-nil line))
later_same (line ∷ next ∷ more) h =
    let p = or_parts (is_blank_line line) (list_any is_blank_line (next ∷ more)) h in
    rw p.0 (ap (λ v. line ++ v) (later_same (next ∷ more) p.1))

pub joined_same : (ls : List (List ℕ)) → list_any is_blank_line ls ≡ false → joined [] ls ≡ concat ls
joined_same [] h = refl
joined_same (line ∷ ls) h =
    let p = or_parts (is_blank_line line) (list_any is_blank_line ls) h in
    rw p.0 (ap (λ v. line ++ v) (later_same ls p.1))
