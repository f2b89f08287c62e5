-- The parts of a label, byte by byte.
use Rattle.std.proofs.Common.{◌≡◌, ◌∙◌, ◌+◌, ◌<◌, ◌≤◌, ℕ, Bool, true, false, List, [], ◌∷◌, ◌++◌, ap, append-nil, append_assoc, cond, drop, get_or, length, sym}
use Rattle.std.proofs.lemmas.List.{drop_all, drop_more}
use Rattle.editor_messages.specs.declared.answer.LabelPart.{LabelPart}
use Rattle.justfile_signatures.specs.Label.{is_mark, part, parts_from}

chosen : (b : Bool) (ps : List LabelPart) (start i : ℕ) (rest : List ℕ)
    → (ps ++ cond b (part start i) []) ++ parts_from (cond b (i + 1) start) (i + 1) rest ≡ ps ++ cond b (part start i ++ parts_from (i + 1) (i + 1) rest) (parts_from start (i + 1) rest)
chosen true ps start i rest = append_assoc ps (part start i) (parts_from (i + 1) (i + 1) rest)
chosen false ps start i rest = ap (λ (l : List LabelPart). l ++ parts_from start (i + 1) rest) (append-nil ps)

pub parts_step : (label : List ℕ) (old new all : List LabelPart) (start later i x : ℕ) → i < length label → x ≡ get_or label i x → new ≡ old ++ cond (is_mark x) (part start i) [] → later ≡ cond (is_mark x) (i + 1) start
    → old ++ parts_from start i (drop i label) ≡ all → new ++ parts_from later (i + 1) (drop (i + 1) label) ≡ all
parts_step label old new all start later i x inside at made moved so_far =
    ap (λ (l : List LabelPart). l ++ parts_from later (i + 1) (drop (i + 1) label)) made
    ∙ ap (λ (n : ℕ). (old ++ cond (is_mark x) (part start i) []) ++ parts_from n (i + 1) (drop (i + 1) label)) moved
    ∙ chosen (is_mark x) old start i (drop (i + 1) label)
    ∙ ap (λ (bs : List ℕ). old ++ parts_from start i bs) (sym (drop_more label i x inside ∙ ap (λ y. y ∷ drop (i + 1) label) (sym at)))
    ∙ so_far

pub parts_end : (label : List ℕ) (old new all : List LabelPart) (start i : ℕ) → length label ≤ i → new ≡ old ++ part start i → old ++ parts_from start i (drop i label) ≡ all → new ≡ all
parts_end label old new all start i past made so_far = made ∙ sym (ap (λ (bs : List ℕ). old ++ parts_from start i bs) (drop_all i label past)) ∙ so_far
