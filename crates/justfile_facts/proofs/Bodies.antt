-- The suspects of a body, line by line, and the last name of a path.
use Rattle.std.proofs.Common.{◌≡◌, ◌∙◌, ◌<◌, ◌≤◌, ◌+◌, ℕ, suc, Bool, List, [], ◌∷◌, ◌++◌, length, drop, get_or, refl, sym, ap, add-one, append-nil, append_assoc, drop-cons}
use Rattle.std.proofs.lemmas.List.{drop_all}
use Rattle.justfile_token.specs.declared.name.Name.{Name}
use Rattle.justfile_line.specs.declared.line.Line.{Line}
use Rattle.justfile_problems.specs.declared.facts.Suspect.{Suspect}
use Rattle.justfile_problems.specs.declared.facts.SuspectKind.TheVariants as suspects
use Rattle.justfile_facts.specs.Suspects.{body_suspects, is_continued, line_suspects, mapped, suspect}

-- one line more
pub one_line : (shell : Bool) (all : List Line) (i : ℕ) (line : Line) → i < length all → line ≡ get_or all i line → (continues next : Bool) (whole old new : List Suspect)
    → whole ≡ old ++ body_suspects shell continues (drop i all) → new ≡ old ++ line_suspects shell continues line → next ≡ is_continued line → whole ≡ new ++ body_suspects shell next (drop (i + 1) all)
one_line shell all i line inside at continues next whole old new so_far more continued =
    rw add-one
    (so_far ∙ ap (λ ls. old ++ body_suspects shell continues ls) (drop-cons all i line inside ∙ ap (λ l. l ∷ drop (suc i) all) (sym at))
    ∙ sym (append_assoc old (line_suspects shell continues line) (body_suspects shell (is_continued line) (drop (suc i) all)))
    ∙ ap (λ l. l ++ body_suspects shell (is_continued line) (drop (suc i) all)) (sym more) ∙ ap (λ b. new ++ body_suspects shell b (drop (suc i) all)) (sym continued))

-- all lines
pub all_lines : (shell : Bool) (all : List Line) (i : ℕ) → length all ≤ i → (continues : Bool) (whole old : List Suspect) → whole ≡ old ++ body_suspects shell continues (drop i all) → old ≡ whole
all_lines shell all i past continues whole old so_far = sym (so_far ∙ ap (λ ls. old ++ body_suspects shell continues ls) (drop_all i all past) ∙ append-nil old)

mapped_behind : (names : List Name) (last : Name) → mapped (names ++ last ∷ []) ≡ suspect last.token suspects.MappedDependency ∷ []
mapped_behind [] last = refl
mapped_behind (n ∷ []) last = refl
mapped_behind (n ∷ m ∷ names) last = mapped_behind (m ∷ names) last

-- the last name of a path
pub mapped_last : (path names : List Name) (last : Name) → path ≡ names ++ last ∷ [] → mapped path ≡ suspect last.token suspects.MappedDependency ∷ []
mapped_last path names last e = ap mapped e ∙ mapped_behind names last
