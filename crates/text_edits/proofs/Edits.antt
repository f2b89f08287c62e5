-- Edits that are applied one after the other.
use Rattle.std.proofs.Common.{◌≡◌, ℕ, ◌+◌, ◌<◌, List, [], ◌∷◌, ◌++◌, length, drop, get_or, sym, ap, subst, ◌∙◌, append_assoc}
use Rattle.std.proofs.lemmas.List.{drop_more}
use Rattle.justfile_lines.specs.declared.encoding.Encoding.{Encoding}
use Rattle.text_edits.specs.declared.edit.TextEdit.{TextEdit}
use Rattle.text_edits.specs.Edited.{IsEditedFrom}

-- ---- the loop over the edits

-- what is made up to an edit
pub record Applied (encoding : Encoding) (old : List ℕ) (edits : List TextEdit) (index from : ℕ) (made : List ℕ) : Type 0 where
  pub goes : (rest : List ℕ) → IsEditedFrom encoding old (drop index edits) from rest → IsEditedFrom encoding old edits 0 (made ++ rest)
  pub back : (other : List ℕ) → IsEditedFrom encoding old edits 0 other → (rest : List ℕ) × IsEditedFrom encoding old (drop index edits) from rest

pub first_applied : (encoding : Encoding) (old : List ℕ) (edits : List TextEdit) (from : ℕ) (made : List ℕ) → from ≡ 0 → made ≡ [] → Applied encoding old edits 0 from made
first_applied encoding old edits from made e f = record {
  goes = λ rest h.
      subst (λ (l : List ℕ). IsEditedFrom encoding old edits 0 (l ++ rest)) (sym f) (subst (λ (n : ℕ). IsEditedFrom encoding old edits n rest) e h);
  back = λ other h. (other, subst (λ (n : ℕ). IsEditedFrom encoding old edits n other) (sym e) h);
}

-- an edit puts more text after what is made, whatever follows
abbrev pub Puts : (encoding : Encoding) (old : List ℕ) (edit : TextEdit) (from : ℕ) (made after : List ℕ) (end : ℕ) → Type 0
Puts encoding old edit from made after end = (others : List TextEdit) (rest : List ℕ) → IsEditedFrom encoding old others end rest
    → (added : List ℕ) × (after ≡ made ++ added) × IsEditedFrom encoding old (edit ∷ others) from (added ++ rest)

-- something follows an edit
abbrev pub Rest : (encoding : Encoding) (old : List ℕ) (edit : TextEdit) (from end : ℕ) → Type 0
Rest encoding old edit from end = (others : List TextEdit) (other : List ℕ) → IsEditedFrom encoding old (edit ∷ others) from other → (rest : List ℕ) × IsEditedFrom encoding old others end rest

module _ (encoding : Encoding) (old : List ℕ) (edits : List TextEdit) (index from : ℕ) (made : List ℕ) (edit : TextEdit) (h : Applied encoding old edits index from made)
    (lt : index < length edits) (is : edit ≡ get_or edits index edit) where
  split : drop index edits ≡ edit ∷ drop (index + 1) edits
  split = drop_more edits index edit lt ∙ ap (λ (e : TextEdit). e ∷ drop (index + 1) edits) (sym is)

  pub applied_more : (end : ℕ) (after : List ℕ) → Puts encoding old edit from made after end → Rest encoding old edit from end
      → Applied encoding old edits (index + 1) end after
  applied_more end after first back = record {
    goes = λ rest follows.
        let it = first (drop (index + 1) edits) rest follows in
        subst (λ (l : List ℕ). IsEditedFrom encoding old edits 0 l)
        (sym (ap (λ (l : List ℕ). l ++ rest) it.1 ∙ append_assoc made it.0 rest))
        (h.goes (it.0 ++ rest) (subst (λ (es : List TextEdit). IsEditedFrom encoding old es from (it.0 ++ rest)) (sym split) it.2));
    back = λ other whole.
        let it = h.back other whole in
        back (drop (index + 1) edits) it.0 (subst (λ (es : List TextEdit). IsEditedFrom encoding old es from it.0) split it.1);
  }

  pub never_applied : ((others : List TextEdit) (other : List ℕ) → IsEditedFrom encoding old (edit ∷ others) from other → ⊥)
      → (other : List ℕ) → IsEditedFrom encoding old edits 0 other → ⊥
  never_applied never other whole =
      let it = h.back other whole in
      never (drop (index + 1) edits) it.0 (subst (λ (es : List TextEdit). IsEditedFrom encoding old es from it.0) split it.1)
