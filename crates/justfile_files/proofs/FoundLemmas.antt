-- The names that are found, one after the other.
use Rattle.std.proofs.Common.{◌≡◌, ℕ, ◌+◌, ◌<◌, List, [], ◌∷◌, ◌++◌, length, take, get_or, Option, String, string_bytes, refl, sym, ap, subst, ◌∙◌, append-nil, append_assoc, Global}
use Rattle.std.proofs.lemmas.List.{map-append}
use Rattle.justfile_files.specs.Found.{LeadTo, names_at}
use Rattle.justfile_files.specs.Request.{texts}
use Rattle.justfile_files.proofs.OutcomeLemmas.{texts_more}

module _ {S : Type 0} (lists : S → List ℕ → Option (List (List ℕ)) → Type 0) (folder : S) where
  pub lead_more : (names found : List (List ℕ)) (name : List ℕ) (inside : Option (List (List ℕ))) → LeadTo lists folder names found → lists folder name inside
      → LeadTo lists folder (names ++ name ∷ []) (found ++ names_at name inside)
  lead_more [] found name inside h l = (inside, [], l, refl, ap (λ x. x ++ names_at name inside) h ∙ sym (append-nil (names_at name inside)))
  lead_more (first ∷ names) found name inside h l = (
    h.0,
    h.1 ++ names_at name inside,
    h.2,
    lead_more names h.1 name inside h.3 l,
    ap (λ x. x ++ names_at name inside) h.4 ∙ append_assoc (names_at first h.0) h.1 (names_at name inside),
  )

  -- one word more
  pub lead_word : (words : List (String Global)) (i : ℕ) (word : String Global) (name : List ℕ) (found there more : List (String Global)) → i < length words → word ≡ get_or words i word
      → name ≡ string_bytes word → LeadTo lists folder (texts (take i words)) (texts found)
      → (inside : Option (List (List ℕ))) × lists folder name inside × (texts there ≡ names_at name inside) → more ≡ found ++ there
      → LeadTo lists folder (texts (take (i + 1) words)) (texts more)
  lead_word words i word name found there more l e n h t m =
      subst (λ (ns : List (List ℕ)). LeadTo lists folder ns (texts more)) (texts_more words i word name l e n)
      (subst (LeadTo lists folder (texts (take i words) ++ name ∷ []))
      (sym (ap texts m ∙ map-append (λ (s : String Global). string_bytes s) found there ∙ ap (λ x. texts found ++ x) t.2))
      (lead_more (texts (take i words)) (texts found) name t.0 h t.1))
