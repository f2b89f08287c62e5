-- Which files are found where names lead.
use Rattle.std.specs.Prelude.{◌≡◌, ℕ, List, [], ◌∷◌, ◌++◌, Option, None, Some}
use Rattle.module_paths.specs.Justfiles.{justfiles_in}

abbrev pub or_itself : (name : List ℕ) → (names : List (List ℕ)) → List (List ℕ)
or_itself name [] = name ∷ []
or_itself name (other ∷ names) = other ∷ names

-- the names of the files that a name leads to: those of the justfiles in a folder and below, or itself if there are none
abbrev pub names_at : (name : List ℕ) → (inside : Option (List (List ℕ))) → List (List ℕ)
names_at name None = name ∷ []
names_at name (Some names) = or_itself name (justfiles_in name names)

module _ {S : Type 0} (lists : S → List ℕ → Option (List (List ℕ)) → Type 0) (folder : S) where
  -- the names of the files that names lead to, one name after the other
  abbrev pub LeadTo : (names found : List (List ℕ)) → Type 0
  LeadTo [] found = found ≡ []
  LeadTo (name ∷ names) found =
      (inside : Option (List (List ℕ))) × (others : List (List ℕ)) × lists folder name inside × LeadTo names others × (found ≡ names_at name inside ++ others)
