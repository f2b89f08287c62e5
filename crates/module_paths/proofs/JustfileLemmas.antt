-- The justfiles of a folder, one name after the other.
use Rattle.std.proofs.Common.{◌≡◌, ℕ, ◌+◌, ◌<◌, List, [], ◌∷◌, ◌++◌, length, take, get_or, map, String, string_bytes, sym, ap, ◌∙◌, Global}
use Rattle.std.specs.List.{filter}
use Rattle.std.proofs.lemmas.List.{map-append, take_more}
use Rattle.std.proofs.lemmas.List.Elements.{filter-append}
use Rattle.module_paths.specs.Justfiles.{is_sought, justfiles_in, path_in}

abbrev texts : List (String Global) → List (List ℕ)
texts words = map string_bytes words

texts_more : (words : List (String Global)) (i : ℕ) (word : String Global) (name : List ℕ) → i < length words → word ≡ get_or words i word → name ≡ string_bytes word
    → texts (take i words) ++ name ∷ [] ≡ texts (take (i + 1) words)
texts_more words i word name l e n =
    ap (λ x. texts (take i words) ++ x ∷ []) (n ∙ ap (λ (s : String Global). string_bytes s) e)
    ∙ sym (ap texts (take_more words i word l) ∙ map-append (λ (s : String Global). string_bytes s) (take i words) (get_or words i word ∷ []))

justfiles_more : (folder name : List ℕ) (names : List (List ℕ))
    → justfiles_in folder (names ++ name ∷ []) ≡ justfiles_in folder names ++ filter is_sought (path_in folder name ∷ [])
justfiles_more folder name names =
    ap (filter is_sought) (map-append (path_in folder) names (name ∷ [])) ∙ filter-append is_sought (map (path_in folder) names) (path_in folder name ∷ [])

-- one name more
pub one_more : (folder : List ℕ) (inside : List (String Global)) (i : ℕ) (word : String Global) (name path : List ℕ) (found more : List (List ℕ)) → i < length inside
    → word ≡ get_or inside i word → name ≡ string_bytes word → path ≡ path_in folder name → found ≡ justfiles_in folder (map string_bytes (take i inside))
    → more ≡ found ++ filter is_sought (path ∷ []) → more ≡ justfiles_in folder (map string_bytes (take (i + 1) inside))
one_more folder inside i word name path found more l e n p f m =
    m ∙ ap (λ x. x ++ filter is_sought (path ∷ [])) f
    ∙ ap (λ x. justfiles_in folder (texts (take i inside)) ++ filter is_sought (x ∷ [])) p
    ∙ sym (justfiles_more folder name (texts (take i inside)))
    ∙ ap (justfiles_in folder) (texts_more inside i word name l e n)
