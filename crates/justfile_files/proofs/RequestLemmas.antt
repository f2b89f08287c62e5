-- Words that begin with `-`.
use Rattle.std.proofs.Common.{◌≡◌, ◌+◌, ◌<◌, ℕ, zero, suc, Bool, true, false, List, [], ◌∷◌, length, take, get_or, Option, None, Some, String, string_bytes, if◌then◌else◌, refl, sym, ap, ◌∙◌, arith, add-one}
use Rattle.justfile_files.specs.Request.{Asked, first_option, is_option, linted, misused, texts}

same_misuse : (word : Option (List ℕ)) → linted (misused word) ≡ misused word
same_misuse None = refl
same_misuse (Some word) = refl

-- what is misused stays so
pub linted_misuse : (word : Option (List ℕ)) (asked : Asked) → misused word ≡ asked → misused word ≡ linted asked
linted_misuse word asked e = sym (same_misuse word) ∙ ap linted e

-- the word before the others, if it is an option
skips : {A : Type 0} (b : Bool) (x : A) (rest : Option A) → (if b then Some x else rest) ≡ None → (b ≡ false) × (rest ≡ None)
skips true x rest e = cc
skips false x rest e = (refl, e)

module _ {A : Type 0} where
  -- the first of the words that does
  pub any_found : (words : List (String A)) (i : ℕ) (w : String A) → i < length words → w ≡ get_or words i w → is_option (string_bytes w) ≡ true
      → first_option (texts (take i words)) ≡ None → first_option (texts words) ≡ Some (string_bytes w)
  any_found [] i w l e t h = absurd (omega arith)
  any_found (x ∷ xs) zero w l e t h = rw (ap (λ (s : String A). is_option (string_bytes s)) (sym e) ∙ t) (ap (λ (s : String A). Some (string_bytes s)) (sym e))
  any_found (x ∷ xs) (suc i) w l e t h =
      let s = skips (is_option (string_bytes x)) (string_bytes x) (first_option (texts (take i xs))) h in
      rw s.0 (any_found xs i w (omega arith) e t s.1)

  more : (words : List (String A)) (i : ℕ) (w : String A) → i < length words → w ≡ get_or words i w → is_option (string_bytes w) ≡ false
      → first_option (texts (take i words)) ≡ None → first_option (texts (take (suc i) words)) ≡ None
  more [] i w l e t h = absurd (omega arith)
  more (x ∷ xs) zero w l e t h = rw (ap (λ (s : String A). is_option (string_bytes s)) (sym e) ∙ t) refl
  more (x ∷ xs) (suc i) w l e t h =
      let s = skips (is_option (string_bytes x)) (string_bytes x) (first_option (texts (take i xs))) h in
      rw s.0 (more xs i w (omega arith) e t s.1)

  -- one word more doesn't
  pub any_more : (words : List (String A)) (i : ℕ) (w : String A) → i < length words → w ≡ get_or words i w → is_option (string_bytes w) ≡ false
      → first_option (texts (take i words)) ≡ None → first_option (texts (take (i + 1) words)) ≡ None
  any_more words i w l e t h = rw add-one (more words i w l e t h)
