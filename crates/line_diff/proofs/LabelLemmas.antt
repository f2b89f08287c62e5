-- Names with a character that is in quotes.
use Rattle.std.proofs.Common.{◌≡◌, ◌<◌, ℕ, zero, suc, Bool, true, false, ◌||◌, List, [], ◌∷◌, ◌++◌, length, get_or, chars, codes, refl, sym, ap, ◌∙◌, arith}
use Rattle.std.specs.List.{flat_map, list_any}
use Rattle.line_diff.specs.Label.{escaped, is_quoted, quoted}

or_true : (a b : Bool) → b ≡ true → (a || b) ≡ true
or_true true b e = refl
or_true false b e = e

-- one of the characters passes the test
pub list_any_at : (p : ℕ → Bool) (xs : List ℕ) (i x : ℕ) → i < length xs → x ≡ get_or xs i x → p x ≡ true → list_any p xs ≡ true
list_any_at p [] i x l e t = absurd (omega arith)
list_any_at p (y ∷ ys) zero x l e t = rw (ap p (sym e) ∙ t) refl
list_any_at p (y ∷ ys) (suc i) x l e t = or_true (p y) (list_any p ys) (list_any_at p ys i x (omega arith) e t)

pub quoted_label : (name label text before : List ℕ) → list_any is_quoted (chars name) ≡ true → label ≡ codes "\"" ++ flat_map escaped before → before ≡ chars name
    → text ≡ label ++ codes "\"" → text ≡ quoted name
quoted_label name label text before some is all t =
    t ∙ ap (λ (l : List ℕ). l ++ codes "\"") (is ∙ ap (λ (cs : List ℕ). codes "\"" ++ flat_map escaped cs) all) ∙ rw some refl
