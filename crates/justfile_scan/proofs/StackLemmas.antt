-- Stacks have the innermost element last in the code and first in the definitions; and runs of bytes.
use Rattle.std.proofs.Common.{◌≡◌, ℕ, Bool, false, eqb, List, [], ◌∷◌, length, take, refl, sym, ap, ◌∙◌, arith, inl, inr, one-add}
use Rattle.std.specs.Prelude.{reverse, map, ◌||◌}
use Rattle.std.specs.List.{list_any, prefix_len}
use Rattle.std.specs.Str.{bytes_eq}
use denote.Ref.{Bor}
use Rattle.std.proofs.lemmas.Bool.{cases_Bool}
use Rattle.std.proofs.lemmas.List.{reverse-append}
use Rattle.std.proofs.lemmas.List.Folds.{list_any-append}
use Rattle.justfile_model.specs.Lexing.Next.{is_level}

or_swap : (a b : Bool) → (a || (b || false)) ≡ (b || a)
or_swap a b = grind arith

any_reverse : {A : Type 0} (p : A → Bool) (xs : List A) → list_any p (reverse xs) ≡ list_any p xs
any_reverse p [] = refl
any_reverse p (x ∷ xs) = ap (list_any p) (reverse-append (x ∷ []) xs) ∙ list_any-append p (reverse xs) (x ∷ []) ∙ ap (λ b. b || (p x || false)) (any_reverse p xs) ∙ or_swap (list_any p xs) (p x)

any_map : (levels : List (Bor (List ℕ))) (text : List ℕ) → list_any (λ t. bytes_eq t.now text) levels ≡ list_any (λ t. bytes_eq t text) (map (λ t. t.now) levels)
any_map [] text = refl
any_map (l ∷ ls) text = ap (λ b. bytes_eq l.now text || b) (any_map ls text)

pub level_is : (levels : List (Bor (List ℕ))) (text : List ℕ) → eqb (length text) 0 ≡ false → list_any (λ t. bytes_eq t.now text) levels ≡ is_level (reverse (map (λ t. t.now) levels)) text
level_is levels [] h = cc
level_is levels (b ∷ bs) h = any_map levels (b ∷ bs) ∙ sym (any_reverse (λ t. bytes_eq t (b ∷ bs)) (map (λ t. t.now) levels))

pub run_take : (p : ℕ → Bool) (bs : List ℕ) → prefix_len p (take (prefix_len p bs) bs) ≡ length (take (prefix_len p bs) bs)
run_take p [] = refl
run_take p (b ∷ bs) = elim (cases_Bool (p b)) [
  | inl e ↦ rw (e, one-add) (rw e (omega (arith, run_take p bs)))
  | inr e ↦ rw e refl
]
