-- A text splits into the three numbers of a version in at most one way.
use Rattle.std.proofs.Common.{◌≡◌, ◌<◌, ℕ, List, [], ◌∷◌, ◌++◌, refl, sym, ◌∙◌, subst, arith, append_assoc, length, suc, ◌+◌, ◌==◌, inl, inr, Option, Some, None, MatchOption, IfNone, IfSome, Bor}
use Rattle.std.proofs.lemmas.Bool.Decides.{eqb_tells}
use Rattle.std.specs.Char.{digit_value}
use Rattle.std.specs.List.{after_first, before_first, position_or_len}
use Rattle.std.specs.Str.Parse.{AllDigits}
use Rattle.justfile_numbers.specs.Version.{IsVersionText, WritesVersion}
use Rattle.justfile_numbers.specs.NumberText.{HasNoDot, IsNumberText}
use Rattle.justfile_numbers.specs.declared.version.Version.{Version}

pub no_dot_all : (text : List ℕ) → position_or_len (λ b. b == 46) text ≡ length text → HasNoDot text
no_dot_all [] e = tt
no_dot_all (x ∷ xs) e =
    elim (eqb_tells x 46) [
      | inl p ↦ let z : 0 ≡ suc (length xs) = rw p.0 at e in absurd (omega arith)
      | inr q ↦
          let z : 1 + position_or_len (λ b. b == 46) xs ≡ suc (length xs) = rw q.0 at e in
          (q.1, no_dot_all xs (omega arith))
    ]

pub no_dot_before : (text : List ℕ) → HasNoDot (before_first (λ b. b == 46) text)
no_dot_before [] = tt
no_dot_before (x ∷ xs) =
    elim (eqb_tells x 46) [
      | inl p ↦ rw p.0 tt
      | inr q ↦
          let e : 1 + position_or_len (λ b. b == 46) xs ≡ suc (position_or_len (λ b. b == 46) xs) = omega arith in
          rw (q.0, e) (q.1, no_dot_before xs)
    ]

-- the text before the first dot contains no dot
pub no_dot_first : (text : List ℕ) (r : Option (Bor (List ℕ) × Bor (List ℕ)))
    → MatchOption r (position_or_len (λ b. b == 46) text ≡ length text)
    (λ x. (x.0.now ≡ before_first (λ b. b == 46) text) × (x.1.now ≡ after_first (λ b. b == 46) text) × (position_or_len (λ b. b == 46) text < length text))
    → IfSome r (λ x. HasNoDot x.0.now)
no_dot_first text None h = tt
no_dot_first text (Some x) h = subst HasNoDot (sym h.0) (no_dot_before text)

no_dot_digits : (a : List ℕ) → AllDigits 10 a → HasNoDot a
no_dot_digits [] h = tt
no_dot_digits (x ∷ xs) h = ((λ e. let f : digit_value 46 < 10 = subst (λ (y : ℕ). digit_value y < 10) e h.0 in omega arith), no_dot_digits xs h.1)

same_cut : (a b c d : List ℕ) → HasNoDot a → HasNoDot c → a ++ (46 ∷ b) ≡ c ++ (46 ∷ d) → (a ≡ c) × (b ≡ d)
same_cut [] b [] d h k e = (refl, cc)
same_cut [] b (y ∷ c) d h k e = absurd (k.0 (cc))
same_cut (x ∷ a) b [] d h k e = absurd (h.0 (cc))
same_cut (x ∷ a) b (y ∷ c) d h k e = let rest = same_cut a b c d h.1 k.1 (cc) in (cc, rest.1)

dot_there : (a b : List ℕ) → HasNoDot (a ++ (46 ∷ b)) → ⊥
dot_there [] b h = h.0 refl
dot_there (x ∷ a) b h = dot_there a b h.1

-- `IfNone` keeps what its condition implies
pub none_along : (o : Option Version) (P Q : Type 0) → (P → Q) → IfNone o P → IfNone o Q
none_along None P Q f h = f h
none_along (Some v) P Q f h = tt

module _ (text : List ℕ) (v : Version) (is : IsVersionText text v) where
  whole : text ≡ is.major ++ (46 ∷ (is.minor ++ (46 ∷ is.patch)))
  whole = is.whole ∙ simp append_assoc

  pub one_number : HasNoDot text → ⊥
  one_number h = dot_there is.major _ (subst HasNoDot whole h)

  module _ (a rest : List ℕ) (cut : text ≡ a ++ (46 ∷ rest)) (h : HasNoDot a) where
    first_cut : (a ≡ is.major) × (rest ≡ is.minor ++ (46 ∷ is.patch))
    first_cut = same_cut a rest is.major _ h (no_dot_digits is.major is.numbers.is_major.digits.1) (sym cut ∙ whole)

    pub two_numbers : HasNoDot rest → ⊥
    two_numbers k = dot_there is.minor _ (subst HasNoDot first_cut.1 k)

    module _ (b c : List ℕ) (cut_rest : rest ≡ b ++ (46 ∷ c)) (k : HasNoDot b) where
      second_cut : (b ≡ is.minor) × (c ≡ is.patch)
      second_cut = same_cut b c is.minor is.patch k (no_dot_digits is.minor is.numbers.is_minor.digits.1) (sym cut_rest ∙ first_cut.1)

      pub three_numbers : WritesVersion a b c v
      three_numbers = record {
        is_major = subst (λ (l : List ℕ). IsNumberText l v.major) (sym first_cut.0) is.numbers.is_major;
        is_minor = subst (λ (l : List ℕ). IsNumberText l v.minor) (sym second_cut.0) is.numbers.is_minor;
        is_patch = subst (λ (l : List ℕ). IsNumberText l v.patch) (sym second_cut.1) is.numbers.is_patch;
      }
