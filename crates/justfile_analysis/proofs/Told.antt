-- Problems that are told.
use Rattle.std.proofs.Common.{◌≡◌, ◌∙◌, ℕ, ◌+◌, ◌-◌, ◌<◌, length, get_or, drop, List, [], ◌∷◌, ◌++◌, Some, None, sym, ap, subst, append_assoc}
use Rattle.std.proofs.lemmas.List.{drop_more}
use Rattle.text_parts.specs.declared.part.Part.{Part}
use Rattle.editor_language.specs.declared.parts.Known.{Known}
use Rattle.editor_language.specs.declared.parts.PartProblem.{PartProblem}
use Rattle.editor_language.specs.declared.parts.Problem.{Problem}
use Rattle.editor_language.specs.Items.{moved_offset}
use Rattle.justfile_analysis.specs.InText.{AreToldAs, IsToldAt, ProblemAt, problems_from, problem_at}

-- one more
told_push : (rs : List ProblemAt) (ps : List Problem) (r : ProblemAt) (p : Problem) → AreToldAs rs ps → IsToldAt r.base r.problem p → AreToldAs (rs ++ r ∷ []) (ps ++ p ∷ [])
told_push [] [] r p told is = (is, tt)
told_push (r₁ ∷ rs) (p₁ ∷ ps) r p told is = (told.0, told_push rs ps r p told.1 is)
told_push [] (p₁ ∷ ps) r p told is = absurd told
told_push (r₁ ∷ rs) [] r p told is = absurd told

-- The problems of the parts so far are told, and the rest begins at an offset.
pub record AreToldUpTo (parts : List (Part Known)) (start : ℕ) (rest : List (Part Known)) (told : List Problem) : Type 0 where
  pub so_far : List ProblemAt
  pub are : so_far ++ problems_from start rest ≡ problems_from 0 parts
  pub are_told : AreToldAs so_far told

-- a part without a problem
right_part : (parts : List (Part Known)) (start : ℕ) (p : Part Known) (rest : List (Part Known)) (told : List Problem) → p.known.problem ≡ None
    → AreToldUpTo parts start (p ∷ rest) told → AreToldUpTo parts (moved_offset start p.size) rest told
right_part parts start p rest told none t = record {
  so_far = t.so_far;
  are = ap (λ o. t.so_far ++ (problem_at (start - 1) o ++ problems_from (moved_offset start p.size) rest)) (sym none) ∙ t.are;
  are_told = t.are_told;
}

-- a part with one
wrong_part : (parts : List (Part Known)) (start : ℕ) (p : Part Known) (rest : List (Part Known)) (told : List Problem) (q : PartProblem) (problem : Problem)
    → p.known.problem ≡ Some q → IsToldAt (start - 1) q problem → AreToldUpTo parts start (p ∷ rest) told
    → AreToldUpTo parts (moved_offset start p.size) rest (told ++ problem ∷ [])
wrong_part parts start p rest told q problem some is t = record {
  so_far = t.so_far ++ record { base = start - 1; problem = q } ∷ [];
  are = append_assoc t.so_far (record { base = start - 1; problem = q } ∷ []) (problems_from (moved_offset start p.size) rest)
      ∙ ap (λ o. t.so_far ++ (problem_at (start - 1) o ++ problems_from (moved_offset start p.size) rest)) (sym some) ∙ t.are;
  are_told = told_push t.so_far told (record { base = start - 1; problem = q }) problem t.are_told is;
}

-- ---- the next part of a loop

module _ (parts : List (Part Known)) (start i next : ℕ) (p : Part Known) (within : i < length parts) (is : p ≡ get_or parts i p) (next_is : next ≡ moved_offset start p.size) where
  rest_is : drop i parts ≡ p ∷ drop (i + 1) parts
  rest_is = drop_more parts i p within ∙ ap (λ q. q ∷ drop (i + 1) parts) (sym is)

  pub right_next : (old new : List Problem) → p.known.problem ≡ None → new ≡ old → AreToldUpTo parts start (drop i parts) old
      → AreToldUpTo parts next (drop (i + 1) parts) new
  right_next old new none same t =
      subst (λ told. AreToldUpTo parts next (drop (i + 1) parts) told) (sym same)
      (subst (λ n. AreToldUpTo parts n (drop (i + 1) parts) old) (sym next_is)
      (right_part parts start p (drop (i + 1) parts) old none (subst (λ rest. AreToldUpTo parts start rest old) rest_is t)))

  pub wrong_next : (old new : List Problem) (q : PartProblem) (problem : Problem) → p.known.problem ≡ Some q → new ≡ old ++ problem ∷ [] → IsToldAt (start - 1) q problem
      → AreToldUpTo parts start (drop i parts) old → AreToldUpTo parts next (drop (i + 1) parts) new
  wrong_next old new q problem some same told t =
      subst (λ told. AreToldUpTo parts next (drop (i + 1) parts) told) (sym same)
      (subst (λ n. AreToldUpTo parts n (drop (i + 1) parts) (old ++ problem ∷ [])) (sym next_is)
      (wrong_part parts start p (drop (i + 1) parts) old q problem some told (subst (λ rest. AreToldUpTo parts start rest old) rest_is t)))
