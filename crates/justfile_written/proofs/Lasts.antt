-- The last element of a list gets a comment.
use Rattle.std.proofs.Common.{◌≡◌, ◌+◌, ℕ, zero, suc, true, List, [], ◌∷◌, length, Option, Some, None, slice_index_or, slice_set, refl, ap, arith}
use Rattle.std.specs.Option.{is_some}
use Rattle.justfile_written.specs.Written.{Comment, last_with_comment, line_commented, with_comment}
use Rattle.justfile_written.specs.declared.written.Written.{Written}

module _ {A : Type 0} where
  last_set : (comment : Comment) (pairs : List (A × Written)) (d : A × Written) (n : ℕ) → n + 1 ≡ length pairs
      → slice_set pairs n (with_comment comment (slice_index_or pairs n d)) ≡ last_with_comment comment pairs
  last_set comment [] d n h = absurd (omega (arith, h))
  last_set comment (p ∷ []) d zero h = refl
  last_set comment (p ∷ []) d (suc n) h = absurd (omega (arith, h))
  last_set comment (p ∷ q ∷ pairs) d zero h = absurd (omega (arith, h))
  last_set comment (p ∷ q ∷ pairs) d (suc n) h = ap (λ l. p ∷ l) (last_set comment (q ∷ pairs) d n (omega (arith, h)))

  -- setting the last element to itself with the comment adds the comment
  pub comment_set : (comment : Option Comment) (pairs : List (A × Written)) (last : ℕ) (d : A × Written) → is_some comment ≡ true → last + 1 ≡ length pairs
      → slice_set pairs last ((slice_index_or pairs last d).0, record { name = (slice_index_or pairs last d).1.name; comment = comment })
      ≡ line_commented comment pairs
  comment_set (Some comment) pairs last d some h = last_set comment pairs d last h
  comment_set None pairs last d some h = absurd cc
