-- Mentions that are compared one by one.
use Rattle.std.proofs.Common.{◌≡◌, ◌≢◌, ◌&&◌, ℕ, suc, Bool, true, false, List, [], ◌∷◌, length, refl, sym, ap, ◌∙◌}
use Rattle.editor_language.specs.declared.mention.Mention.{Mention}
use Rattle.editor_answers.specs.Renames.{are_renamed, is_renamed}

and_false : (b : Bool) → b && false ≡ false
and_false true = refl
and_false false = refl

module _ (name : Mention) (new : List ℕ) where
  -- as many as there were
  pub other_count : (before after : List Mention) → length before ≢ length after → false ≡ are_renamed name new before after
  other_count [] [] differ = absurd (differ refl)
  other_count [] (m ∷ after) differ = refl
  other_count (m ∷ before) [] differ = refl
  other_count (m ∷ before) (k ∷ after) differ =
      sym (ap (λ (b : Bool). is_renamed name new m k && b) (sym (other_count before after (λ e. differ (ap suc e)))) ∙ and_false (is_renamed name new m k))
