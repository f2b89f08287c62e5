-- A part that was found.
use Rattle.std.specs.Prelude.{◌≡◌, ℕ, ◌+◌, ◌-◌, List, [], ◌∷◌, ◌++◌, drop, nat_eq}
use Rattle.text_parts.specs.Parts.{IsNext, IsPart}
use Rattle.text_parts.specs.Places.{IsPartEnd}
use Rattle.text_parts.specs.declared.part.Part.{Part}

-- The part of the text that begins at a place and ends at another one was appended to those before it.
pub record IsFound {K : Type 0} (is_part : IsPart K) (text : List ℕ) (at : ℕ) (old new : List (Part K)) (end : ℕ) : Type 0 where
  pub part : Part K
  pub appended : new ≡ old ++ (part ∷ [])
  pub next : IsNext is_part (nat_eq at 0) (drop (at - 1) text) part
  pub end_is : end ≡ at + part.size
  pub ends : IsPartEnd text at part.size
