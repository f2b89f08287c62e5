-- Parts that were found so far, and those from there on, are parts of a text.
use Rattle.std.proofs.Common.{◌≡◌, ◌∙◌, ℕ, zero, suc, ◌+◌, ◌-◌, ◌<◌, ◌≢◌, true, false, List, [], ◌∷◌, ◌++◌, length, drop, inl, inr, refl, sym, ap, subst, arith, append_assoc}
use Rattle.std.specs.Prelude.{nat_eq}
use Rattle.std.proofs.lemmas.Bool.Decides.{nat_tests}
use Rattle.std.proofs.lemmas.List.{drop-drop, length-drop}
use Rattle.text_parts.specs.declared.part.Part.{Part}
use Rattle.text_parts.specs.Found.{IsFound}
use Rattle.text_parts.specs.Kept.{IsBegun}
use Rattle.text_parts.specs.Parts.{AreFrom, AreParts, IsNext, IsPart, before}
use Rattle.text_parts.specs.Places.{IsPartStart}

-- ---- places

pub not_first : (at : ℕ) → 0 < at → nat_eq at 0 ≡ false
not_first at h = grind (arith, nat_tests, h)

-- a part is read from the byte before its place on, if there is one
pub before_at : (at : ℕ) → before (nat_eq at 0) + (at - 1) ≡ at
before_at zero = refl
before_at (suc n) = omega (arith, ap before (not_first (suc n) (omega arith)))

-- what is left after a part
pub rest_after : (text : List ℕ) (at size : ℕ) → 0 < size
    → drop (before (nat_eq at 0) + size - 1) (drop (at - 1) text) ≡ drop (at + size - 1) text
rest_after text at size h =
    drop-drop (before (nat_eq at 0) + size - 1) (at - 1) text ∙ ap (λ n. drop n text) (omega (arith, h, before_at at))

module _ {K : Type 0} (is_part : IsPart K) (text : List ℕ) where
  -- the part at a place
  abbrev pub IsAt : ℕ → Part K → Type 0
  IsAt at part = IsNext is_part (nat_eq at 0) (drop (at - 1) text) part

  pub last_from : (at : ℕ) (part : Part K) → IsAt at part → at + part.size ≡ length text → AreFrom is_part text at (part ∷ [])
  last_from at part n e = AreParts.last n (omega (arith, before_at at, length-drop (at - 1) text, e))

  pub more_from : (at : ℕ) (part : Part K) (parts : List (Part K)) → IsAt at part → 0 < part.size → at + part.size < length text
      → AreFrom is_part text (at + part.size) parts → AreFrom is_part text at (part ∷ parts)
  more_from at part parts n some within h =
      AreParts.more n some (omega (arith, before_at at, length-drop (at - 1) text, within))
      (subst (λ b. AreParts is_part b (drop (before (nat_eq at 0) + part.size - 1) (drop (at - 1) text)) parts) (not_first (at + part.size) (omega (arith, some)))
      (subst (λ l. AreParts is_part (nat_eq (at + part.size) 0) l parts) (sym (rest_after text at part.size some)) h))

  -- Parts of the text from a place on, after those that were found, are parts of the whole text.
  abbrev pub Fits : List (Part K) → ℕ → Type 0
  Fits done at = (parts : List (Part K)) → AreFrom is_part text at parts → AreFrom is_part text 0 (done ++ parts)

  pub fits_more : (done : List (Part K)) (at : ℕ) (part : Part K) → Fits done at → IsAt at part → 0 < part.size → at + part.size < length text
      → Fits (done ++ (part ∷ [])) (at + part.size)
  fits_more done at part f n some within parts h =
      subst (AreFrom is_part text 0) (sym (append_assoc done (part ∷ []) parts)) (f (part ∷ parts) (more_from at part parts n some within h))

  -- one more part was found, and the text goes on
  pub begun_more : (done new : List (Part K)) (at end : ℕ) → IsBegun is_part text done at → IsFound is_part text at done new end → end ≢ length text
      → IsBegun is_part text new end
  begun_more done new at end b f h = elim (f.ends) [
    | inl e ↦ absurd (h (f.end_is ∙ e))
    | inr s ↦
        subst (IsBegun is_part text new) (sym f.end_is)
        (subst (λ l. IsBegun is_part text l (at + f.part.size)) (sym f.appended)
        (record { start = inr s.1; fits = fits_more done at f.part b.fits f.next s.0 s.1.within }))
  ]

  -- one more part was found, and the text is at its end
  pub all_found : (done new : List (Part K)) (at end : ℕ) → IsBegun is_part text done at → IsFound is_part text at done new end → end ≡ length text
      → AreParts is_part true text new
  all_found done new at end b f h =
      subst (AreParts is_part true text) (sym f.appended) (b.fits (f.part ∷ []) (last_from at f.part f.next (sym f.end_is ∙ h)))

  pub next_start : (done new : List (Part K)) (at end : ℕ) → IsFound is_part text at done new end → end ≢ length text → IsPartStart text end
  next_start done new at end f h = elim (f.ends) [
    | inl e ↦ absurd (h (f.end_is ∙ e))
    | inr s ↦ subst (IsPartStart text) (sym f.end_is) (inr s.1)
  ]

-- A part that was found is one after other ones too.
pub found_after : {K : Type 0} (is_part : IsPart K) (text : List ℕ) (kept old new : List (Part K)) (at end : ℕ) → IsFound is_part text at old new end
    → IsFound is_part text at (kept ++ old) (kept ++ new) end
found_after is_part text kept old new at end f = search (ap (λ l. kept ++ l) f.appended ∙ sym (append_assoc kept old (f.part ∷ [])), f)

-- One more part was found after other ones, and the text goes on at the next place.
pub begun_after : {K : Type 0} (is_part : IsPart K) (text : List ℕ) (kept old new : List (Part K)) (at end next : ℕ) → IsBegun is_part text (kept ++ old) at
    → IsFound is_part text at old new end → end ≢ length text → next ≡ end → IsBegun is_part text (kept ++ new) next
begun_after is_part text kept old new at end next b f h e =
    subst (IsBegun is_part text (kept ++ new)) (sym e)
    (begun_more is_part text (kept ++ old) (kept ++ new) at end b (found_after is_part text kept old new at end f) h)
