-- Parts of an old text are parts of the text.
use Rattle.std.proofs.Common.{◌≡◌, ◌∙◌, ℕ, suc, ◌+◌, ◌-◌, ◌<◌, ◌≤◌, Bool, true, false, List, [], ◌∷◌, ◌++◌, length, take, drop, get_or, inr, sym, ap, subst, arith, drop-cons, drop_at, take_at}
use Rattle.std.specs.Prelude.{nat_eq}
use Rattle.std.proofs.lemmas.Bool.{le-ltb}
use Rattle.std.proofs.lemmas.List.{drop-drop, drop-take, length-drop, take-take, take_more}
use Rattle.text_parts.specs.declared.part.Part.{Part}
use Rattle.text_parts.specs.declared.shared.Shared.{Shared}
use Rattle.text_parts.specs.declared.after.Front.{Front}
use Rattle.text_parts.specs.Kept.{AreLeft, IsBegun, IsFront, IsKeptTo}
use Rattle.text_parts.specs.Parts.{AreFrom, AreParts, IsNext, IsPart, before, seen, sees_end}
use Rattle.text_parts.specs.Shared.{IsSameEnd, IsShared}
use Rattle.text_parts.proofs.Fitting.{before_at, fits_more, not_first, rest_after}

-- ---- the first one of some parts, and the others

module _ {K : Type 0} (is_part : IsPart K) where
  first_next : (b : Bool) (rest : List ℕ) (part : Part K) (parts : List (Part K)) → AreParts is_part b rest (part ∷ parts) → IsNext is_part b rest part
  first_next b rest part parts (AreParts.last n e) = n
  first_next b rest part parts (AreParts.more n some within h) = n

  others : (b : Bool) (rest : List ℕ) (part next : Part K) (parts : List (Part K)) → AreParts is_part b rest (part ∷ next ∷ parts)
      → (0 < part.size) × AreParts is_part false (drop (before b + part.size - 1) rest) (next ∷ parts)
  others b rest part next parts (AreParts.more n some within h) = (some, h)

  module _ (text : List ℕ) where
    left_after : (at : ℕ) (part : Part K) (parts : List (Part K)) → AreFrom is_part text at (part ∷ parts) → AreLeft is_part text (at + part.size) parts
    left_after at part [] h = tt
    left_after at part (next ∷ parts) h =
        let o = others (nat_eq at 0) (drop (at - 1) text) part next parts h in
        subst (λ b. AreParts is_part b (drop (at + part.size - 1) text) (next ∷ parts)) (sym (not_first (at + part.size) (omega (arith, o.0))))
        (subst (λ l. AreParts is_part false l (next ∷ parts)) (rest_after text at part.size o.0) o.1)

    some_left : (at : ℕ) (parts : List (Part K)) → 0 < length parts → AreLeft is_part text at parts → AreFrom is_part text at parts
    some_left at [] h l = absurd (omega (arith, h))
    some_left at (part ∷ parts) h l = l

    -- what is left from an index on
    left_item : (at : ℕ) (parts : List (Part K)) (index : ℕ) (part : Part K) → index < length parts → part ≡ get_or parts index part
        → AreLeft is_part text at (drop index parts) → AreFrom is_part text at (part ∷ drop (index + 1) parts)
    left_item at parts index part within is h =
        let one : suc index ≡ index + 1 = omega arith in
        subst (AreLeft is_part text at) (drop-cons parts index part within ∙ (λ i. sym is i ∷ drop (one i) parts)) h

    -- a part is passed
    pub left_past : (at : ℕ) (parts : List (Part K)) (index : ℕ) (part : Part K) → index < length parts → part ≡ get_or parts index part
        → AreLeft is_part text at (drop index parts) → AreLeft is_part text (at + part.size) (drop (index + 1) parts)
    left_past at parts index part within is h = left_after at part (drop (index + 1) parts) (left_item at parts index part within is h)

-- ---- what both texts begin and end with

module _ (old text : List ℕ) (shared : Shared) (s : IsShared old text shared) where
  front_same : (n : ℕ) → n ≤ shared.front → take n old ≡ take n text
  front_same n h = sym (take-take n shared.front old h) ∙ ap (take n) s.front ∙ take-take n shared.front text h

  -- what is left where the texts go on the same, with the byte before it
  end_same : (from at : ℕ) → IsSameEnd shared from at → drop (from - 1) old ≡ drop (at - 1) text
  end_same from at e =
      let n = from - shared.old_end - 1 in
      sym (drop-drop n shared.old_end old ∙ ap (λ k. drop k old) (omega (arith, e.in_old)))
      ∙ ap (drop n) s.end ∙ drop-drop n shared.new_end text ∙ ap (λ k. drop k text) (omega (arith, e.in_old, e.in_new, e.as_far))

  module _ {K : Type 0} (is_part : IsPart K) where
    -- a part that was found in what both texts begin with
    next_same : (at : ℕ) (part : Part K) → at + part.reach ≤ shared.front → IsNext is_part (nat_eq at 0) (drop (at - 1) old) part
        → IsNext is_part (nat_eq at 0) (drop (at - 1) text) part
    next_same at part h n =
        let b = nat_eq at 0 in
        let size = before b + part.reach in
        let place : at - 1 + size ≡ at + part.reach = omega (arith, before_at at) in
        let read : (l : List ℕ) → seen b part.reach (drop (at - 1) l) ≡ drop (at - 1) (take (at + part.reach) l) = λ l.
        sym (drop-take (at - 1) size l) ∙ ap (λ k. drop (at - 1) (take k l)) place
        in
        let no_end : (l : List ℕ) → shared.front ≤ length l → sees_end b part.reach (drop (at - 1) l) ≡ false = λ l within.
        le-ltb (length (drop (at - 1) l)) size (omega (arith, length-drop (at - 1) l, before_at at, h, within))
        in
        let same : seen b part.reach (drop (at - 1) old) ≡ seen b part.reach (drop (at - 1) text) =
        read old ∙ ap (drop (at - 1)) (front_same (at + part.reach) h) ∙ sym (read text)
        in
        let ends : sees_end b part.reach (drop (at - 1) old) ≡ sees_end b part.reach (drop (at - 1) text) =
        no_end old s.front_in_old ∙ sym (no_end text s.front_in_new)
        in
        subst (λ e. is_part b (seen b part.reach (drop (at - 1) text)) e part) ends
        (subst (λ l. is_part b l (sees_end b part.reach (drop (at - 1) old)) part) same n)

    -- one more part of the old text is kept
    kept_begun : (done parts : List (Part K)) (at end : ℕ) (part : Part K) → IsBegun is_part text done at
        → AreFrom is_part old at (part ∷ parts) → IsKeptTo text at shared.front part end → IsBegun is_part text (done ++ (part ∷ [])) end
    kept_begun done parts at end part b h k = record {
      start = inr k.line;
      fits =
          subst (λ n. (ps : List (Part K)) → AreFrom is_part text n ps → AreFrom is_part text 0 ((done ++ (part ∷ [])) ++ ps)) (sym k.end_is)
          (fits_more is_part text done at part b.fits
          (next_same at part k.read (first_next is_part (nat_eq at 0) (drop (at - 1) old) part parts h))
          k.some (omega (arith, k.end_is, k.line.within)));
    }

    pub one_kept : (parts : List (Part K)) (front : Front) (part : Part K) (end : ℕ) → front.count < length parts → part ≡ get_or parts front.count part
        → IsKeptTo text front.end shared.front part end → IsFront is_part old text parts front
        → IsFront is_part old text parts (record { count = front.count + 1; end = end })
    one_kept parts front part end within is k f =
        let count = front.count in
        let rest = drop (count + 1) parts in
        record {
          begun =
              subst (λ ps. IsBegun is_part text ps end) (ap (λ p. take count parts ++ (p ∷ [])) is ∙ sym (take_more parts count part within))
              (kept_begun (take count parts) rest front.end end part f.begun (left_item is_part old front.end parts count part within is f.left) k);
          left = subst (λ n. AreLeft is_part old n rest) (sym k.end_is) (left_past is_part old front.end parts count part within is f.left);
        }

    -- The parts of the old text from here on are kept.
    pub all_kept : (done parts : List (Part K)) (from at : ℕ) → IsBegun is_part text done at → AreLeft is_part old from parts → 0 < length parts
        → IsSameEnd shared from at → AreParts is_part true text (done ++ parts)
    all_kept done parts from at b l some e =
        let both_later : nat_eq from 0 ≡ nat_eq at 0 =
        not_first from (omega (arith, e.in_old)) ∙ sym (not_first at (omega (arith, e.in_new)))
        in
        b.fits parts
        (subst (λ c. AreParts is_part c (drop (at - 1) text) parts) both_later
        (subst (λ l. AreParts is_part (nat_eq from 0) l parts) (end_same from at e) (some_left is_part old from parts some l)))

-- Parts that were found are the first ones, once they are in place.
pub in_front : {K : Type 0} (is_part : IsPart K) (old text : List ℕ) (done rest parts : List (Part K)) (front : Front) → parts ≡ done ++ rest
    → length done ≡ front.count → IsBegun is_part text done front.end → AreLeft is_part old front.end rest → IsFront is_part old text parts front
in_front is_part old text done rest parts front is size b l = record {
  begun = subst (λ ps. IsBegun is_part text ps front.end) (sym (ap (take front.count) is ∙ take_at done rest front.count size)) b;
  left = subst (AreLeft is_part old front.end) (sym (ap (drop front.count) is ∙ drop_at done rest front.count size)) l;
}
