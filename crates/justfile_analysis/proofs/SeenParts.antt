-- Parts that are right by what was read to find them are the right parts of the text.
use Rattle.std.proofs.Common.{◌≡◌, ◌∙◌, ℕ, ◌+◌, ◌-◌, ◌<◌, ◌≤◌, ◌⊎◌, Bool, true, false, List, [], ◌∷◌, ◌++◌, length, take, drop, inl, inr, refl, sym, ap, subst, arith, length-append}
use Rattle.std.specs.Prelude.{nat_lt, slice_index}
use Rattle.std.specs.List.{All}
use Rattle.std.proofs.lemmas.Bool.Decides.{nat_tests}
use Rattle.std.proofs.lemmas.List.{get_or-take, length-take, take-take, take_all, take_at}
use Rattle.std.proofs.lemmas.List.Elements.{All-head, All-tail}
use Rattle.justfile_model.specs.Grammars.Conditions.{Conditions}
use Rattle.justfile_round_trip.specs.RoundTrip.{TextDerives}
use Rattle.justfile_chunks.specs.Parts.{IsRead}
use Rattle.text_parts.specs.Parts.{AreParts, IsPart, before}
use Rattle.text_parts.specs.declared.part.Part.{Part}
use Rattle.text_parts.specs.Parts as parts
use Rattle.justfile_analysis.specs.RightParts.{AreRight, IsReadFurther, Read, end_of, last, more}
use Rattle.justfile_analysis.specs.SeenParts.{AreAsRead, IsAsRead, IsKnown, IsSeen, IsSeenFurther, IsSeenToEnd}

-- ---- one part

-- of `seen` bytes of what is left
module _ (conditions : Conditions) (is_first : Bool) (rest : List ℕ) (seen : ℕ) (r : Read) where
  module _ (h : IsSeenFurther conditions is_first (take seen rest) r) (long : seen ≤ length rest) where
    one_more : seen ≡ end_of is_first r + 1
    one_more =
        omega (arith, length-take seen rest, long, h.size_is, ap length h.seen_is, length-append h.text (h.next ∷ []))

    beyond : end_of is_first r < length rest
    beyond = omega (arith, one_more, long)

    text_is : take (end_of is_first r) rest ≡ h.text
    text_is =
        sym (take-take (end_of is_first r) seen rest (omega (arith, one_more))) ∙ ap (take (end_of is_first r)) h.seen_is
        ∙ take_at h.text (h.next ∷ []) (end_of is_first r) (sym h.size_is)

    read_further : 0 < r.size → IsReadFurther conditions is_first rest r
    read_further some = record {
      next = h.next;
      read = subst (λ t. IsRead conditions t h.next r.tree r.features) (sym text_is) h.read;
      further = ap (λ k. take k rest) (sym one_more) ∙ h.seen_is ∙ ap (λ t. t ++ (h.next ∷ [])) (sym text_is);
      is_other = h.is_other;
      feed =
          sym (get_or-take (end_of is_first r) rest (end_of is_first r - 1) 0 (omega (arith, some)))
          ∙ (λ i. slice_index (text_is i) (h.size_is i - 1)) ∙ h.feed;
      some = some;
    }

  all_seen : IsSeenToEnd conditions is_first (take seen rest) r → length rest < seen → TextDerives conditions rest r.tree r.features
  all_seen h short = subst (λ t. TextDerives conditions t r.tree r.features) (take_all seen rest (omega (arith, short))) h.derives

  all_size : IsSeenToEnd conditions is_first (take seen rest) r → length rest < seen → end_of is_first r ≡ length rest
  all_size h short = h.size_is ∙ ap length (take_all seen rest (omega (arith, short)))

  by_test : (b : Bool) → nat_lt (length rest) seen ≡ b → IsSeen conditions is_first (take seen rest) b r
      → ((length rest < seen) × IsSeenToEnd conditions is_first (take seen rest) r)
      ⊎ ((seen ≤ length rest) × IsSeenFurther conditions is_first (take seen rest) r)
  by_test true e h = inl (grind (arith, nat_tests, e), h)
  by_test false e h = inr (grind (arith, nat_tests, e), h)

  pub ends : IsSeen conditions is_first (take seen rest) (nat_lt (length rest) seen) r → end_of is_first r ≡ length rest
      → TextDerives conditions rest r.tree r.features
  ends h l = by (by_test (nat_lt (length rest) seen) refl h)
    where
      by : ((length rest < seen) × IsSeenToEnd conditions is_first (take seen rest) r)
          ⊎ ((seen ≤ length rest) × IsSeenFurther conditions is_first (take seen rest) r)
          → TextDerives conditions rest r.tree r.features
      by (inl s) = all_seen s.1 s.0
      by (inr s) = absurd (omega (arith, beyond s.1 s.0, l))

  pub goes_on : IsSeen conditions is_first (take seen rest) (nat_lt (length rest) seen) r → 0 < r.size → end_of is_first r < length rest
      → IsReadFurther conditions is_first rest r
  goes_on h some within = by (by_test (nat_lt (length rest) seen) refl h)
    where
      by : ((length rest < seen) × IsSeenToEnd conditions is_first (take seen rest) r)
          ⊎ ((seen ≤ length rest) × IsSeenFurther conditions is_first (take seen rest) r)
          → IsReadFurther conditions is_first rest r
      by (inl s) = absurd (omega (arith, all_size s.1 s.0, within))
      by (inr s) = read_further s.1 s.0 some

-- ---- the parts of a text

module _ {K : Type 0} (conditions : Conditions) (is_part : IsPart K) (IsRight : Part K → Type 0) (About : IsKnown K)
    (as_read : (is_first : Bool) (seen : List ℕ) (sees_end : Bool) (p : Part K) → is_part is_first seen sees_end p → IsRight p
    → IsAsRead conditions About is_first seen sees_end p) where
  pub right_parts : {is_first : Bool} {rest : List ℕ} {ps : List (Part K)} → AreParts is_part is_first rest ps → All IsRight ps
      → AreAsRead conditions About is_first rest ps
  right_parts (parts.last {is_first} {rest} {part = p} next l) right =
      let a = as_read is_first _ _ p next (All-head IsRight p [] right) in
      record {
        rs = a.r ∷ [];
        are_right = last (ends conditions is_first rest (before is_first + p.reach) a.r a.is_seen (size a l)) (size a l);
        about = (a.about, tt);
      }
    where
      size : {seen : List ℕ} {sees_end : Bool} (a : IsAsRead conditions About is_first seen sees_end p) → before is_first + p.size ≡ length rest
          → end_of is_first a.r ≡ length rest
      size a l = ap (λ k. before is_first + k) a.size_is ∙ l
  right_parts (parts.more {is_first} {rest} {part = p} {parts = ps} next some within h) right =
      let a = as_read is_first _ _ p next (All-head IsRight p ps right) in
      let others = right_parts h (All-tail IsRight p ps right) in
      record {
        rs = a.r ∷ others.rs;
        are_right =
            more (goes_on conditions is_first rest (before is_first + p.reach) a.r a.is_seen (omega (arith, some, a.size_is)) (omega (arith, within, a.size_is)))
            (subst (λ k. AreRight conditions false (drop (before is_first + k - 1) rest) others.rs) (sym a.size_is) others.are_right);
        about = (a.about, others.about);
      }
