-- A text that has a kind of literal begins with the delimiter of that kind.
use Rattle.std.proofs.Common.{◌≡◌, ℕ, ◌==◌, Bool, true, false, ◌&&◌, ◌||◌, List, [], ◌∷◌, take, replicate, slice_index, if◌then◌else◌, inl, inr, refl, sym, subst, Some, None, IfSome}
use Rattle.std.proofs.lemmas.Bool.{and_parts, or_cases, eqb-true, true≢false}
use Rattle.justfile_token.specs.StringKind.{is_quote, quote_of, delimiter_at, delimiter_len, delimiter_text, kind_of, kind_at_start}

quote_back : (b : ℕ) → is_quote b ≡ true → quote_of (delimiter_at b) ≡ b
quote_back b quote = elim (or_cases (b == 96 || b == 34) (b == 39) quote) [
  | inl other ↦ elim (or_cases (b == 96) (b == 34) other) [
    | inl is ↦ rw (eqb-true b 96 is) refl
    | inr is ↦ rw (eqb-true b 34 is) refl
  ]
  | inr is ↦ rw (eqb-true b 39 is) refl
]

-- a quote isn't the byte 0, which is read after the end of a text
not_none : (b : ℕ) → is_quote b ≡ true → (0 == b) ≡ true → ⊥
not_none b quote none = true≢false (sym (subst (λ n. is_quote n ≡ true) (sym (eqb-true 0 b none)) quote))

by_tripled : (tripled : Bool) (text : List ℕ) (b : ℕ) → (tripled ≡ true → take 3 text ≡ replicate 3 b) → take 1 text ≡ replicate 1 b
    → take (if tripled then 3 else 1) text ≡ replicate (if tripled then 3 else 1) b
by_tripled true text b three one = three refl
by_tripled false text b three one = one

thrice : (text : List ℕ) → is_quote (slice_index text 0) ≡ true
    → (slice_index text 1 == slice_index text 0 && slice_index text 2 == slice_index text 0) ≡ true
    → take 3 text ≡ replicate 3 (slice_index text 0)
thrice [] quote same = absurd (true≢false (sym quote))
thrice (a ∷ []) quote same = absurd (not_none a quote (and_parts (0 == a) (0 == a) same).0)
thrice (a ∷ b ∷ []) quote same = absurd (not_none a quote (and_parts (b == a) (0 == a) same).1)
thrice (a ∷ b ∷ c ∷ rest) quote same =
    let parts = and_parts (b == a) (c == a) same in
    rw (eqb-true b a parts.0, eqb-true c a parts.1) refl

once : (text : List ℕ) → is_quote (slice_index text 0) ≡ true → take 1 text ≡ replicate 1 (slice_index text 0)
once [] quote = absurd (true≢false (sym quote))
once (a ∷ rest) quote = refl

begins : (text : List ℕ) → is_quote (slice_index text 0) ≡ true → take (delimiter_len (kind_of text)) text ≡ delimiter_text (kind_of text)
begins text quote =
    rw (quote_back (slice_index text 0) quote)
    (by_tripled _ text (slice_index text 0) (thrice text quote) (once text quote))

only_where : (quote : Bool) (text : List ℕ) → (quote ≡ true → take (delimiter_len (kind_of text)) text ≡ delimiter_text (kind_of text))
    → IfSome (if quote then Some (kind_of text) else None) (λ kind. take (delimiter_len kind) text ≡ delimiter_text kind)
only_where true text holds = holds refl
only_where false text holds = tt

pub begins_with_delimiter : (text : List ℕ) → IfSome (kind_at_start text) (λ kind. take (delimiter_len kind) text ≡ delimiter_text kind)
begins_with_delimiter text = only_where (is_quote (slice_index text 0)) text (begins text)
