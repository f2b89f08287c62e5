-- The code and the definitions read the same version from a text.
use Rattle.std.proofs.Common.{◌≡◌, ◌∙◌, ◌<◌, ◌≤◌, ◌==◌, ◌++◌, ℕ, suc, Bool, true, false, not, ◌&&◌, inl, inr, nat_lt, List, [], ◌∷◌, length, Option, Some, None, refl, sym, ap, arith, append_assoc, cond, ◌||◌, nat_eq, Ordering, Less, Equal, Greater, if◌then◌else◌}
use Rattle.std.proofs.lemmas.Bool.{lt-ltb, ltb-false, ltb-true, le-ltb}
use Rattle.std.proofs.lemmas.Bool.Decides.{eqb_tells}
use Rattle.std.proofs.lemmas.Str.{digit_value_digit}
use Rattle.std.proofs.lemmas.Str.Parse.{digit_from_value}
use Rattle.std.specs.Char.{digit_value}
use Rattle.std.specs.List.{list_all}
use Rattle.std.specs.Ordering.{is_lt, is_some_and, partial_lt, partial_ordering_then}
use Rattle.std.specs.Str.Parse.{AllDigits, digits_value}
use Rattle.justfile_numbers.specs.NumberText.{HasNoDot, IsNumberText}
use Rattle.justfile_numbers.specs.Version.{IsVersionText}
use Rattle.justfile_numbers.specs.contracts.version.VersionPartialOrd.TheImpl as orders
use Rattle.justfile_numbers.specs.declared.version.Version.{Version}
use Rattle.justfile_model.specs.Grammars.Conditions.{VersionNumbers}
use Rattle.justfile_model.specs.Meanings.Versions.{between_dots, byte_before, is_above, is_number, version_in, version_numbers, version_of}

-- ---- numbers

abbrev is_decimal : ℕ → Bool
is_decimal c = not (nat_lt c 48) && nat_lt c 58

both : (a b : Bool) → a ≡ true → b ≡ true → (a && b) ≡ true
both true b p q = q
both false b p q = absurd cc

left : (a b : Bool) → (a && b) ≡ true → a ≡ true
left true b p = refl
left false b p = absurd cc

right : (a b : Bool) → (a && b) ≡ true → b ≡ true
right true b p = p
right false b p = absurd cc

not_false : (a : Bool) → not a ≡ true → a ≡ false
not_false true p = absurd cc
not_false false p = refl

decimal_is : (c : ℕ) → digit_value c < 10 → is_decimal c ≡ true
decimal_is c h = let d = digit_from_value c h in both _ _ (rw (le-ltb c 48 d.0) refl) (lt-ltb c 58 (omega (arith, d.1)))

is_decimal_of : (c : ℕ) → is_decimal c ≡ true → digit_value c < 10
is_decimal_of c h =
    let low : 48 ≤ c = ltb-false c 48 (not_false (nat_lt c 48) (left (not (nat_lt c 48)) (nat_lt c 58) h)) in
    let high : c < 58 = ltb-true c 58 (right (not (nat_lt c 48)) (nat_lt c 58) h) in
    omega (arith, digit_value_digit c (low, omega arith))

decimals_are : (text : List ℕ) → AllDigits 10 text → list_all is_decimal text ≡ true
decimals_are [] h = refl
decimals_are (c ∷ cs) h = both _ _ (decimal_is c h.0) (decimals_are cs h.1)

decimals_of : (text : List ℕ) → list_all is_decimal text ≡ true → AllDigits 10 text
decimals_of [] h = tt
decimals_of (c ∷ cs) h = (is_decimal_of c (left _ _ h), decimals_of cs (right _ _ h))

some_length : (n : ℕ) → not (suc n == 0) ≡ true
some_length n = elim (eqb_tells (suc n) 0) [ inl p ↦ absurd (omega (arith, p.1)) | inr q ↦ rw q.0 refl ]

number_is : (text : List ℕ) (n : ℕ) → IsNumberText text n → is_number text ≡ true
number_is [] n is = absurd (omega (arith, is.digits.0))
number_is (c ∷ cs) n is =
    both (not (length (c ∷ cs) == 0) && list_all is_decimal (c ∷ cs)) _ (both _ _ (some_length (length cs)) (decimals_are (c ∷ cs) is.digits.1)) (lt-ltb _ _ is.fits)

number_of : (text : List ℕ) → is_number text ≡ true → IsNumberText text (digits_value 10 text)
number_of [] h = absurd cc
number_of (c ∷ cs) h =
    let written = left (not (length (c ∷ cs) == 0) && list_all is_decimal (c ∷ cs)) _ h in
    record { digits = (omega arith, decimals_of (c ∷ cs) (right _ _ written)); value = refl; fits = ltb-true _ _ (right _ _ h) }

-- ---- the parts between dots

no_dot_in : (text : List ℕ) → AllDigits 10 text → HasNoDot text
no_dot_in [] h = tt
no_dot_in (c ∷ cs) h = ((λ e. let d = digit_from_value c h.0 in omega (arith, d.0, e)), no_dot_in cs h.1)

other_byte : (b : ℕ) (parts : List ℕ) (others : List (List ℕ)) → (b ≡ 46 → ⊥) → byte_before b (parts ∷ others) ≡ (b ∷ parts) ∷ others
other_byte b part others h = elim (eqb_tells b 46) [ inl p ↦ absurd (h p.1) | inr q ↦ rw q.0 refl ]

-- a text without dots is a single part
alone : (text : List ℕ) → HasNoDot text → between_dots text ≡ text ∷ []
alone [] h = refl
alone (b ∷ bs) h = ap (byte_before b) (alone bs h.1) ∙ other_byte b bs [] h.0

dot_before : (b : ℕ) (parts : List (List ℕ)) → byte_before 46 (byte_before b parts) ≡ [] ∷ byte_before b parts
dot_before b [] = refl
dot_before b (part ∷ parts) = elim (eqb_tells b 46) [ inl p ↦ rw p.0 refl | inr q ↦ rw q.0 refl ]

dot : (rest : List ℕ) → between_dots (46 ∷ rest) ≡ [] ∷ between_dots rest
dot [] = refl
dot (b ∷ bs) = dot_before b (between_dots bs)

cut : (text rest : List ℕ) → HasNoDot text → between_dots (text ++ 46 ∷ rest) ≡ text ∷ between_dots rest
cut [] rest h = dot rest
cut (b ∷ bs) rest h = ap (byte_before b) (cut bs rest h.1) ∙ other_byte b bs (between_dots rest) h.0

-- parts with a dot between them
abbrev joined : List (List ℕ) → List ℕ
joined [] = []
joined (part ∷ []) = part
joined (part ∷ parts) = part ++ 46 ∷ joined parts

joined_before : (b : ℕ) (parts : List (List ℕ)) → joined (byte_before b parts) ≡ b ∷ joined parts
joined_before b [] = refl
joined_before b (part ∷ parts) =
    elim (eqb_tells b 46) [
      | inl p ↦ rw p.0 (ap (λ (c : ℕ). c ∷ joined (part ∷ parts)) (sym p.1))
      | inr q ↦ rw q.0 (first parts)
    ]
  where
    first : (others : List (List ℕ)) → joined ((b ∷ part) ∷ others) ≡ b ∷ joined (part ∷ others)
    first [] = refl
    first (other ∷ others) = refl

rejoined : (text : List ℕ) → joined (between_dots text) ≡ text
rejoined [] = refl
rejoined (b ∷ bs) = joined_before b (between_dots bs) ∙ ap (λ t. b ∷ t) (rejoined bs)

-- ---- versions

module _ (text : List ℕ) (v : Version) (is : IsVersionText text v) where
  dotted : text ≡ is.major ++ (46 ∷ (is.minor ++ (46 ∷ is.patch)))
  dotted = is.whole ∙ simp append_assoc

  parts_are : between_dots text ≡ is.major ∷ is.minor ∷ is.patch ∷ []
  parts_are =
      ap between_dots dotted
      ∙ cut is.major _ (no_dot_in is.major is.numbers.is_major.digits.1)
      ∙ ap (λ parts. is.major ∷ parts) (cut is.minor is.patch (no_dot_in is.minor is.numbers.is_minor.digits.1)
      ∙ ap (λ parts. is.minor ∷ parts) (alone is.patch (no_dot_in is.patch is.numbers.is_patch.digits.1)))

  numbered : version_in (is.major ∷ is.minor ∷ is.patch ∷ []) ≡ Some (version_numbers v)
  numbered =
      rw (number_is is.major v.major is.numbers.is_major) (rw (number_is is.minor v.minor is.numbers.is_minor) (rw (number_is is.patch v.patch is.numbers.is_patch)
      (λ i. Some (record { major = sym is.numbers.is_major.value i; minor = sym is.numbers.is_minor.value i; patch = sym is.numbers.is_patch.value i }))))

  -- the version that the code reads is the one that the definitions read
  pub read : version_of text ≡ Some (version_numbers v)
  read = ap version_in parts_are ∙ numbered

-- the case that the code reads no version
module _ (text : List ℕ) (none : (v : Version) → ¬ IsVersionText text v) where
  abbrev the_none : Option VersionNumbers
  the_none = None

  three : (major minor patch : List ℕ) → text ≡ major ++ (46 ∷ (minor ++ (46 ∷ patch)))
      → (passes : Bool) → is_number major && is_number minor && is_number patch ≡ passes
      → (if passes then Some (record { major = digits_value 10 major; minor = digits_value 10 minor; patch = digits_value 10 patch }) else None) ≡ the_none
  three major minor patch e false h = refl
  three major minor patch e true h =
      let two = left (is_number major && is_number minor) _ h in
      absurd (none (record { major = digits_value 10 major; minor = digits_value 10 minor; patch = digits_value 10 patch }) (record {
        major = major;
        minor = minor;
        patch = patch;
        whole = e ∙ simp append_assoc;
        numbers = record { is_major = number_of major (left _ _ two); is_minor = number_of minor (right _ _ two); is_patch = number_of patch (right _ _ h) };
      }))

  unread_parts : (parts : List (List ℕ)) → joined parts ≡ text → version_in parts ≡ None
  unread_parts [] e = refl
  unread_parts (a ∷ []) e = refl
  unread_parts (a ∷ b ∷ []) e = refl
  unread_parts (a ∷ b ∷ c ∷ []) e = three a b c (sym e) _ refl
  unread_parts (a ∷ b ∷ c ∷ d ∷ parts) e = refl

  -- if the code reads no version, neither do the definitions
  pub unread : version_of text ≡ None
  unread = unread_parts (between_dots text) (rejoined text)

-- ---- their order

step : (less same : Bool) (rest : Option Ordering)
    → is_some_and is_lt (partial_ordering_then (Some (cond less Less (cond same Equal Greater))) rest) ≡ less || same && is_some_and is_lt rest
step true same rest = refl
step false true rest = refl
step false false rest = refl

last : (less same : Bool) → is_some_and is_lt (Some (cond less Less (cond same Equal Greater))) ≡ less
last true same = refl
last false true = refl
last false false = refl

-- the code's order of versions is that of the definitions
pub later : (v w : Version) → partial_lt orders.partial_cmp-value.it w v ≡ is_above (version_numbers v) (version_numbers w)
later v w =
    step (nat_lt w.major v.major) (nat_eq w.major v.major) _
    ∙ ap (λ t. nat_lt w.major v.major || nat_eq w.major v.major && t) (step (nat_lt w.minor v.minor) (nat_eq w.minor v.minor) _
    ∙ ap (λ t. nat_lt w.minor v.minor || nat_eq w.minor v.minor && t) (last (nat_lt w.patch v.patch) (nat_eq w.patch v.patch)))
