-- Lines of a header, one after the other, and the body.
use Rattle.std.proofs.Common.{◌≡◌, ◌==◌, ◌≢◌, ◌⊎◌, ℕ, zero, suc, ◌+◌, Bool, true, false, All, List, [], ◌∷◌, ◌++◌, length, drop, if◌then◌else◌, Option, None, Some, Result, Ok, Err, OnOk, IfSome, refl, sym, ap, subst, ◌∙◌, append-nil, inl, inr, arith, length-append}
use Rattle.std.specs.Io.BufRead.{DropsThrough, drop_through, take_through}
use Rattle.std.specs.Io.KnownBytes.{Appends, Consumes, IsAtEnd, Keeps}
use Rattle.std.specs.List.{fold}
use Rattle.std.proofs.KnownBytes.{Appends-kept, Appends-trans, Consumes-nil, Consumes-trans}
use Rattle.std.proofs.lemmas.Bool.{both_ways, eq-eqb, eqb-true}
use Rattle.std.proofs.lemmas.Grind.{flat_map-append}
use Rattle.std.proofs.lemmas.List.Elements.{All-push}
use Rattle.message_stream.proofs.Fields.{never_none}
use Rattle.message_stream.specs.Field.{ends_header, length_in}
use Rattle.message_stream.specs.Header.{BeginsWithFields, BeginsWithHeader, BeginsWithMessage, IsEnded, IsHeader, IsLine, Passes, ReadsHeader, ReadsLine, ReadsToEnd, Skips, SkipsSome, joined, later, length_among}
use Rattle.message_stream.specs.declared.header.Header.{Header}
use Rattle.message_stream.specs.declared.header.TheConstants.{MOST_LINES}

-- ---- one line

no_feed : All {X = ℕ} (λ c. c ≢ 10) []
no_feed k d h = absurd (omega arith)

no_feed_more : (c : ℕ) (front : List ℕ) → c ≢ 10 → All (λ c. c ≢ 10) front → All (λ c. c ≢ 10) (c ∷ front)
no_feed_more c front n h zero d lt = n
no_feed_more c front n h (suc k) d lt = h k d (omega arith)

line_more : (c : ℕ) (line : List ℕ) → c ≢ 10 → IsLine line → IsLine (c ∷ line)
line_more c line n h = record { front = c ∷ h.front; is = ap (λ (l : List ℕ). c ∷ l) h.is; one = no_feed_more c h.front n h.one }

-- the bytes through the first line feed are a line, or there is none and nothing is left
through_if : (x : ℕ) (xs : List ℕ) (b : Bool) → (x == 10) ≡ b → IsLine (take_through 10 xs) ⊎ (drop_through 10 xs ≡ [])
    → IsLine (if b then x ∷ [] else x ∷ take_through 10 xs) ⊎ ((if b then xs else drop_through 10 xs) ≡ [])
through_if x xs true e h = inl (record { front = []; is = ap (λ (c : ℕ). c ∷ []) (eqb-true x 10 e); one = no_feed })
through_if x xs false e (inl line) = inl (line_more x (take_through 10 xs) (λ same. both_ways (x == 10) e (eq-eqb x 10 same)) line)
through_if x xs false e (inr none) = inr none

through : (xs : List ℕ) → IsLine (take_through 10 xs) ⊎ (drop_through 10 xs ≡ [])
through [] = inr refl
through (x ∷ xs) = through_if x xs (x == 10) refl (through xs)

cons_empty : (x : ℕ) (xs : List ℕ) → [] ≡ x ∷ xs → ⊥
cons_empty x xs e = let h : 0 ≡ length (x ∷ xs) = ap length e in omega arith

none_through_if : (x : ℕ) (xs : List ℕ) (b : Bool) → (if b then x ∷ [] else x ∷ take_through 10 xs) ≡ [] → ⊥
none_through_if x xs true e = cons_empty x [] (sym e)
none_through_if x xs false e = cons_empty x (take_through 10 xs) (sym e)

none_through : (xs : List ℕ) → take_through 10 xs ≡ [] → drop_through 10 xs ≡ []
none_through [] e = refl
none_through (x ∷ xs) e = absurd (none_through_if x xs (x == 10) e)

pub line_read : (a b : Option (List ℕ)) (old line : List ℕ) → old ≡ [] → Consumes a b (drop (length old) line) → IfSome a (λ xs. line ≡ old ++ take_through 10 xs) → DropsThrough a b 10 → ReadsLine a b line
line_read None b old line e h bytes rest =
    record { consumes = subst (λ (l : List ℕ). Consumes None b (drop (length l) line)) e h; none = λ _. tt; is_line = tt }
line_read (Some xs) b old line e h bytes rest =
    let is : line ≡ take_through 10 xs = bytes ∙ ap (λ (l : List ℕ). l ++ take_through 10 xs) e in
    record {
      consumes = subst (λ (l : List ℕ). Consumes (Some xs) b (drop (length l) line)) e h;
      none = λ empty. subst IsAtEnd (sym rest) (none_through xs (sym is ∙ empty));
      is_line =
          elim (through xs) [
            | inl one ↦ inl (subst IsLine (sym is) one)
            | inr none ↦ inr (subst IsAtEnd (sym rest) none)
          ];
    }

-- ---- lines

-- so many lines were passed, and they name this length
pub record Passed (old new : Option (List ℕ)) (count : ℕ) (found : Option ℕ) : Type 0 where
  pub lines : List (List ℕ)
  pub is_count : length lines ≡ count
  pub passes : Passes old new lines
  pub names : found ≡ length_among lines

no_lines : (P : List ℕ → Type 0) → All P []
no_lines P k d h = absurd (omega arith)

at_start : (old : Option (List ℕ)) → IfSome old (λ _. All IsLine [] ⊎ IsAtEnd old)
at_start None = tt
at_start (Some xs) = inl (no_lines IsLine)

pub passed_none : (old : Option (List ℕ)) → Passed old old 0 None
passed_none old = record { lines = []; is_count = refl; passes = record { consumes = Consumes-nil old; none_ends = no_lines (λ line. ends_header line ≡ false); are_lines = at_start old }; names = refl }

joined_more : (lines : List (List ℕ)) (line : List ℕ) → joined (lines ++ line ∷ []) ≡ joined lines ++ line
joined_more lines line = flat_map-append _ lines (line ∷ []) ∙ ap (λ l. joined lines ++ l) (append-nil line)

found_more : (lines : List (List ℕ)) (line : List ℕ) (found : Option ℕ) → fold (λ found line. later found (length_in line)) found (lines ++ line ∷ []) ≡ later (fold (λ found line. later found (length_in line)) found lines) (length_in line)
found_more [] line found = refl
found_more (l ∷ lines) line found = found_more lines line (later found (length_in l))

-- nothing is left after the end
none_after : (ys line : List ℕ) (c : Option (List ℕ)) → ys ≡ [] → Consumes (Some ys) c line → line ≡ []
none_after ys [] c e h = refl
none_after ys (x ∷ line) None e h = absurd h
none_after ys (x ∷ line) (Some zs) e h = absurd (cons_empty x (line ++ zs) (sym e ∙ h))

-- where a line comes, those before it are whole
whole_before : (a b c : Option (List ℕ)) (text : List ℕ) (lines : List (List ℕ)) (line : List ℕ) → Consumes a b text → IfSome a (λ _. All IsLine lines ⊎ IsAtEnd b) → Consumes b c line → (line ≡ [] → ⊥)
    → IfSome a (λ _. All IsLine lines)
whole_before None b c text lines line h are k some = tt
whole_before (Some xs) None c text lines line h are k some = absurd h
whole_before (Some xs) (Some ys) c text lines line h are k some =
    elim are [
      | inl all ↦ all
      | inr end ↦ absurd (some (none_after ys line c end k))
    ]

-- what is known of the bytes is known after some were read
lines_more : (a b c : Option (List ℕ)) (text : List ℕ) (lines : List (List ℕ)) (line : List ℕ) → Consumes a b text → IfSome a (λ _. All IsLine lines) → IfSome b (λ _. IsLine line ⊎ IsAtEnd c)
    → IfSome a (λ _. All IsLine (lines ++ line ∷ []) ⊎ IsAtEnd c)
lines_more None b c text lines line h all is = tt
lines_more (Some xs) None c text lines line h all is = absurd h
lines_more (Some xs) (Some ys) c text lines line h all is =
    elim is [
      | inl one ↦ inl (All-push IsLine lines line all one)
      | inr end ↦ inr end
    ]

-- one line more, which doesn't end the header
pub passed_more : (a b c : Option (List ℕ)) (count : ℕ) (found next : Option ℕ) (line : List ℕ) → Passed a b count found → ReadsLine b c line → (line ≡ [] → ⊥) → ends_header line ≡ false
    → next ≡ later found (length_in line) → Passed a c (count + 1) next
passed_more a b c count found next line h k some other e = record {
  lines = h.lines ++ line ∷ [];
  is_count = length-append h.lines (line ∷ []) ∙ ap (λ n. n + 1) h.is_count;
  passes = record {
    consumes = subst (Consumes a c) (sym (joined_more h.lines line)) (Consumes-trans a b c (joined h.lines) line h.passes.consumes k.consumes);
    none_ends = All-push (λ (l : List ℕ). ends_header l ≡ false) h.lines line h.passes.none_ends other;
    are_lines =
        lines_more a b c (joined h.lines) h.lines line h.passes.consumes
        (whole_before a b c (joined h.lines) h.lines line h.passes.consumes h.passes.are_lines k.consumes some) k.is_line;
  };
  names = e ∙ ap (λ o. later o (length_in line)) h.names ∙ sym (found_more h.lines line None);
}

header_of : (a : Option (List ℕ)) (found : Option ℕ) (lines : List (List ℕ)) (line : List ℕ) → IfSome a (λ _. All IsLine lines) → All (λ l. ends_header l ≡ false) lines → ends_header line ≡ true
    → found ≡ length_among lines → IfSome a (λ _. IsHeader (joined lines ++ line) found)
header_of None found lines line all none last names = tt
header_of (Some xs) found lines line all none last names = record { lines = lines; last = line; is = refl; are_lines = all; none_ends = none; ends = last; names = names }

-- the last line
begins : (a b c : Option (List ℕ)) (count : ℕ) (found : Option ℕ) (line : List ℕ) → Passed a b count found → ReadsLine b c line → (line ≡ [] → ⊥) → ends_header line ≡ true → BeginsWithHeader a c found
begins a b c count found line h k some last = record {
  header = joined h.lines ++ line;
  is_header =
      header_of a found h.lines line (whole_before a b c (joined h.lines) h.lines line h.passes.consumes h.passes.are_lines k.consumes some) h.passes.none_ends last h.names;
  consumes = Consumes-trans a b c (joined h.lines) line h.passes.consumes k.consumes;
}

ended_as : (a c : Option (List ℕ)) (found : Option ℕ) (header : Header) → BeginsWithHeader a c found → IsEnded found header → ReadsHeader a c header
ended_as a c None header h e = subst (ReadsHeader a c) (sym e) (inl h)
ended_as a c (Some count) header h e = subst (ReadsHeader a c) (sym e) h

pub passed_all : (a b c : Option (List ℕ)) (count : ℕ) (found : Option ℕ) (line : List ℕ) (header : Header) → Passed a b count found → ReadsLine b c line → (line ≡ [] → ⊥) → ends_header line ≡ true
    → IsEnded found header → ReadsHeader a c header
passed_all a b c count found line header h k some last e = ended_as a c found header (begins a b c count found line h k some last) e

-- the end of the input
end_after : (a b c : Option (List ℕ)) (text : List ℕ) → Consumes a b text → IfSome b (λ _. IsAtEnd c) → IfSome a (λ _. IsAtEnd c)
end_after None b c text h end = tt
end_after (Some xs) None c text h end = absurd h
end_after (Some xs) (Some ys) c text h end = end

pub passed_to_end : (a b c : Option (List ℕ)) (count : ℕ) (found : Option ℕ) (line : List ℕ) → Passed a b count found → ReadsLine b c line → line ≡ [] → ReadsToEnd a c
passed_to_end a b c count found line h k none = record {
  bytes = joined h.lines ++ line;
  consumes = Consumes-trans a b c (joined h.lines) line h.passes.consumes k.consumes;
  all = end_after a b c (joined h.lines) h.passes.consumes (k.none none);
}

-- as many lines as a header has at most
pub passed_most : (a b : Option (List ℕ)) (count : ℕ) (found : Option ℕ) → Passed a b count found → count ≡ MOST_LINES → BeginsWithFields a b
passed_most a b count found h e = record { lines = h.lines; count = h.is_count ∙ e; passes = h.passes }

pub is_none : (line : List ℕ) (empty : Bool) → empty ≡ (length line == 0) → empty ≡ true → line ≡ []
is_none [] empty e t = refl
is_none (x ∷ line) empty e t = absurd (never_none x line (sym e ∙ t))

pub is_some : (line : List ℕ) (empty : Bool) → empty ≡ (length line == 0) → empty ≡ false → line ≡ [] → ⊥
is_some line empty e f none = absurd (both_ways empty f (e ∙ ap (λ (l : List ℕ). length l == 0) none))

-- ---- bodies

pub with_body : (a b c : Option (List ℕ)) (count : ℕ) (body : List ℕ) → BeginsWithHeader a b (Some count) → Consumes b c body → length body ≡ count → BeginsWithMessage a c body
with_body a b c count body h k e = record { between = b; header = subst (λ n. BeginsWithHeader a b (Some n)) (sym e) h; consumes = k }

-- so many bytes are left to pass over
pub record Skipped (count left : ℕ) (old new : Option (List ℕ)) : Type 0 where
  pub bytes : List ℕ
  pub is_length : length bytes + left ≡ count
  pub consumes : Consumes old new bytes

pub skipped_none : (count : ℕ) (old : Option (List ℕ)) → Skipped count count old old
skipped_none count old = record { bytes = []; is_length = omega arith; consumes = Consumes-nil old }

pub skipped_more : (a b c : Option (List ℕ)) (count left n rest : ℕ) → Skipped count left a b → SkipsSome n b c → rest + n ≡ left → Skipped count rest a c
skipped_more a b c count left n rest h k e = record {
  bytes = h.bytes ++ k.bytes;
  is_length = let l : length (h.bytes ++ k.bytes) ≡ length h.bytes + length k.bytes = length-append h.bytes k.bytes in let m : length k.bytes ≡ n = k.is_length in let s : length h.bytes + left ≡ count = h.is_length in omega arith;
  consumes = Consumes-trans a b c h.bytes k.bytes h.consumes k.consumes;
}

pub skipped_all : (a b : Option (List ℕ)) (count left : ℕ) → Skipped count left a b → left ≡ 0 → Skips count a b
skipped_all a b count left h e = record { bytes = h.bytes; consumes = h.consumes; all = inl (let s : length h.bytes + left ≡ count = h.is_length in omega arith) }

pub skipped_to_end : (a b c : Option (List ℕ)) (count left n : ℕ) → Skipped count left a b → SkipsSome n b c → n ≡ 0 → Skips count a c
skipped_to_end a b c count left n h k e =
    record { bytes = h.bytes ++ k.bytes; consumes = Consumes-trans a b c h.bytes k.bytes h.consumes k.consumes; all = inr (k.none e) }

-- ---- what is written

pub on_ok : {A E : Type 0} (r : Result A E) (P : Type 0) → P → OnOk r P
on_ok (Ok a) P p = p
on_ok (Err e) P p = tt

pub both_written : {E : Type 0} (r : Result (Unit {0}) E) (a b c d : Option (List ℕ)) (header body : List ℕ) → Appends a b header → Appends b c body → Keeps c d → OnOk r (Appends a d (header ++ body))
both_written r a b c d header body h k kept = on_ok r _ (Appends-kept a c d (header ++ body) (Appends-trans a b c header body h k) kept)
