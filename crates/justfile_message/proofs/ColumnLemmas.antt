-- Invariants of the loops over the characters of a line.
use Rattle.std.proofs.Common.{◌≡◌, ℕ, zero, suc, ◌+◌, ◌<◌, ◌≤◌, ◌^◌, ◌/◌, ◌%◌, max, if◌then◌else◌, Bool, true, false, ◌&&◌, List, [], ◌∷◌, ◌++◌, IsUtf8, length, take, drop, get_or, sym, ap, subst, ◌∙◌, arith, append_assoc, append-nil, length-append, zero-add, suc-add}
use Rattle.std.specs.Prelude.{chars, codes, encode_utf8, filter, nat_le, nat_lt, sum_by}
use Rattle.std.proofs.Common.{refl}
use lib.Utf8.{encodes}
use Rattle.std.specs.List.{flat_map, repeat}
use Rattle.std.specs.Fmt.{IsDefaultSpec, IsPlainFormatter, HasWritten, HasWrittenStyled, decimal}
use Rattle.std.specs.Str.{IsCharBoundary, NoCharPasses, NonePass}
use Rattle.std.specs.Str.Pattern.{HasCharAt}
use Rattle.std.specs.Str.Iter.{char_indices_rest, char_indices_offset, char_indices_steps}
use Rattle.std.specs.declared.fmt.Formatter.{Formatter}
use Rattle.std.proofs.lemmas.Bool.Decides.{Decides-ltb}
use Rattle.std.proofs.lemmas.Fmt.{decimal_step_wide}
use Rattle.std.proofs.lemmas.Iterator.{YieldsList}
use Rattle.std.proofs.lemmas.Iterator.Splits.{YieldsList-from_shown_while}
use Rattle.std.proofs.lemmas.List.{nil_from_length, take-append-drop, take_more}
use Rattle.std.proofs.lemmas.List.Concat.{flat_map-append}
use Rattle.std.proofs.lemmas.List.Elements.{filter-append}
use Rattle.std.proofs.lemmas.List.Sums.{sum_by-append}
use Rattle.std.proofs.lemmas.Str.{IsUtf8-drop, IsUtf8-past_char, chars_from_encodes, chars_past_char, chars-nil, encodes-append, encodes-chars}
use Rattle.justfile_message.specs.Columns.{is_among, is_tab, placed_from, shown_character, shown_line, width_among, width_of}

-- the characters of a line come with their places
pub YieldsList-from_char_indices : {s : _} (line : List ℕ) → IsUtf8 line → char_indices_rest s ≡ line → char_indices_offset s ≡ 0
    → YieldsList char_indices_steps (λ p. p) s (placed_from 0 (chars line))
YieldsList-from_char_indices {s} line utf8 rest offset =
    subst (YieldsList char_indices_steps (λ p. p) s) (λ i. placed_from (offset i) (chars (rest i)))
    (YieldsList-from_shown_while char_indices_steps (λ p. p) (λ t. placed_from (char_indices_offset t) (chars (char_indices_rest t))) (λ t. IsUtf8 (char_indices_rest t))
    (λ t u h step. ap (λ bs. length (placed_from (char_indices_offset t) (chars bs))) (nil_from_length _ step.0) ∙ ap (λ cs. length (placed_from (char_indices_offset t) cs)) chars-nil)
    (λ t p u h step. (
      IsUtf8-past_char _ _ _ h step.1,
      ap (placed_from (char_indices_offset t)) (chars_past_char _ _ _ h step.1)
          ∙ (λ i. (sym step.0 i, p.1) ∷ placed_from (sym step.2 i) (chars (char_indices_rest u))),
    ))
    s (subst IsUtf8 (sym rest) utf8))

pub repeat-add : {A : Type 0} (m n : ℕ) (xs : List A) → repeat (m + n) xs ≡ repeat m xs ++ repeat n xs
repeat-add zero n xs = ap (λ k. repeat k xs) (zero-add n)
repeat-add (suc m) n xs = ap (λ k. repeat k xs) (suc-add m n) ∙ ap (λ ys. xs ++ ys) (repeat-add m n xs) ∙ sym (append_assoc xs (repeat m xs) (repeat n xs))

pub width_among-append : (start count : ℕ) (xs ys : List (ℕ × ℕ)) → width_among start count (xs ++ ys) ≡ width_among start count xs + width_among start count ys
width_among-append start count xs ys =
    ap (sum_by (λ p. width_of p.1)) (filter-append (λ p. is_among start count p.0) xs ys)
    ∙ sum_by-append (λ p. width_of p.1) (filter (λ p. is_among start count p.0) xs) (filter (λ p. is_among start count p.0) ys)

-- a character counts if its place is in the range
pub width_among-in : (start count : ℕ) (p : ℕ × ℕ) → is_among start count p.0 ≡ true → width_among start count (p ∷ []) ≡ width_of p.1
width_among-in start count p inside = ap (λ (b : Bool). sum_by (λ (q : ℕ × ℕ). width_of q.1) (if b then p ∷ [] else [])) inside ∙ zero-add (width_of p.1)

-- a character in the range adds its width
pub width_among-push_in : (start count : ℕ) (xs : List (ℕ × ℕ)) (p : ℕ × ℕ) → is_among start count p.0 ≡ true
    → width_among start count (xs ++ p ∷ []) ≡ width_among start count xs + width_of p.1
width_among-push_in start count xs p inside =
    width_among-append start count xs (p ∷ []) ∙ ap (λ n. width_among start count xs + n) (width_among-in start count p inside)

-- the first characters take no more columns than all
pub width_among-front : (start count : ℕ) (all xs : List (ℕ × ℕ)) (p : ℕ × ℕ) → xs ≡ take (length xs) all → (length xs < length all) × (p ≡ get_or all (length xs) p)
    → width_among start count (xs ++ p ∷ []) ≤ width_among start count all
width_among-front start count all xs p front turn =
    let n = length xs in
    let pushed : take (n + 1) all ≡ xs ++ p ∷ [] =
    take_more all n p turn.0 ∙ (λ i. sym front i ++ sym turn.1 i ∷ []) in
    let whole : width_among start count all ≡ width_among start count (take (n + 1) all) + width_among start count (drop (n + 1) all) =
    ap (width_among start count) (sym (take-append-drop (n + 1) all)) ∙ width_among-append start count (take (n + 1) all) (drop (n + 1) all) in
    let same = ap (width_among start count) pushed in
    omega (arith, whole, same)

second_true : (a b : Bool) → (a && b) ≡ true → b ≡ true
second_true true b h = h
second_true false b h = absurd cc

-- a character after the range takes none of its columns
width_among-out : (start count : ℕ) (p : ℕ × ℕ) → start + count ≤ p.0 → width_among start count (p ∷ []) ≡ 0
width_among-out start count p past = go (is_among start count p.0) refl
  where
    go : (b : Bool) → is_among start count p.0 ≡ b → width_among start count (p ∷ []) ≡ 0
    go true e =
        let before = (Decides-ltb p.0 (start + count)).0 (second_true (nat_le start p.0) (nat_lt p.0 (start + count)) e) in
        absurd (omega (arith, past, before))
    go false e = ap (λ (b : Bool). sum_by (λ (q : ℕ × ℕ). width_of q.1) (if b then p ∷ [] else [])) e

none_among : (start count place : ℕ) (cs : List ℕ) → start + count ≤ place → width_among start count (placed_from place cs) ≡ 0
none_among start count place [] past = refl
none_among start count place (c ∷ cs) past =
    let rest = place + length (encode_utf8 c) in
    width_among-append start count ((place, c) ∷ []) (placed_from rest cs)
    ∙ ap (λ n. n + width_among start count (placed_from rest cs)) (width_among-out start count (place, c) past)
    ∙ ap (λ n. 0 + n) (none_among start count rest cs (omega (arith, past)))

-- from a character after the range on, no character takes a column of the range
pub width_among-past : (start count place : ℕ) (cs : List ℕ) (n : ℕ) (p : ℕ × ℕ) → n < length (placed_from place cs) → p ≡ get_or (placed_from place cs) n p → start + count ≤ p.0
    → width_among start count (placed_from place cs) ≡ width_among start count (take n (placed_from place cs))
width_among-past start count place [] n p within is past = absurd (omega (arith, within))
width_among-past start count place (c ∷ cs) zero p within is past = none_among start count place (c ∷ cs) (subst (λ (q : ℕ × ℕ). start + count ≤ q.0) is past)
width_among-past start count place (c ∷ cs) (suc n) p within is past =
    let rest = placed_from (place + length (encode_utf8 c)) cs in
    width_among-append start count ((place, c) ∷ []) rest
    ∙ ap (λ w. width_among start count ((place, c) ∷ []) + w) (width_among-past start count (place + length (encode_utf8 c)) cs n p (omega (arith, within)) is past)
    ∙ sym (width_among-append start count ((place, c) ∷ []) (take n rest))

-- at least one repetition: the same number if it isn't 0, and one otherwise
pub repeat-max : {A : Type 0} (n : ℕ) (xs : List A) → 0 < n → repeat (max 1 n) xs ≡ repeat n xs
repeat-max n xs some = let same : max 1 n ≡ n = omega arith in ap (λ k. repeat k xs) same

pub repeat-max_none : {A : Type 0} (n : ℕ) (xs : List A) → ¬ (0 < n) → repeat (max 1 n) xs ≡ xs
repeat-max_none n xs none = let one : max 1 n ≡ 1 = omega arith in ap (λ k. repeat k xs) one ∙ append-nil xs

-- a number of two digits or more has one digit more than its tenth
pub length-decimal_step : (n : ℕ) → 10 ≤ n → n < 10 ^ 64 → length (decimal n) ≡ length (decimal (n / 10)) + 1
length-decimal_step n more fits = ap length (decimal_step_wide n more fits) ∙ length-append (decimal (n / 10)) ((48 + n % 10) ∷ [])

-- a text that is written with any options of the formatter is written by a plain formatter
module _ {W : Type 0} (took : W → List ℕ → W → Type 0) where
  pub has_written_from_styled : (f g : Formatter W) (text : List ℕ) → IsPlainFormatter f → HasWrittenStyled took f text g → HasWritten took f text g
  has_written_from_styled f g text plain written = record {
    wrote = written.wrote;
    plain = record { bare = subst IsDefaultSpec (sym written.spec) plain.bare; flush = written.flush };
  }

-- a line without a tab shows as it is
plain_characters : (cs : List ℕ) → NonePass is_tab cs → flat_map shown_character cs ≡ encodes cs
plain_characters [] h = refl
plain_characters (c ∷ cs) h =
    ap (λ (b : Bool). (if b then codes "    " else encode_utf8 c) ++ flat_map shown_character cs) h.0 ∙ ap (λ l. encode_utf8 c ++ l) (plain_characters cs h.1)

pub shown_plain : (line : List ℕ) → IsUtf8 line → NoCharPasses is_tab line → shown_line line ≡ line
shown_plain line utf8 none = ap (flat_map shown_character) (sym (chars_from_encodes none.0 line utf8 none.1)) ∙ plain_characters none.0 none.2 ∙ none.1

-- a line is what is before its first tab, four spaces, and what is after the tab
module _ (line before after : List ℕ) (utf8 : IsUtf8 line) (after_utf8 : IsUtf8 after) (none : NoCharPasses is_tab before) (cut : line ≡ before ++ (encode_utf8 9 ++ after)) where
  parts : chars line ≡ none.0 ++ 9 ∷ chars after
  parts =
      sym (chars_from_encodes (none.0 ++ 9 ∷ chars after) line utf8
      (encodes-append none.0 (9 ∷ chars after) ∙ ap (λ l. l ++ encodes (9 ∷ chars after)) none.1 ∙ ap (λ l. before ++ (encode_utf8 9 ++ l)) (encodes-chars after after_utf8) ∙ sym cut))

  pub shown_tab : shown_line line ≡ before ++ (codes "    " ++ shown_line after)
  shown_tab =
      ap (flat_map shown_character) parts ∙ flat_map-append shown_character none.0 (9 ∷ chars after)
      ∙ ap (λ l. l ++ (codes "    " ++ shown_line after)) (plain_characters none.0 none.2 ∙ none.1)

-- of tabs that aren't written yet, one more
pub more_tabs : (text : List ℕ) (tabs : ℕ) (rest line : List ℕ) → (text ++ repeat tabs (codes "    ")) ++ (codes "    " ++ rest) ≡ line
    → (text ++ repeat (tabs + 1) (codes "    ")) ++ rest ≡ line
more_tabs text tabs rest line h =
    let spaces = codes "    " in
    ap (λ l. (text ++ l) ++ rest) (repeat-add tabs 1 spaces ∙ ap (λ l. repeat tabs spaces ++ l) (append-nil spaces))
    ∙ append_assoc text (repeat tabs spaces ++ spaces) rest ∙ ap (λ l. text ++ l) (append_assoc (repeat tabs spaces) spaces rest)
    ∙ sym (append_assoc text (repeat tabs spaces) (spaces ++ rest))
    ∙ h

-- a line that begins with a tab
pub shown_front_tab : (line after : List ℕ) → IsUtf8 line → IsUtf8 after → line ≡ encode_utf8 9 ++ after → shown_line line ≡ codes "    " ++ shown_line after
shown_front_tab line after utf8 after_utf8 cut = shown_tab line [] after utf8 after_utf8 ([], refl, tt) cut

-- what follows a tab is a text, and the line is what is before the tab, the tab, and what follows
pub after_tab : (line before after : List ℕ) (n m : ℕ) → IsUtf8 line → HasCharAt 9 line n m → before ≡ take n line → after ≡ drop m line
    → IsUtf8 after × (line ≡ before ++ (encode_utf8 9 ++ after))
after_tab line before after n m utf8 at front back = (
  subst IsUtf8 (sym back) (IsUtf8-drop line m utf8 (subst (IsCharBoundary line) (sym at.ends) at.after)),
  sym (take-append-drop n line) ∙ (λ k. sym front k ++ at.split k) ∙ ap (λ l. before ++ (encode_utf8 9 ++ l)) (sym back),
)
