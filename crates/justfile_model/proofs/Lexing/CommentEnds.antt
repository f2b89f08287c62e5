-- A comment ends before a line feed: its text has no line feed, and doesn't end in a carriage return.
use Rattle.std.proofs.Common.{◌≡◌, ℕ, suc, ◌<◌, ◌≤◌, Bool, true, false, cond, eqb, List, [], ◌∷◌, ◌++◌, length, get_or, refl, sym, ap, ◌∙◌, subst, arith, length-append}
use Rattle.std.specs.Prelude.{◌&&◌, ◌||◌}
use Rattle.std.specs.Char.{is_whitespace}
use Rattle.std.specs.List.{AllByRecursion}
use Rattle.std.specs.Str.{drop_trailing_whitespace}
use Rattle.std.proofs.Math.Utf8.{encode, encodes}
use Rattle.std.proofs.lemmas.Bool.Decides.{nat_tests}
use Rattle.std.proofs.lemmas.List.{append-nil}
use Rattle.std.proofs.lemmas.Str.{inside_one, length-encode, len_utf8_bounds}
use Rattle.justfile_model.specs.declared.raw_text.RawText.TheVariants as raw_texts
use Rattle.justfile_model.specs.Lexing.LiteralText.{pieces_len, raw_len}
use Rattle.justfile_model.specs.Printed.Printing.{ends_in_return}

-- ---- no carriage return at the end

record ReturnAt (xs : List ℕ) : Type 0 where
  at : ℕ
  within : at < length xs
  is : get_or xs at 0 ≡ 13

return_at : (xs : List ℕ) → ends_in_return xs ≡ true → ReturnAt xs
return_at [] h = cc
return_at (x ∷ []) h = record { at = 0; within = omega arith; is = grind (arith, nat_tests) }
return_at (x ∷ y ∷ ys) h = let r = return_at (y ∷ ys) h in record { at = suc r.at; within = omega (arith, r.within); is = r.is }

ends_after : (xs : List ℕ) (y : ℕ) (ys : List ℕ) → ends_in_return (xs ++ (y ∷ ys)) ≡ ends_in_return (y ∷ ys)
ends_after [] y ys = refl
ends_after (x ∷ []) y ys = refl
ends_after (x ∷ z ∷ xs) y ys = ends_after (z ∷ xs) y ys

-- a character that ends in a return byte is the return
char_end : (c : ℕ) → is_whitespace c ≡ false → ends_in_return (encode c ++ []) ≡ false
char_end c h = by (ends_in_return (encode c ++ [])) refl
  where
    by : (b : Bool) → ends_in_return (encode c ++ []) ≡ b → b ≡ false
    by false e = refl
    by true e =
        let r = return_at (encode c ++ []) e in
        let is : c ≡ 13 = inside_one c [] (encode c ++ []) r.at refl (subst (λ l. r.at < length l) (append-nil (encode c)) r.within) (omega (arith, r.is)) ∙ r.is in
        let bad : true ≡ false = sym (ap is_whitespace is) ∙ h in
        cc

record Nonempty (xs : List ℕ) : Type 0 where
  head : ℕ
  tail : List ℕ
  is : xs ≡ head ∷ tail

nonempty : (xs : List ℕ) → 0 < length xs → Nonempty xs
nonempty [] h = absurd (omega arith)
nonempty (x ∷ xs) h = record { head = x; tail = xs; is = refl }

encodes_some : (c : ℕ) (cs : List ℕ) → Nonempty (encodes (c ∷ cs))
encodes_some c cs = nonempty (encodes (c ∷ cs)) (omega (arith, length-append (encode c) (encodes cs), length-encode c, (len_utf8_bounds c).0))

kept_tail : (b : Bool) (c d : ℕ) (l ds : List ℕ) → cond b [] (c ∷ l) ≡ c ∷ d ∷ ds → l ≡ d ∷ ds
kept_tail true c d l ds h = cc
kept_tail false c d l ds h = cc

kept_last : (b : Bool) (c : ℕ) → cond (b && true) [] (c ∷ []) ≡ c ∷ [] → b ≡ false
kept_last true c h = cc
kept_last false c h = refl

-- characters without whitespace at their end
pub no_return : (ds : List ℕ) → drop_trailing_whitespace ds ≡ ds → ends_in_return (encodes ds) ≡ false
no_return [] h = refl
no_return (c ∷ []) h = char_end c (kept_last (is_whitespace c) c h)
no_return (c ∷ d ∷ ds) h =
    let more = encodes_some d ds in
    let ih = no_return (d ∷ ds) (kept_tail (is_whitespace c && eqb (length (drop_trailing_whitespace (d ∷ ds))) 0) c d (drop_trailing_whitespace (d ∷ ds)) ds h) in
    ap (λ l. ends_in_return (encode c ++ l)) more.is ∙ ends_after (encode c) more.head more.tail ∙ ap ends_in_return (sym more.is) ∙ ih

-- ---- texts without a line feed

-- a comment with this text ends before a line feed, with any text after it
abbrev pub EndsBeforeFeed : List ℕ → Type 0
EndsBeforeFeed t = (more : List ℕ) → raw_len raw_texts.Comment (t ++ (10 ∷ more)) ≡ length t

abbrev pub NoFeeds : List ℕ → Type 0
NoFeeds t = AllByRecursion (λ b. eqb b 10 ≡ false) t

-- the bytes of a comment have no line feed
step_back : (a b c : Bool) (n m : ℕ) → suc m ≤ cond (a || (b && c)) 0 (suc n) → (a ≡ false) × (m ≤ n)
step_back a b c n m h = (grind (arith, nat_tests), grind (arith, nat_tests))

feed_back : (b : ℕ) (bs rest : List ℕ) → suc (length bs) ≤ raw_len raw_texts.Comment (b ∷ bs ++ rest)
    → (eqb b 10 ≡ false) × (length bs ≤ raw_len raw_texts.Comment (bs ++ rest))
unfolding pieces_len
feed_back b bs rest h = step_back (eqb b 10) (eqb b 13) (eqb (get_or (bs ++ rest) 0 0) 10) (raw_len raw_texts.Comment (bs ++ rest)) (length bs) h

pub no_feeds : (t rest : List ℕ) → length t ≤ raw_len raw_texts.Comment (t ++ rest) → NoFeeds t
no_feeds [] rest h = tt
no_feeds (b ∷ bs) rest h = let f = feed_back b bs rest h in (f.0, no_feeds bs rest f.1)

-- a text without a line feed, and without a return at its end
pub ends_before_feed : (t : List ℕ) → NoFeeds t → ends_in_return t ≡ false → EndsBeforeFeed t
unfolding pieces_len
ends_before_feed [] h e more = refl
ends_before_feed (x ∷ []) h e more = λ i. cond (h.0 i || (e i && true)) 0 1
ends_before_feed (x ∷ y ∷ ys) h e more = by (eqb x 10) (eqb x 13) (eqb y 10) h.0 h.1.0 (ends_before_feed (y ∷ ys) h.1 e more)
  where
    by : (a b c : Bool) → a ≡ false → c ≡ false → raw_len raw_texts.Comment (y ∷ ys ++ (10 ∷ more)) ≡ suc (length ys)
        → cond (a || (b && c)) 0 (suc (raw_len raw_texts.Comment (y ∷ ys ++ (10 ∷ more)))) ≡ suc (suc (length ys))
    by true b c f g ih = cc
    by false true true f g ih = cc
    by false true false f g ih = ap suc ih
    by false false c f g ih = ap suc ih
