-- The texts of the literals that are printed for numbers and signals.
use Rattle.std.proofs.Common.{◌≡◌, ◌∙◌, ℕ, suc, ◌-◌, ◌^◌, ◌<◌, Bool, true, false, cond, ◌&&◌, ◌==◌, nat_lt, List, [], ◌∷◌, ◌++◌, length, take, get_or, slice_index, Some, None, Ok, codes, decimal, refl, sym, ap, subst, arith, true≢false, length-append, ltb-true, inl, inr}
use Rattle.std.proofs.lemmas.Bool.{and_parts}
use Rattle.std.proofs.lemmas.Bool.Decides.{eqb_tells, nat_tests}
use Rattle.std.proofs.lemmas.Fmt.{decimal-digits_value}
use Rattle.std.proofs.Math.Seq.{take-append_seam}
use Rattle.std.proofs.lemmas.Str.Parse.{numerals_by_value, tells_digits}
use Rattle.std.specs.Char.{digit_value, encode_utf8}
use Rattle.std.specs.Option.{is_some}
use Rattle.std.specs.Str.{chars}
use Rattle.std.specs.Str.Parse.{AllDigits, digits_value}
use Rattle.justfile_vocabulary.specs.Signal.{signal_name}
use Rattle.justfile_vocabulary.specs.declared.signal.Signal.{Signal}
use Rattle.justfile_vocabulary.specs.declared.signal.Signal.TheVariants.{Hangup, Interrupt, Quit}
use Rattle.justfile_model.specs.LiteralTexts.FirstPiece.{cook_within}
use Rattle.justfile_model.specs.LiteralTexts.Literals.{string_text, between}
use Rattle.justfile_model.specs.LiteralTexts.Unindent.{unindented}
use Rattle.justfile_model.specs.Meanings.Meaning.{is_count, count_of}
use Rattle.justfile_model.specs.Printed.Printing.{fixed_text}
use Rattle.justfile_model.proofs.Lists.CountLaws.{all_digits, digits_of_count}

-- ---- numbers

-- facts about the text of a count
pub record Count (text : List ℕ) : Type 0 where
  pub some : 0 < length text
  pub digits : AllDigits 10 text
  pub lead : get_or text 0 0 ≡ 48 → length text ≡ 1

lead : (text : List ℕ) → is_count text ≡ true → get_or text 0 0 ≡ 48 → length text ≡ 1
lead [] e z = cc
lead (b ∷ []) e z = refl
lead (b ∷ c ∷ cs) e z = absurd (grind (arith, nat_tests))

pub count_is : (text : List ℕ) → is_count text ≡ true → Count text
count_is text e = let d = digits_of_count text e in record { some = d.0; digits = all_digits text d.1; lead = lead text e }

-- a count is what is printed of its number
pub decimal_count : (text : List ℕ) → is_count text ≡ true → digits_value 10 text < 2 ^ 64 → decimal (digits_value 10 text) ≡ text
decimal_count text e small =
    let c = count_is text e in decimal-digits_value (numerals_by_value (AllDigits 10) tells_digits) text c.digits c.some c.lead small

-- the number of a count, and its text again
pub record Counted (text : List ℕ) (n : ℕ) : Type 0 where
  pub counts : is_count text ≡ true
  pub printed : decimal n ≡ text

pub counted : (text : List ℕ) (n : ℕ) → count_of text ≡ Some n → Counted text n
counted text n e = go (is_count text && nat_lt (digits_value 10 text) (2 ^ 64)) refl e
  where
    go : (b : Bool) → (is_count text && nat_lt (digits_value 10 text) (2 ^ 64)) ≡ b → cond b (Some (digits_value 10 text)) None ≡ Some n → Counted text n
    go true t f =
        let x = and_parts (is_count text) (nat_lt (digits_value 10 text) (2 ^ 64)) t in
        let same : digits_value 10 text ≡ n = cc in
        record { counts = x.0; printed = ap decimal (sym same) ∙ decimal_count text x.0 (ltb-true (digits_value 10 text) (2 ^ 64) x.1) }
    go false t f = absurd (true≢false (sym (ap is_some f)))

-- ---- literals in quotes

not_quote : (b : ℕ) → digit_value b < 10 → (b == 39) ≡ false
not_quote b h = elim (eqb_tells b 39) [
  | inl p ↦ absurd (let d : digit_value 39 < 10 = subst (λ c. digit_value c < 10) p.1 h in omega arith)
  | inr q ↦ q.0
]

shorter : (ds : List ℕ) → suc (length (ds ++ 39 ∷ [])) - 2 ≡ length ds
shorter ds = omega (arith, length-append ds (39 ∷ []))

inside : (ds : List ℕ) → take (suc (length (ds ++ 39 ∷ [])) - 2) (ds ++ 39 ∷ []) ≡ ds
inside ds = ap (λ n. take n (ds ++ 39 ∷ [])) (shorter ds) ∙ take-append_seam ds (39 ∷ [])

-- digits between single quotes
pub quoted_digits : (ds : List ℕ) → 0 < length ds → AllDigits 10 ds → string_text (fixed_text (codes "'") ++ ds ++ fixed_text (codes "'")) ≡ Ok ds
unfolding fixed_text
quoted_digits [] some h = absurd (omega arith)
quoted_digits (d ∷ ds) some h =
    let lexeme = 39 ∷ d ∷ ds ++ 39 ∷ [] in
    let single : (d == 39) ≡ false = not_quote d h.0 in
    let third : Bool = slice_index lexeme 2 == 39 in
    ap Ok
    ((λ i. cond (single i && third) (unindented (between (cond (single i && third) 3 1) (cond (single i && third) 3 1) lexeme))
    (between (cond (single i && third) 3 1) (cond (single i && third) 3 1) lexeme))
    ∙ inside (d ∷ ds))

-- ---- signals

-- the name of a signal between double quotes
pub quoted_signal : (s : Signal) → string_text (fixed_text (codes "\"") ++ fixed_text (signal_name s) ++ fixed_text (codes "\"")) ≡ Ok (signal_name s)
unfolding fixed_text cook_within chars encode_utf8
quoted_signal Hangup = refl
quoted_signal Interrupt = refl
quoted_signal Quit = refl
