-- What is left of a text after its first lines.
use Rattle.std.proofs.Common.{◌≡◌, ◌∙◌, ◌<◌, ℕ, Bool, true, false, List, [], ◌∷◌, ◌==◌, arith, ap, cond, drop, length, refl, sym}
use Rattle.std.specs.List.{after_first, position_or_len, slice_split}
use Rattle.std.specs.Str.Lines.{lines, lines_of_parts}
use Rattle.std.proofs.lemmas.List.Splits.{length-slice_split, slice_split_first, slice_split_none}
use Rattle.std.proofs.lemmas.List.Sums.{fails_before_first}

abbrev ends_line : ℕ → Bool
ends_line b = b == 10

rest_of_parts : (part : List ℕ) (parts : List (List ℕ)) → 0 < length parts → drop 1 (lines_of_parts (part ∷ parts)) ≡ lines_of_parts parts
rest_of_parts part [] some = absurd (omega arith)
rest_of_parts part (next ∷ more) some = refl

-- a text with a line feed goes on after it
pub after_feed : (text rest : List ℕ) → position_or_len ends_line text < length text → rest ≡ after_first ends_line text → lines rest ≡ drop 1 (lines text)
after_feed text rest inside is =
    ap lines is
    ∙ sym (ap (λ parts. drop 1 (lines_of_parts parts)) (slice_split_first ends_line text 0 inside)
    ∙ rest_of_parts _ (slice_split ends_line (after_first ends_line text)) (omega (arith, length-slice_split ends_line (after_first ends_line text))))

one_line : (text : List ℕ) → (b : Bool) → drop 1 (cond b [] (text ∷ [])) ≡ []
one_line text true = refl
one_line text false = refl

-- nothing comes after the only line
pub no_feed : (text : List ℕ) → position_or_len ends_line text ≡ length text → [] ≡ drop 1 (lines text)
no_feed text all =
    sym (ap (λ parts. drop 1 (lines_of_parts parts)) (slice_split_none ends_line text (λ k d inside. fails_before_first ends_line text k d (omega arith)))
    ∙ one_line text (length text == 0))
