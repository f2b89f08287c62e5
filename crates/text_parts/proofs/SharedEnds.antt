-- How many bytes two texts begin and end with.
use Rattle.std.proofs.Common.{◌≡◌, ◌∙◌, ℕ, ◌+◌, ◌-◌, ◌≤◌, Bool, true, false, not, List, ◌++◌, length, take, drop, refl, sym, ap, arith}
use Rattle.std.specs.Prelude.{nat_eq}
use Rattle.std.specs.Cmp.Lexicographic.{bytes_decides, pointwise}
use Rattle.std.proofs.Math.Seq.{take-add}
use Rattle.std.proofs.lemmas.List.{drop-drop, take-append-drop}

-- what a test of two blocks tells
not_other : (b : Bool) → false ≡ not b → b ≡ true
not_other true h = refl
not_other false h = h

pub same_block : (xs ys : List ℕ) → false ≡ not (pointwise nat_eq xs ys) → xs ≡ ys
same_block xs ys h = (bytes_decides xs ys).0 (not_other (pointwise nat_eq xs ys) h)

-- ---- the front

pub front_more : (old new : List ℕ) (n m : ℕ) → take n old ≡ take n new → take m (drop n old) ≡ take m (drop n new)
    → take (n + m) old ≡ take (n + m) new
front_more old new n m h e = take-add n m old ∙ (λ i. h i ++ e i) ∙ sym (take-add n m new)

-- ---- the end

-- an end of a text with more bytes
end_split : (text : List ℕ) (n m : ℕ) → n + m ≤ length text
    → drop (length text - (n + m)) text ≡ take m (drop (length text - (n + m)) text) ++ drop (length text - n) text
end_split text n m h =
    sym (take-append-drop m (drop (length text - (n + m)) text))
    ∙ ap (λ l. take m (drop (length text - (n + m)) text) ++ l)
    (drop-drop m (length text - (n + m)) text ∙ ap (λ k. drop k text) (omega (arith, h)))

pub end_more : (old new : List ℕ) (n m : ℕ) → n + m ≤ length old → n + m ≤ length new
    → drop (length old - n) old ≡ drop (length new - n) new
    → take m (drop (length old - (n + m)) old) ≡ take m (drop (length new - (n + m)) new)
    → drop (length old - (n + m)) old ≡ drop (length new - (n + m)) new
end_more old new n m in_old in_new h e =
    end_split old n m in_old ∙ (λ i. e i ++ h i) ∙ sym (end_split new n m in_new)
