-- Loops that keep some of the words.
use Rattle.std.proofs.Common.{◌≡◌, ◌∙◌, ◌+◌, ◌<◌, ◌≤◌, ◌==◌, ◌&&◌, ℕ, Bool, true, false, not, List, [], ◌∷◌, ◌++◌, append_assoc, append-nil, ap, sym, cond, drop, get_or, length}
use Rattle.std.proofs.lemmas.List.{drop_all, drop_more}
use Rattle.justfile_token.specs.declared.token.Token.{Token}
use Rattle.justfile_completion.specs.Kinds.{is_identifier}
use Rattle.justfile_completion.specs.Parameters.{named_after, precedes_other}
use Rattle.justfile_completion.specs.Words.{closed_before, outside}

-- an element is kept, or not
pub kept : {A : Type 0} (b : Bool) (found : List A) (x : A) (rest : List A) → (found ++ cond b (x ∷ []) []) ++ rest ≡ found ++ cond b (x ∷ rest) rest
kept true found x rest = append_assoc found (x ∷ []) rest
kept false found x rest = ap (λ l. l ++ rest) (append-nil found)

-- the rest of a list, by its first element
pub at_rest : {A : Type 0} (xs : List A) (i : ℕ) (x : A) → i < length xs → x ≡ get_or xs i x → drop i xs ≡ x ∷ drop (i + 1) xs
at_rest xs i x inside at = drop_more xs i x inside ∙ ap (λ y. y ∷ drop (i + 1) xs) (sym at)

pub outside_step : (found more all words : List Token) (closed i : ℕ) (x : Token) → i < length words → x ≡ get_or words i x → found ++ outside closed (drop i words) ≡ all → more ≡ found ++ cond (closed == 0) (x ∷ []) []
    → more ++ outside (closed_before closed x.kind) (drop (i + 1) words) ≡ all
outside_step found more all words closed i x inside at so_far e =
    let rest = outside (closed_before closed x.kind) (drop (i + 1) words) in
    ap (λ l. l ++ rest) e ∙ kept (closed == 0) found x rest ∙ ap (λ ws. found ++ outside closed ws) (sym (at_rest words i x inside at)) ∙ so_far

pub outside_end : (found all words : List Token) (closed i : ℕ) → length words ≤ i → found ++ outside closed (drop i words) ≡ all → found ≡ all
outside_end found all words closed i past so_far = sym (append-nil found) ∙ ap (λ ws. found ++ outside closed ws) (sym (drop_all i words past)) ∙ so_far

pub named_step : (found more all words : List Token) (before : Token) (i : ℕ) (x : Token) → i < length words → x ≡ get_or words i x → found ++ named_after before (drop i words) ≡ all
    → more ≡ found ++ cond (is_identifier x.kind && not (precedes_other before.kind)) (x ∷ []) [] → more ++ named_after x (drop (i + 1) words) ≡ all
named_step found more all words before i x inside at so_far e =
    let rest = named_after x (drop (i + 1) words) in
    ap (λ l. l ++ rest) e ∙ kept (is_identifier x.kind && not (precedes_other before.kind)) found x rest ∙ ap (λ ws. found ++ named_after before ws) (sym (at_rest words i x inside at)) ∙ so_far

pub named_end : (found all words : List Token) (before : Token) (i : ℕ) → length words ≤ i → found ++ named_after before (drop i words) ≡ all → found ≡ all
named_end found all words before i past so_far = sym (append-nil found) ∙ ap (λ ws. found ++ named_after before ws) (sym (drop_all i words past)) ∙ so_far
