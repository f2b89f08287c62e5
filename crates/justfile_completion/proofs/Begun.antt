-- The words with which arguments begin.
use Rattle.std.proofs.Common.{◌≡◌, ◌∙◌, ◌+◌, ◌<◌, ◌≤◌, ℕ, List, [], ◌∷◌, ◌++◌, append-nil, ap, sym, cond, drop, get_or, length}
use Rattle.std.proofs.lemmas.List.{drop_all}
use Rattle.justfile_token.specs.declared.token.Token.{Token}
use Rattle.justfile_completion.specs.Calls.{begins_argument, begun_after}
use Rattle.justfile_completion.proofs.Steps.{at_rest, kept}

pub begun_step : (found more all words : List Token) (before : Token) (i : ℕ) (x : Token) → i < length words → x ≡ get_or words i x → found ++ begun_after before (drop i words) ≡ all
    → more ≡ found ++ cond (begins_argument before x) (x ∷ []) [] → more ++ begun_after x (drop (i + 1) words) ≡ all
begun_step found more all words before i x inside at so_far e =
    let rest = begun_after x (drop (i + 1) words) in
    ap (λ l. l ++ rest) e ∙ kept (begins_argument before x) found x rest ∙ ap (λ ws. found ++ begun_after before ws) (sym (at_rest words i x inside at)) ∙ so_far

pub begun_end : (found all words : List Token) (before : Token) (i : ℕ) → length words ≤ i → found ++ begun_after before (drop i words) ≡ all → found ≡ all
begun_end found all words before i past so_far = sym (append-nil found) ∙ ap (λ ws. found ++ begun_after before ws) (sym (drop_all i words past)) ∙ so_far
