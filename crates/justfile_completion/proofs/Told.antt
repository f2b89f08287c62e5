-- What was found, by the tokens.
use Rattle.std.proofs.Common.{◌≡◌, ℕ, Bool, List, [], ◌∷◌, ◌++◌, Bor, Option, None, Some, Result, Ok, Err, IfNone, IfOk, IfSome, length, map, nat_lt, subst, sym}
use Rattle.std.specs.Prelude.{option_map}
use Rattle.std.specs.List.{slice_range}
use Rattle.justfile_token.specs.declared.compile_error.CompileError.{CompileError}
use Rattle.justfile_token.specs.declared.token.Token.{Token}
use Rattle.justfile_model.specs.Lexing.LexResult.{IsLexicalError}
use Rattle.justfile_model.specs.Lexing.Lexed.{Lexed}
use Rattle.justfile_model.specs.Lexing.Tok.{tok_of}
use Rattle.justfile_completion.specs.Calls.{call_told, called_by}
use Rattle.justfile_completion.specs.Completions.{AreAfter, AreAt, AreCompletions, AreFound, AreInItem, HasFound, all_ends, by_item, candidates_after, some_of, told_of}
use Rattle.justfile_completion.specs.Cursor.{AreTokens, HasNoTokens, IsFront, IsLastItem, closed, none, open_still, word_end, word_start}
use Rattle.justfile_completion.specs.Offers.{Told, told}
use Rattle.justfile_completion.specs.Order.{AreInOrder}
use Rattle.justfile_completion.specs.Words.{tokens_before}
use Rattle.justfile_completion.specs.declared.call.Call.{Call}
use Rattle.justfile_completion.specs.declared.found.Completion.{Completion}
use Rattle.justfile_completion.specs.declared.found.Completions.{Completions}
use Rattle.justfile_completion.specs.declared.found.TheConstants.{LIMIT}
use Rattle.justfile_completion.specs.declared.offer.Offer.{Offer}

pub are_found : (candidates : List Told) (typed : List ℕ) (offers ordered : List Offer) (found : List Completion) (is_incomplete : Bool) → map told offers ≡ candidates → AreInOrder offers ordered
    → map told_of found ≡ map told (some_of typed ordered) → is_incomplete ≡ nat_lt LIMIT (length ordered) → AreFound candidates typed found is_incomplete
are_found candidates typed offers ordered found is_incomplete made order shown more =
    record { offers = offers; ordered = ordered; are_candidates = made; in_order = order; are = shown; incomplete_is = more }

pub has_found : (names : List Offer) (text : List ℕ) (cursor : ℕ) (typed : List ℕ) (tokens before : List Token) (found : List Completion) (is_incomplete : Bool) (call : Option Call) → Lexed text (map tok_of tokens) → before ≡ tokens_before cursor tokens
    → AreFound (candidates_after names cursor before) typed found is_incomplete → option_map call_told call ≡ called_by cursor before → HasFound names text cursor typed found is_incomplete call
has_found names text cursor typed tokens before found is_incomplete call lexed e are calls = record {
  tokens = tokens;
  lexed = lexed;
  are = subst (λ (ts : List Token). AreFound (candidates_after names cursor ts) typed found is_incomplete) e are;
  calls = subst (λ (ts : List Token). option_map call_told call ≡ called_by cursor ts) e calls;
}

pub no_tokens : (path text : List ℕ) (e : CompileError) → IsLexicalError path text e → HasNoTokens text
no_tokens path text e error = record { fault = error.fault; span = tok_of e.token; is_fault = error.is_fault }

abbrev pub texts : List (Bor (List ℕ)) → List (List ℕ)
texts ends = map (λ (end : Bor (List ℕ)). end.now) ends

pub after_closed : (names : List Offer) (front typed : List ℕ) (ends others : List (Bor (List ℕ))) (end : Bor (List ℕ)) (found : List Completion) (is_incomplete : Bool) (call : Option Call) → ends ≡ end ∷ others → HasFound names (front ++ end.now) (length front) typed found is_incomplete call
    → AreAfter names front typed (texts ends) found is_incomplete call
after_closed names front typed ends others end found is_incomplete call e has =
    let made : AreAfter names front typed (texts (end ∷ others)) found is_incomplete call = record { tokens = has.tokens; are_tokens = closed end.now has.tokens has.lexed; are = has.are; calls = has.calls } in
    subst (λ (es : List (Bor (List ℕ))). AreAfter names front typed (texts es) found is_incomplete call) (sym e) made

after_open : (names : List Offer) (front typed : List ℕ) (ends others : List (Bor (List ℕ))) (end : Bor (List ℕ)) (found : List Completion) (is_incomplete : Bool) (call : Option Call) → ends ≡ end ∷ others → HasNoTokens (front ++ end.now)
    → AreAfter names front typed (texts others) found is_incomplete call → AreAfter names front typed (texts ends) found is_incomplete call
after_open names front typed ends others end found is_incomplete call e refused later =
    let made : AreAfter names front typed (texts (end ∷ others)) found is_incomplete call = record { tokens = later.tokens; are_tokens = open_still end.now refused later.are_tokens; are = later.are; calls = later.calls } in
    subst (λ (es : List (Bor (List ℕ))). AreAfter names front typed (texts es) found is_incomplete call) (sym e) made

pub later_closed : {A E : Type 0} (items : A → List Completion) (more : A → Bool) (calls : A → Option Call) (r : Result (Option A) E) (names : List Offer) (front typed : List ℕ) (ends others : List (Bor (List ℕ))) (end : Bor (List ℕ)) → ends ≡ end ∷ others → HasNoTokens (front ++ end.now)
    → IfOk r (λ found. IfSome found (λ a. AreAfter names front typed (texts others) (items a) (more a) (calls a)))
    → IfOk r (λ found. IfSome found (λ a. AreAfter names front typed (texts ends) (items a) (more a) (calls a)))
later_closed items more calls (Ok (Some a)) names front typed ends others end e refused h = after_open names front typed ends others end (items a) (more a) (calls a) e refused h
later_closed items more calls (Ok None) names front typed ends others end e refused h = tt
later_closed items more calls (Err x) names front typed ends others end e refused h = tt

pub never_closed : {A E : Type 0} (r : Result (Option A) E) (front : List ℕ) (ends others : List (Bor (List ℕ))) (end : Bor (List ℕ)) → ends ≡ end ∷ others → HasNoTokens (front ++ end.now)
    → IfOk r (λ found. IfNone found (AreTokens front (texts others) None)) → IfOk r (λ found. IfNone found (AreTokens front (texts ends) None))
never_closed (Ok (Some a)) front ends others end e refused h = tt
never_closed (Ok None) front ends others end e refused h = subst (λ (es : List (Bor (List ℕ))). AreTokens front (texts es) None) (sym e) (open_still end.now refused h)
never_closed (Err x) front ends others end e refused h = tt

pub no_end : (front : List ℕ) (ends : List (Bor (List ℕ))) → ends ≡ [] → AreTokens front (texts ends) None
no_end front ends e = subst (λ (es : List (Bor (List ℕ))). AreTokens front (texts es) None) (sym e) none

pub by_last : {A E : Type 0} (items : A → List Completion) (more : A → Bool) (calls : A → Option Call) (r : Result A E) (names : List Offer) (front item typed : List ℕ) → AreTokens front all_ends None → IsLastItem front item
    → IfOk r (λ a. AreInItem names item typed (items a) (more a) (calls a)) → IfOk r (λ a. AreAt names front typed (items a) (more a) (calls a))
by_last items more calls (Ok a) names front item typed uncut_front last h = by_item uncut_front item last h
by_last items more calls (Err e) names front item typed uncut_front last h = tt

pub are_completions : (names : List Offer) (text : List ℕ) (cursor : ℕ) (made : Completions) (front : List ℕ) → made.start ≡ word_start text cursor → made.end ≡ word_end text cursor → IsFront text made.start front
    → AreAt names front (slice_range text made.start cursor) made.found.items made.is_incomplete made.call → AreCompletions names text cursor made
are_completions names text cursor made front start end is_front are = record { start_is = start; end_is = end; front = front; is_front = is_front; are = are }
