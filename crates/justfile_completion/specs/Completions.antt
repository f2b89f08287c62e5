-- What can be written at the cursor.
use Rattle.std.specs.Prelude.{◌≡◌, ℕ, Bool, false, List, [], Option, None, Some, cond, filter, length, map, nat_eq, nat_lt, option_map, string_bytes, take}
use Rattle.std.specs.List.{slice_range, starts_with}
use Rattle.justfile_token.specs.declared.token.Token.{Token}
use Rattle.justfile_model.specs.Lexing.Lexed.{Lexed}
use Rattle.justfile_model.specs.Lexing.Tok.{tok_of}
use Rattle.justfile_completion.specs.Calls.{call_told, called_by}
use Rattle.justfile_completion.specs.Candidates.{candidates}
use Rattle.justfile_completion.specs.Cursor.{AreTokens, IsFront, IsLastItem, word_end, word_start}
use Rattle.justfile_completion.specs.Offers.{Told, told}
use Rattle.justfile_completion.specs.Order.{AreInOrder}
use Rattle.justfile_completion.specs.Parameters.{parameters_seen}
use Rattle.justfile_completion.specs.Places.{place_of}
use Rattle.justfile_completion.specs.Words.{is_inside, line_of, outline, tokens_before}
use Rattle.justfile_completion.specs.declared.call.Call.{Call}
use Rattle.justfile_completion.specs.declared.found.Completion.{Completion}
use Rattle.justfile_completion.specs.declared.found.Completions.{Completions}
use Rattle.justfile_completion.specs.declared.found.TheConstants.{ENDS, LIMIT}
use Rattle.justfile_completion.specs.declared.offer.Offer.{Offer}

-- what is told of a completion
abbrev pub told_of : Completion → Told
told_of c = record { kind = c.kind; name = string_bytes c.name; detail = string_bytes c.detail; documentation = string_bytes c.documentation }

-- what can be written after these tokens, all of which begin before the cursor
abbrev pub candidates_after : (names : List Offer) (cursor : ℕ) → List Token → List Told
candidates_after names cursor tokens =
    let words = line_of tokens in candidates names words (outline words) (parameters_seen tokens) (place_of (is_inside cursor tokens) tokens (outline words))

abbrev pub begins_with : (typed : List ℕ) → Offer → Bool
begins_with typed o = starts_with nat_eq o.name.now typed

-- of more than the limit, those that begin with what is written already, up to the limit
abbrev pub some_of : (typed : List ℕ) → List Offer → List Offer
some_of typed offers = cond (nat_lt LIMIT (length offers)) (take LIMIT (filter (begins_with typed) offers)) offers

-- these were found: the candidates in the order of their names
pub record AreFound (candidates : List Told) (typed : List ℕ) (found : List Completion) (is_incomplete : Bool) : Type 0 where
  pub offers : List Offer
  pub ordered : List Offer
  pub are_candidates : map told offers ≡ candidates
  pub in_order : AreInOrder offers ordered
  pub are : map told_of found ≡ map told (some_of typed ordered)
  pub incomplete_is : is_incomplete ≡ nat_lt LIMIT (length ordered)

-- by the tokens of a text up to the cursor
pub record HasFound (names : List Offer) (text : List ℕ) (cursor : ℕ) (typed : List ℕ) (found : List Completion) (is_incomplete : Bool) (call : Option Call) : Type 0 where
  pub tokens : List Token
  pub lexed : Lexed text (map tok_of tokens)
  pub are : AreFound (candidates_after names cursor (tokens_before cursor tokens)) typed found is_incomplete
  pub calls : option_map call_told call ≡ called_by cursor (tokens_before cursor tokens)

-- what can be written after a text, where this is written already, by the first of these ends that closes the text
pub record AreAfter (names : List Offer) (front typed : List ℕ) (ends : List (List ℕ)) (found : List Completion) (is_incomplete : Bool) (call : Option Call) : Type 0 where
  pub tokens : List Token
  pub are_tokens : AreTokens front ends (Some tokens)
  pub are : AreFound (candidates_after names (length front) (tokens_before (length front) tokens)) typed found is_incomplete
  pub calls : option_map call_told call ≡ called_by (length front) (tokens_before (length front) tokens)

-- the ends that are tried
abbrev pub all_ends : List (List ℕ)
all_ends = map (λ end. end.now) ENDS

-- the same after the text of an item; without tokens there is nothing
pub data AreInItem (names : List Offer) (item typed : List ℕ) (found : List Completion) (is_incomplete : Bool) (call : Option Call) : Type 0 where
  cut_up : AreAfter names item typed all_ends found is_incomplete call → AreInItem names item typed found is_incomplete call
  uncut : AreTokens item all_ends None → found ≡ [] → is_incomplete ≡ false → call ≡ None → AreInItem names item typed found is_incomplete call

-- the same after a text, or, if it has no tokens, after the text of its last item alone
pub data AreAt (names : List Offer) (front typed : List ℕ) (found : List Completion) (is_incomplete : Bool) (call : Option Call) : Type 0 where
  by_text : AreAfter names front typed all_ends found is_incomplete call → AreAt names front typed found is_incomplete call
  by_item : AreTokens front all_ends None → (item : List ℕ) → IsLastItem front item → AreInItem names item typed found is_incomplete call → AreAt names front typed found is_incomplete call

-- What can be written at the cursor, in place of the word that it is in, and what is called there.
pub record AreCompletions (names : List Offer) (text : List ℕ) (cursor : ℕ) (made : Completions) : Type 0 where
  pub start_is : made.start ≡ word_start text cursor
  pub end_is : made.end ≡ word_end text cursor
  pub front : List ℕ
  pub is_front : IsFront text made.start front
  pub are : AreAt names front (slice_range text made.start cursor) made.found.items made.is_incomplete made.call
