-- What is known of the tokens of any text outside of bodies, and stays known past a token, an expression and a path.
use Rattle.std.proofs.Common.{◌≡◌, ℕ, Bool, true, false, List, ◌∷◌, refl, ap, ◌∙◌}
use Rattle.std.specs.Str.{trim_end}
use Rattle.justfile_vocabulary.specs.declared.token_kind.TokenKind.{TokenKind}
use Rattle.justfile_vocabulary.specs.declared.token_kind.TokenKind.TheVariants as kinds
use Rattle.justfile_model.specs.Grammars.Expressions.{Tokens, IsKind, BelowLimit, Expression}
use Rattle.justfile_model.specs.Grammars.Expressions as e
use Rattle.justfile_model.specs.Grammars.Headers as h
use Rattle.justfile_model.specs.Grammars.Headers.{PathOf, PathRest}
use Rattle.justfile_model.specs.Lexing.SignificantTokens.{SignificantToken}
use Rattle.justfile_model.specs.Trees.Tree.{lexeme, nothing}
use Rattle.justfile_round_trip.proofs.RecipeBodies.BodyFacts.{Situation, situation_after}
use Rattle.justfile_round_trip.proofs.RecipeBodies.BodyGood.{IsOutside, Walked, outside_after, quiet_stays, shifts}
use Rattle.justfile_round_trip.proofs.Canon.{Shown, Value}
use Rattle.justfile_round_trip.proofs.Comments.{good_comment}
use Rattle.justfile_round_trip.proofs.LiteralTexts.Inline.{IsName}
use Rattle.justfile_round_trip.proofs.Good.{GoodComment, GoodExpression, GoodNames, GoodPath, GoodValue}
use Rattle.justfile_round_trip.proofs.Values.TokenFacts.{Around, Known, around, is_comment, outside}
use Rattle.justfile_round_trip.proofs.Values.WrittenValues.{Before, PassedBy, fact_as, good_expression, one_at, past, quiet, value_at}

-- tokens that don't begin or end a body keep this property of the place
abbrev pub Stays : (Situation → Type 0) → Type 0
Stays P = (k : TokenKind) (l : List ℕ) (s : Situation) → shifts k ≡ false → P s → P (situation_after k l s)

-- of the tokens outside bodies, and of the bodies after them
abbrev pub AheadOf : (Situation → Type 0) → Around → Bool → Tokens → Type 0
AheadOf P = Before (Walked P)

abbrev pub Ahead : Around → Bool → Tokens → Type 0
Ahead = AheadOf IsOutside

abbrev pub PassedIn : (Situation → Type 0) → Around → Type 0 → Tokens → Type 0
PassedIn P = PassedBy (Walked P)

abbrev pub Passed : Type 0 → Tokens → Type 0
Passed = PassedIn IsOutside outside

pub lexed_comment : {s : Around} {c : Bool} (t : SignificantToken) → IsKind kinds.Comment t → Known s c t.tok → GoodComment (trim_end t.tok.lexeme)
lexed_comment t kind h = good_comment t.tok.lexeme h.utf8 (fact_as t kinds.Comment kind h)

pub lexed_name : {s : Around} {c : Bool} (t : SignificantToken) → IsKind kinds.Identifier t → Known s c t.tok → IsName t.tok.lexeme
lexed_name t kind h = fact_as t kinds.Identifier kind h

module _ {P : Situation → Type 0} (keep : Stays P) where
  -- after a token that doesn't begin or end a body
  past_walked : (t : SignificantToken) (ts : Tokens) (k : TokenKind) → IsKind k t → shifts k ≡ false → Walked P (t ∷ ts) → Walked P ts
  past_walked t ts k e stays w = record {
    situation = situation_after t.tok.kind t.tok.lexeme w.situation;
    is = keep t.tok.kind t.tok.lexeme w.situation (ap shifts e ∙ stays) w.is;
    sound = w.sound.1;
  }

  pub past_ahead : {s : Around} {c : Bool} (t : SignificantToken) (ts : Tokens) (k : TokenKind) → IsKind k t → shifts k ≡ false → AheadOf P s c (t ∷ ts)
      → AheadOf P (around k t.tok.lexeme s) (is_comment k) ts
  past_ahead {s} t ts k e stays a = record { facts = past s t ts k e a.facts.2; bodies = past_walked t ts k e stays a.bodies }

  pub quiet_ahead : (k : TokenKind) (t : SignificantToken) (rest : Tokens) → IsKind k t → quiet k ≡ true → Walked P (t ∷ rest) → Walked P rest
  quiet_ahead k t rest e h w = past_walked t rest k e (quiet_stays k h) w

  -- a value that is good, and the tokens after it
  pub value_ahead : (limit : ℕ) {condition : Bool} {d : ℕ} {v : Value} {fs : Shown} {s : Around} {c : Bool} {ts rest : Tokens}
      → Expression lexeme nothing (BelowLimit limit) condition d v fs ts rest → AheadOf P s c ts → PassedIn P s (GoodValue v) rest
  value_ahead limit {s = s} x a = value_at (BelowLimit limit) (Walked P) quiet_ahead x s a

  pub one_ahead : (limit : ℕ) {d : ℕ} {v : Value} {fs : Shown} {s : Around} {c : Bool} {ts rest : Tokens}
      → e.Value lexeme nothing (BelowLimit limit) d v fs ts rest → AheadOf P s c ts → PassedIn P s (GoodValue v) rest
  one_ahead limit {s = s} x a = one_at (BelowLimit limit) (Walked P) quiet_ahead x s a

  -- the names of a path after its first one
  path_rest_good : {names : List (List ℕ)} {s : Around} {ts rest : Tokens} → PathRest lexeme names ts rest → AheadOf P s false ts → PassedIn P s (GoodNames names) rest
  path_rest_good (h.last next) a = record { good = tt; following = a }
  path_rest_good (h.next {colons = t} {name = u} {tokens = ts} kind kind2 r) a =
      let named = past_ahead t (u ∷ ts) kinds.ColonColon kind refl a in
      let x = path_rest_good r (past_ahead u ts kinds.Identifier kind2 refl named) in
      record { good = (lexed_name u kind2 named.facts.0, x.good); following = x.following }

  pub path_good : {names : List (List ℕ)} {s : Around} {ts rest : Tokens} → PathOf lexeme names ts rest → AheadOf P s false ts → PassedIn P s (GoodPath names) rest
  path_good (h.path {name = t} {tokens = ts} kind r) a =
      let x = path_rest_good r (past_ahead t ts kinds.Identifier kind refl a) in
      record { good = (lexed_name t kind a.facts.0, x.good); following = x.following }

-- outside bodies, before an item or in it
pub past_token : {s : Around} {c : Bool} (t : SignificantToken) (ts : Tokens) (k : TokenKind) → IsKind k t → shifts k ≡ false → Ahead s c (t ∷ ts)
    → Ahead (around k t.tok.lexeme s) (is_comment k) ts
past_token = past_ahead outside_after

-- an expression that no other is open around
pub value_good : (limit : ℕ) {v : Value} {fs : Shown} {s : Around} {c : Bool} {ts rest : Tokens} → Expression lexeme nothing (BelowLimit limit) false 0 v fs ts rest → Ahead s c ts
    → PassedIn IsOutside s (GoodExpression limit v) rest
value_good limit x a = let v = value_ahead outside_after limit x a in record { good = good_expression limit x v.good; following = v.following }
