-- Attributes that any text derives are good.
use Rattle.std.proofs.Common.{ℕ, Bool, false, List, [], ◌∷◌, Option, Some, None, refl}
use Rattle.justfile_model.proofs.Lists.AllParts.{both}
use Rattle.justfile_vocabulary.specs.declared.token_kind.TokenKind.TheVariants as kinds
use Rattle.justfile_model.specs.Grammars.AttributeLines as g
use Rattle.justfile_model.specs.Grammars.AttributeLines.{IsKey, ArgumentOf, Arguments, AttributeOf, Bracketed, AttributesEnd, AttributeLines}
use Rattle.justfile_model.specs.Grammars.Expressions.{Tokens, IsKind, BelowLimit}
use Rattle.justfile_model.specs.Lexing.SignificantTokens.{SignificantToken}
use Rattle.justfile_model.specs.Trees.Tree.{at_last, commented_attribute, commented_line, lexeme, nothing}
use Rattle.justfile_round_trip.proofs.Canon.{Shown}
use Rattle.justfile_round_trip.proofs.Attributes.CanonAttributes.{Argument, Written}
use Rattle.justfile_round_trip.proofs.Good.{GoodComment, GoodOptionalComment}
use Rattle.justfile_round_trip.proofs.Attributes.MeantAttributes.{GoodSource, GoodSourceAttribute, AllGoodSource, AllGoodAttributes}
use Rattle.justfile_round_trip.proofs.Values.TokenFacts.{Around, outside, Sound}
use Rattle.justfile_round_trip.proofs.RecipeBodies.BodyGood.{IsOutside}
use Rattle.justfile_round_trip.proofs.Ahead.{Ahead, Passed, PassedIn, lexed_comment, past_token, value_good}
use Rattle.justfile_round_trip.proofs.Values.WrittenValues.{within}

key_kind : (t : SignificantToken) (ts : Tokens) → IsKey (t ∷ ts) → IsKind kinds.Identifier t
key_kind t [] k = k
key_kind t (u ∷ ts) k = k.0

-- tokens that have the properties after a comment have those after another token
uncommented : (s : Around) (c : Bool) (ts : Tokens) → Sound s c ts → Sound s false ts
uncommented s c [] h = tt
uncommented s c (t ∷ ts) h = (record { fact = h.0.fact; utf8 = h.0.utf8; apart = λ e. cc }, h.1, h.2)

module _ (limit : ℕ) where
  argument_at : {keys : Bool} {a : Argument} {fs : Shown} {ts rest : Tokens} → ArgumentOf lexeme nothing (BelowLimit limit) keys a fs ts rest
      → {s : Around} {c : Bool} → Ahead s c ts → PassedIn IsOutside s (GoodSource limit a) rest
  argument_at (g.positional no_key x) h = value_good limit x h
  argument_at (g.bare {key = t} {rest = rest} key next) h = record { good = tt; following = past_token t rest kinds.Identifier (key_kind t rest key) refl h }
  argument_at (g.keyed {key = t} {equals = u} {tokens = ts} kind kind2 x) h =
      value_good limit x (past_token u ts kinds.Equals kind2 refl (past_token t (u ∷ ts) kinds.Identifier kind refl h))

  -- inside parentheses, and past the closing one
  arguments_at : {keys : Bool} {arguments : List Argument} {fs : Shown} {ts rest : Tokens} → Arguments lexeme nothing (BelowLimit limit) keys arguments fs ts rest
      → (s : Around) {c : Bool} → Ahead (within s None) c ts → PassedIn IsOutside s (AllGoodSource limit arguments) rest
  arguments_at (g.none {closer = t} {rest = rest} kind) s h = record { good = tt; following = past_token t rest kinds.ParenR kind refl h }
  arguments_at (g.last {closer = t} {rest = rest} a kind) s h =
      let x = argument_at a h in record { good = (x.good, tt); following = past_token t rest kinds.ParenR kind refl x.following }
  arguments_at (g.more {comma = t} {next = ts} a kind others) s h =
      let x = argument_at a h in
      let y = arguments_at others s (past_token t ts kinds.Comma kind refl x.following) in
      record { good = (x.good, y.good); following = y.following }

  attribute_at : {w : Written} {fs : Shown} {ts rest : Tokens} → AttributeOf lexeme nothing (BelowLimit limit) w fs ts rest → (s : Around) {c : Bool} → Ahead s c ts
      → PassedIn IsOutside s (GoodSourceAttribute limit w) rest
  attribute_at (g.plain {name = t} {rest = rest} kind no_colon no_paren) s h =
      record { good = record { arguments = tt; comment = tt }; following = past_token t rest kinds.Identifier kind refl h }
  attribute_at (g.short {name = t} {colon = u} {first = first} {tokens = ts} kind kind2 x) s h =
      let v = value_good limit x (past_token u (first ∷ ts) kinds.Colon kind2 refl (past_token t (u ∷ first ∷ ts) kinds.Identifier kind refl h)) in
      record { good = record { arguments = (v.good, tt); comment = tt }; following = v.following }
  attribute_at (g.long {name = t} {opener = u} {tokens = ts} kind kind2 arguments) s h =
      let x = arguments_at arguments s (past_token u ts kinds.ParenL kind2 refl (past_token t (u ∷ ts) kinds.Identifier kind refl h)) in
      record { good = record { arguments = x.good; comment = tt }; following = x.following }

  -- inside brackets, and past the closing one
  bracketed_at : {ws : List Written} {fs : Shown} {ts rest : Tokens} → Bracketed lexeme nothing (BelowLimit limit) ws fs ts rest → {c : Bool}
      → Ahead (within outside None) c ts → Passed (AllGoodAttributes limit ws) rest
  bracketed_at (g.last {closer = t} {rest = rest} w kind) h =
      let x = attribute_at w (within outside None) h in record { good = (x.good, tt); following = past_token t rest kinds.BracketR kind refl x.following }
  bracketed_at (g.more {comma = t} {next = ts} w kind others) h =
      let x = attribute_at w (within outside None) h in
      let y = bracketed_at others (past_token t ts kinds.Comma kind refl x.following) in
      record { good = (x.good, y.good); following = y.following }

  end_at : {comment : Option (List ℕ)} {ts rest : Tokens} → AttributesEnd lexeme nothing (BelowLimit limit) comment ts rest → Ahead outside false ts
      → Passed (GoodOptionalComment comment) rest
  end_at (g.bare {newline = t} {rest = rest} kind) h = record { good = tt; following = past_token t rest kinds.Eol kind refl h }
  end_at (g.commented {comment = t} {newline = u} {rest = rest} kind kind2) h =
      record { good = lexed_comment t kind h.facts.0; following = past_token u rest kinds.Eol kind2 refl (past_token t (u ∷ rest) kinds.Comment kind refl h) }

  last_good : (c : List ℕ) (ws : List Written) → GoodComment c → AllGoodAttributes limit ws → AllGoodAttributes limit (at_last (commented_attribute c) ws)
  last_good c [] good h = tt
  last_good c (w ∷ []) good h = (record { arguments = h.0.arguments; comment = good }, tt)
  last_good c (w ∷ v ∷ ws) good h = (h.0, last_good c (v ∷ ws) good h.1)

  good_commented : (comment : Option (List ℕ)) (ws : List Written) → GoodOptionalComment comment → AllGoodAttributes limit ws
      → AllGoodAttributes limit (commented_line comment ws)
  good_commented None ws good h = h
  good_commented (Some c) ws good h = last_good c ws good h

  -- lines of attributes that any text derives, and the tokens after them
  pub attributes_good : {ws : List Written} {fs : Shown} {ts rest : Tokens} → AttributeLines lexeme nothing (BelowLimit limit) ws fs ts rest → {c : Bool} → Ahead outside c ts
      → Passed (AllGoodAttributes limit ws) rest
  attributes_good {ts = ts} (g.none next) {c} h = record { good = tt; following = record { facts = uncommented outside c ts h.facts; bodies = h.bodies } }
  attributes_good (g.line {ws = ws} {others = others} {comment = comment} {opener = t} {tokens = ts} kind inside end after) h =
      let x = bracketed_at inside (past_token t ts kinds.BracketL kind refl h) in
      let e = end_at end x.following in
      let y = attributes_good after e.following in
      record { good = both (GoodSourceAttribute limit) (commented_line comment ws) others (good_commented comment ws e.good x.good) y.good; following = y.following }
