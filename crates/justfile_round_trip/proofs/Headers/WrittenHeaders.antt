-- A header that any text derives is good.
use Rattle.std.proofs.Common.{◌≡◌, ℕ, Bool, true, false, List, [], ◌∷◌, None, refl, ap}
use Rattle.justfile_vocabulary.specs.declared.token_kind.TokenKind.{TokenKind}
use Rattle.justfile_vocabulary.specs.declared.token_kind.TokenKind.TheVariants as kinds
use Rattle.justfile_model.specs.declared.parameter_kind.ParameterKind.{ParameterKind}
use Rattle.justfile_model.specs.Grammars.Expressions.{Tokens, IsKind, BelowLimit}
use Rattle.justfile_model.specs.Grammars.Headers as g
use Rattle.justfile_model.specs.Grammars.Headers.{PathOf, NamedParameter, ParameterOf, Parameters, DependencyArguments, DependencyOf, Dependencies, AllDependencies, NamedHeader, HeaderOf}
use Rattle.justfile_model.specs.Meanings.RecipeRules.{header_broken}
use Rattle.justfile_model.specs.Trees.Tree.{lexeme, nothing}
use Rattle.justfile_model.specs.Lexing.SignificantTokens.{SignificantToken}
use Rattle.justfile_round_trip.proofs.RecipeBodies.BodyFacts.{Situation, colon_after, situation_after}
use Rattle.justfile_round_trip.proofs.RecipeBodies.BodyGood.{IsOutside, outside_after, shifts}
use Rattle.justfile_round_trip.proofs.Ahead.{Ahead, AheadOf, Passed, PassedIn, Stays, lexed_name, one_ahead, past_ahead, past_token, path_good, value_ahead}
use Rattle.justfile_round_trip.proofs.Good.{GoodPath}
use Rattle.justfile_round_trip.proofs.Headers.BackHeaders.{header_back}
use Rattle.justfile_round_trip.proofs.Canon.{Shown}
use Rattle.justfile_round_trip.proofs.Headers.CanonHeaders.{ShapeParameter, ShapeArgument, ShapeDependency, ShapeHeader}
use Rattle.justfile_round_trip.proofs.Headers.GoodHeaders.{GoodDefault, GoodParameters, GoodDependencyArguments, GoodDependencies, LexesHeader, GoodHeader}
use Rattle.justfile_round_trip.proofs.LiteralTexts.Inline.{IsName}
use Rattle.justfile_round_trip.proofs.Values.TokenFacts.{Around, outside}
use Rattle.justfile_round_trip.proofs.Values.WrittenValues.{past, within}

-- ---- after the colon of a recipe

pub record IsHeader (s : Situation) : Type 0 where
  pub is_outside : IsOutside s
  pub colon : s.colon ≡ true

colon_stays : (k : TokenKind) (b : Bool) → shifts k ≡ false → b ≡ true → colon_after k b ≡ true
colon_stays kinds.Colon b stays e = refl
colon_stays kinds.Dedent b stays e = cc
colon_stays _ b stays e = e

pub header_after : Stays IsHeader
header_after k l s stays h = record { is_outside = outside_after k l s stays h.is_outside; colon = colon_stays k s.colon stays h.colon }

past_colon : {c : Bool} (t : SignificantToken) (ts : Tokens) → IsKind kinds.Colon t → Ahead outside c (t ∷ ts) → AheadOf IsHeader outside false ts
past_colon t ts e a =
    let w = a.bodies in
    record {
      facts = past outside t ts kinds.Colon e a.facts.2;
      bodies = record {
        situation = situation_after t.tok.kind t.tok.lexeme w.situation;
        is = record { is_outside = outside_after t.tok.kind t.tok.lexeme w.situation (ap shifts e) w.is; colon = ap (λ k. colon_after k w.situation.colon) e };
        sound = w.sound.1;
      };
    }

-- after a header, no delimiter is open either
pub outside_header : {s : Around} {c : Bool} {ts : Tokens} → AheadOf IsHeader s c ts → Ahead s c ts
outside_header a = record { facts = a.facts; bodies = record { situation = a.bodies.situation; is = a.bodies.is.is_outside; sound = a.bodies.sound } }

-- ---- along a derivation

module _ (limit : ℕ) where
  abbrev GoodParameter : ShapeParameter → Type 0
  GoodParameter p = IsName p.name × GoodDefault p.default

  named_at : {kind : ParameterKind} {export : Bool} {p : ShapeParameter} {fs : Shown} {ts rest : Tokens}
      → NamedParameter lexeme nothing (BelowLimit limit) kind export p fs ts rest → {c : Bool} → Ahead outside c ts → Passed (GoodParameter p) rest
  named_at (g.required {name = t} {rest = rest} kind next) a = record { good = (lexed_name t kind a.facts.0, tt); following = past_token t rest kinds.Identifier kind refl a }
  named_at (g.optional {name = t} {equals = q} {tokens = ts} kind kind2 v) a =
      let x = one_ahead outside_after limit v (past_token q ts kinds.Equals kind2 refl (past_token t (q ∷ ts) kinds.Identifier kind refl a)) in
      record { good = (lexed_name t kind a.facts.0, x.good); following = x.following }

  parameter_at : {kind : ParameterKind} {p : ShapeParameter} {fs : Shown} {ts rest : Tokens} → ParameterOf lexeme nothing (BelowLimit limit) kind p fs ts rest
      → {c : Bool} → Ahead outside c ts → Passed (GoodParameter p) rest
  parameter_at (g.exported {dollar = t} {tokens = ts} kind n) a = named_at n (past_token t ts kinds.Dollar kind refl a)
  parameter_at (g.unexported n) a = named_at n a

  -- the last parameter and the colon
  last_at : (p : ShapeParameter) (q : SignificantToken) (rest : Tokens) → IsKind kinds.Colon q → Passed (GoodParameter p) (q ∷ rest)
      → PassedIn IsHeader outside (GoodParameters (p ∷ [])) rest
  last_at p q rest kind x = record { good = (x.good.0, x.good.1, tt); following = past_colon q rest kind x.following }

  -- up to the colon and with it
  parameters_at : {ps : List ShapeParameter} {fs : Shown} {ts rest : Tokens} → Parameters lexeme nothing (BelowLimit limit) ps fs ts rest → {c : Bool} → Ahead outside c ts
      → PassedIn IsHeader outside (GoodParameters ps) rest
  parameters_at (g.none {colon = t} {rest = rest} kind) a = record { good = tt; following = past_colon t rest kind a }
  parameters_at (g.more p r) a =
      let x = parameter_at p a in
      let y = parameters_at r x.following in
      record { good = (x.good.0, x.good.1, y.good); following = y.following }
  parameters_at (g.plus {p = last} {prefix = t} {colon = q} {tokens = ts} {rest = rest} kind p kind2) a = last_at last q rest kind2 (parameter_at p (past_token t ts kinds.Plus kind refl a))
  parameters_at (g.star {p = last} {prefix = t} {colon = q} {tokens = ts} {rest = rest} kind p kind2) a = last_at last q rest kind2 (parameter_at p (past_token t ts kinds.Asterisk kind refl a))

  -- inside parentheses, and past the closing one
  arguments_at : {arguments : List ShapeArgument} {fs : Shown} {ts rest : Tokens} → DependencyArguments lexeme nothing nothing (BelowLimit limit) arguments fs ts rest
      → AheadOf IsHeader (within outside None) false ts → PassedIn IsHeader outside (GoodDependencyArguments arguments) rest
  arguments_at (g.none {closer = t} {rest = rest} kind) a = record { good = tt; following = past_ahead header_after t rest kinds.ParenR kind refl a }
  arguments_at (g.plain x r) a =
      let v = value_ahead header_after limit x a in
      let y = arguments_at r v.following in
      record { good = (v.good, y.good); following = y.following }
  arguments_at (g.starred {mark = t} {tokens = ts} kind x r) a =
      let v = one_ahead header_after limit x (past_ahead header_after t ts kinds.Asterisk kind refl a) in
      let y = arguments_at r v.following in
      record { good = (v.good, y.good); following = y.following }

  -- a path and arguments in parentheses, past the opening one
  called_at : {path : List (List ℕ)} {arguments : List ShapeArgument} {fs : Shown} {ts between rest : Tokens} → PathOf lexeme path ts between
      → DependencyArguments lexeme nothing nothing (BelowLimit limit) arguments fs between rest → AheadOf IsHeader (within outside None) false ts
      → PassedIn IsHeader outside (GoodPath path × GoodDependencyArguments arguments) rest
  called_at p r a =
      let x = path_good header_after p a in
      let y = arguments_at r x.following in
      record { good = (x.good, y.good); following = y.following }

  dependency_at : {d : ShapeDependency} {fs : Shown} {ts rest : Tokens} → DependencyOf lexeme nothing nothing (BelowLimit limit) d fs ts rest → AheadOf IsHeader outside false ts
      → PassedIn IsHeader outside (GoodPath d.path × GoodDependencyArguments d.arguments) rest
  dependency_at (g.bare p) a = let x = path_good header_after p a in record { good = (x.good, tt); following = x.following }
  dependency_at (g.plain {opener = t} {tokens = ts} kind p r) a = called_at p r (past_ahead header_after t ts kinds.ParenL kind refl a)
  dependency_at (g.starred {mark = q} {opener = t} {tokens = ts} kind kind2 p r) a =
      called_at p r (past_ahead header_after t ts kinds.ParenL kind2 refl (past_ahead header_after q (t ∷ ts) kinds.Asterisk kind refl a))

  dependencies_at : {ds : List ShapeDependency} {fs : Shown} {ts rest : Tokens} → Dependencies lexeme nothing nothing (BelowLimit limit) ds fs ts rest
      → AheadOf IsHeader outside false ts → PassedIn IsHeader outside (GoodDependencies ds) rest
  dependencies_at (g.none a b c) h = record { good = tt; following = h }
  dependencies_at (g.more d r) h =
      let x = dependency_at d h in
      let y = dependencies_at r x.following in
      record { good = (x.good.0, x.good.1, y.good); following = y.following }

  all_at : {ds ss : List ShapeDependency} {fs : Shown} {ts rest : Tokens} → AllDependencies lexeme nothing nothing (BelowLimit limit) ds ss fs ts rest
      → AheadOf IsHeader outside false ts → PassedIn IsHeader outside (GoodDependencies ds × GoodDependencies ss) rest
  all_at (g.priors x next) h = let y = dependencies_at x h in record { good = (y.good, tt); following = y.following }
  all_at (g.both {operator = t} {next = ts} x kind z) h =
      let y = dependencies_at x h in
      let w = dependencies_at z (past_ahead header_after t ts kinds.AmpersandAmpersand kind refl y.following) in
      record { good = (y.good, w.good); following = w.following }

  named_header_at : {quiet : Bool} {h : ShapeHeader} {fs : Shown} {ts rest : Tokens} → NamedHeader lexeme nothing nothing (BelowLimit limit) quiet h fs ts rest
      → {c : Bool} → Ahead outside c ts → PassedIn IsHeader outside (LexesHeader h) rest
  named_header_at (g.header {name = t} {tokens = ts} kind ps all) a =
      let x = parameters_at ps (past_token t ts kinds.Identifier kind refl a) in
      let y = all_at all x.following in
      record { good = record { is_name = lexed_name t kind a.facts.0; parameters = x.good; priors = y.good.0; subsequents = y.good.1 }; following = y.following }

  header_found : {h : ShapeHeader} {fs : Shown} {ts rest : Tokens} → HeaderOf lexeme nothing nothing (BelowLimit limit) h fs ts rest → {c : Bool} → Ahead outside c ts
      → PassedIn IsHeader outside (LexesHeader h) rest
  header_found (g.quiet {at = t} {tokens = ts} kind n) a = named_header_at n (past_token t ts kinds.At kind refl a)
  header_found (g.loud n) a = named_header_at n a

  -- a header that any text derives, with its stars at allowed places, and the tokens after it
  pub header_at : {h : ShapeHeader} {fs : Shown} {ts rest : Tokens} → HeaderOf lexeme nothing nothing (BelowLimit limit) h fs ts rest → header_broken h ≡ [] → {c : Bool}
      → Ahead outside c ts → PassedIn IsHeader outside (GoodHeader limit h) rest
  header_at {fs = fs} x unbroken a =
      let found = header_found x a in
      record { good = record { lexes = found.good; features = fs; derives = header_back limit x unbroken }; following = found.following }
