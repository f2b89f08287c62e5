-- If tokens derive a header, the printer's tokens for it do, too, with the same features.
use Rattle.std.proofs.Common.{◌≡◌, ℕ, Bool, true, false, cond, List, [], ◌∷◌, ◌++◌, Option, Some, None, refl, sym, subst, arith}
use Rattle.std.specs.List.{flat_map}
use Rattle.justfile_vocabulary.specs.declared.token_kind.TokenKind.{TokenKind}
use Rattle.justfile_vocabulary.specs.declared.token_kind.TokenKind.TheVariants as kinds
use Rattle.justfile_model.specs.declared.parameter_kind.ParameterKind.{ParameterKind}
use Rattle.justfile_model.specs.declared.parameter_kind.ParameterKind.TheVariants.{Singular}
use Rattle.justfile_model.specs.Grammars.Expressions.{Tokens, NotNext, BelowLimit}
use Rattle.justfile_model.specs.Grammars.Headers as g
use Rattle.justfile_model.specs.Grammars.Headers.{PathRest, PathOf, NamedParameter, ParameterOf, Parameters, DependencyArguments, DependencyOf, Dependencies, AllDependencies, NamedHeader, HeaderOf}
use Rattle.justfile_model.specs.Meanings.RecipeRules.{dependency_broken, header_broken, misplaced_broken, second_broken, stars}
use Rattle.justfile_model.specs.Lexing.SignificantTokens.{is_whitespace}
use Rattle.justfile_model.specs.Trees.Tree.{lexeme, nothing}
use Rattle.justfile_model.proofs.Lists.Binds.{nothing_in}
use Rattle.justfile_round_trip.proofs.LiteralTexts.LexedModes.{Sign, placed, space}
use Rattle.justfile_round_trip.proofs.Back.{StopE, glued_string, lower, none_but_closing, stop_at, stop_before, ends_before, value_before, expression_back, value_back}
use Rattle.justfile_round_trip.proofs.Canon.{Shown, colon, word, paren_right, flag_signs}
use Rattle.justfile_round_trip.proofs.Headers.CanonHeaders.{ShapeParameter, ShapeArgument, ShapeDependency, ShapeHeader, default_signs, prefix_signs, parameters_signs, path_rest_signs, path_signs, dependency_arguments_signs, dependency_parts_signs, dependency_signs, dependencies_signs, subsequents_signs, header_rest_signs, header_signs, ampersands, dollar_sign}
use Rattle.justfile_round_trip.proofs.Ends.{End, tail, EndsIn, ValueEndsIn, expression_head}
use Rattle.justfile_round_trip.proofs.Good.{significant, ends_value}
use Rattle.justfile_round_trip.proofs.Headers.GoodHeaders.{HeaderDerivesBack}
use Rattle.justfile_round_trip.proofs.SideBySide.{apart, ends_too, not_begun, expression_ends, stop_beside, value_ends, value_ends_too}

-- ---- the tokens that follow

-- the tokens before which a value ends
record Parted (ts : Tokens) : Type 0 where
  no_equals : NotNext kinds.Equals ts
  no_paren : NotNext kinds.ParenL ts
  apart : glued_string ts ≡ false

-- after the name of a recipe or after a parameter: another parameter, or the colon
parameters_parted : (ps : List ShapeParameter) (on : List Sign) → Parted (significant true (parameters_signs ps (colon ∷ on)))
parameters_parted [] on = record { no_equals = λ e. cc; no_paren = λ e. cc; apart = refl }
parameters_parted (p ∷ ps) on = by p.kind p.export
  where
    by : (k : ParameterKind) (b : Bool)
        → Parted (significant true (space ∷ prefix_signs k (flag_signs b dollar_sign (word p.name ∷ default_signs p.default (parameters_signs ps (colon ∷ on))))))
    by Singular true = record { no_equals = λ e. cc; no_paren = λ e. cc; apart = refl }
    by _ _ = record { no_equals = λ e. cc; no_paren = λ e. cc; apart = refl }

-- tokens that don't begin a dependency
record Done (ts : Tokens) : Type 0 where
  no_name : NotNext kinds.Identifier ts
  no_star : NotNext kinds.Asterisk ts
  no_paren : NotNext kinds.ParenL ts
  no_colons : NotNext kinds.ColonColon ts

done : (ts : Tokens) → ends_value ts ≡ true → Done ts
done ts h = record {
  no_name = none_but_closing kinds.Identifier ts refl h;
  no_star = none_but_closing kinds.Asterisk ts refl h;
  no_paren = none_but_closing kinds.ParenL ts refl h;
  no_colons = none_but_closing kinds.ColonColon ts refl h;
}

-- two colons follow no path
dependency_no_colons : (star : Option (Unit {0})) (path : List (List ℕ)) (arguments : List ShapeArgument) (on : List Sign) → (b : Bool)
    → NotNext kinds.ColonColon (significant b on)
    → NotNext kinds.ColonColon (significant b (dependency_parts_signs star path arguments on))
dependency_no_colons star [] [] on b h = h
dependency_no_colons star (n ∷ path) [] on b h = λ e. cc
dependency_no_colons None path (a ∷ arguments) on b h = λ e. cc
dependency_no_colons star path (a ∷ arguments) on b h = λ e. cc

dependencies_no_colons : (ds : List ShapeDependency) (on : List Sign) (b : Bool) → ((c : Bool) → NotNext kinds.ColonColon (significant c on))
    → NotNext kinds.ColonColon (significant b (dependencies_signs ds on))
dependencies_no_colons [] on b h = h b
dependencies_no_colons (d ∷ ds) on b h =
    dependency_no_colons d.star d.path d.arguments (dependencies_signs ds on) false (dependencies_no_colons ds on false h)

-- a dependency with a star before its parentheses has arguments
abbrev NoBareStar : Option (Unit {0}) → List ShapeArgument → Type 0
NoBareStar (Some star) [] = ⊥
NoBareStar star arguments = Unit {0}

abbrev AllStarred : List ShapeDependency → Type 0
AllStarred [] = Unit {0}
AllStarred (d ∷ ds) = NoBareStar d.star d.arguments × AllStarred ds

no_bare_star : (star : Option (Unit {0})) (arguments : List ShapeArgument) → second_broken (stars arguments) ++ misplaced_broken star (stars arguments) ≡ [] → NoBareStar star arguments
no_bare_star (Some star) [] h = cc
no_bare_star _ _ h = tt

all_starred : (ds : List ShapeDependency) → flat_map dependency_broken ds ≡ [] → AllStarred ds
all_starred [] h = tt
all_starred (d ∷ ds) h =
    let parts = nothing_in (dependency_broken d) (flat_map dependency_broken ds) h in (no_bare_star d.star d.arguments parts.0, all_starred ds parts.1)

abbrev is_star : TokenKind → Bool
is_star kinds.Asterisk = true
is_star _ = false

-- it makes no difference whether the next token is glued
ends_either : (on : List Sign) → ends_value (significant true on) ≡ true → (c : Bool) → ends_value (significant c on) ≡ true
ends_either [] h c = h
ends_either (m ∷ on) h c = by (is_whitespace m.kind) h
  where
    by : (w : Bool) → ends_value (cond w (significant false on) (record { tok = placed m 0 0 0; glued = true } ∷ significant true on)) ≡ true
        → ends_value (cond w (significant false on) (record { tok = placed m 0 0 0; glued = c } ∷ significant true on)) ≡ true
    by true h = h
    by false h = h

pub path_rest_back : (names : List (List ℕ)) (on : List Sign) → NotNext kinds.ColonColon (significant true on)
    → PathRest lexeme names (significant true (path_rest_signs names on)) (significant true on)
path_rest_back [] on h = g.last h
path_rest_back (n ∷ names) on h = g.next refl refl (path_rest_back names on h)

module _ (limit : ℕ) where
  -- ---- parameters

  record ParameterBack (kind : ParameterKind) (p : ShapeParameter) (fs : Shown) (b : Bool) (on : List Sign) : Type 0 where
    derives : ParameterOf lexeme nothing (BelowLimit limit) kind p fs (significant b (flag_signs p.export dollar_sign (word p.name ∷ default_signs p.default on))) (significant true on)
    same_kind : p.kind ≡ kind

  named_back : {kind : ParameterKind} {export : Bool} {p : ShapeParameter} {fs : Shown} {ts rest : Tokens}
      → NamedParameter lexeme nothing (BelowLimit limit) kind export p fs ts rest → (b : Bool) (on : List Sign) → Parted (significant true on)
      → NamedParameter lexeme nothing (BelowLimit limit) kind export p fs (significant b (word p.name ∷ default_signs p.default on)) (significant true on)
  named_back (g.required kind next) b on h = g.required refl h.no_equals
  named_back (g.optional {e = e'} kind kind2 v) b on h =
      g.optional refl refl (value_back (BelowLimit limit) (BelowLimit limit) (lower limit) v 0 (omega arith) true on (value_before (tail e') _ h.no_paren) h.apart)

  named_parts : {kind : ParameterKind} {export : Bool} {p : ShapeParameter} {fs : Shown} {ts rest : Tokens}
      → NamedParameter lexeme nothing (BelowLimit limit) kind export p fs ts rest → (p.kind ≡ kind) × (p.export ≡ export)
  named_parts (g.required kind next) = (refl, refl)
  named_parts (g.optional kind kind2 v) = (refl, refl)

  with_parts : (p : ShapeParameter) (fs : Shown) (b : Bool) (on : List Sign) {kind : ParameterKind} {export : Bool} → (p.kind ≡ kind) × (p.export ≡ export)
      → ParameterOf lexeme nothing (BelowLimit limit) kind p fs (significant b (flag_signs export dollar_sign (word p.name ∷ default_signs p.default on))) (significant true on)
      → ParameterBack kind p fs b on
  with_parts p fs b on {kind} parts x = record {
    derives = subst (λ e. ParameterOf lexeme nothing (BelowLimit limit) kind p fs (significant b (flag_signs e dollar_sign (word p.name ∷ default_signs p.default on))) (significant true on))
        (sym parts.1) x;
    same_kind = parts.0;
  }

  parameter_back : {kind : ParameterKind} {p : ShapeParameter} {fs : Shown} {ts rest : Tokens} → ParameterOf lexeme nothing (BelowLimit limit) kind p fs ts rest
      → (b : Bool) (on : List Sign) → Parted (significant true on) → ParameterBack kind p fs b on
  parameter_back {p = p} {fs = fs} (g.exported kind n) b on h = with_parts p fs b on (named_parts n) (g.exported refl (named_back n true on h))
  parameter_back {p = p} {fs = fs} (g.unexported n) b on h = with_parts p fs b on (named_parts n) (g.unexported (named_back n b on h))

  -- the parameters after the name of a recipe, and the colon
  parameters_back : {ps : List ShapeParameter} {fs : Shown} {ts rest : Tokens} → Parameters lexeme nothing (BelowLimit limit) ps fs ts rest → (b : Bool) (on : List Sign)
      → Parameters lexeme nothing (BelowLimit limit) ps fs (significant b (parameters_signs ps (colon ∷ on))) (significant true on)
  parameters_back (g.none kind) b on = g.none refl
  parameters_back (g.more {p = p} {ps = ps} {fs = fs} {gs = gs} x r) b on =
      let others = parameters_signs ps (colon ∷ on) in
      let q = parameter_back x false others (parameters_parted ps on) in
      subst (λ k. Parameters lexeme nothing (BelowLimit limit) (p ∷ ps) (fs ++ gs) (significant false (prefix_signs k (flag_signs p.export dollar_sign (word p.name ∷ default_signs p.default others)))) (significant true on))
      (sym q.same_kind) (g.more q.derives (parameters_back r true on))
  parameters_back (g.plus {p = p} {fs = fs} kind x kind2) b on =
      let q = parameter_back x true (colon ∷ on) (parameters_parted [] on) in
      subst (λ k. Parameters lexeme nothing (BelowLimit limit) (p ∷ []) fs (significant false (prefix_signs k (flag_signs p.export dollar_sign (word p.name ∷ default_signs p.default (colon ∷ on))))) (significant true on))
      (sym q.same_kind) (g.plus refl q.derives refl)
  parameters_back (g.star {p = p} {fs = fs} kind x kind2) b on =
      let q = parameter_back x true (colon ∷ on) (parameters_parted [] on) in
      subst (λ k. Parameters lexeme nothing (BelowLimit limit) (p ∷ []) fs (significant false (prefix_signs k (flag_signs p.export dollar_sign (word p.name ∷ default_signs p.default (colon ∷ on))))) (significant true on))
      (sym q.same_kind) (g.star refl q.derives refl)

  -- ---- dependencies

  path_back : {names : List (List ℕ)} {ts rest : Tokens} → PathOf lexeme names ts rest → (b : Bool) (on : List Sign)
      → ((c : Bool) → NotNext kinds.ColonColon (significant c on))
      → PathOf lexeme names (significant b (path_signs names on)) (significant true on)
  path_back (g.path {names = names} kind r) b on h = g.path refl (path_rest_back names on (h true))

  -- an argument ends before the others, or before the closing parenthesis
  record ArgumentsBack (arguments : List ShapeArgument) (fs : Shown) (ts : Tokens) (on : List Sign) : Type 0 where
    derives : DependencyArguments lexeme nothing nothing (BelowLimit limit) arguments fs (significant true (dependency_arguments_signs arguments (paren_right ∷ on))) (significant true on)
    ends : {x : End} → EndsIn x ts → EndsIn x (significant true (dependency_arguments_signs arguments (paren_right ∷ on)))
    value_ends : {x : End} → ValueEndsIn x ts → ValueEndsIn x (significant true (dependency_arguments_signs arguments (paren_right ∷ on)))
    stops : StopE (significant true (dependency_arguments_signs arguments (paren_right ∷ on)))
    apart : glued_string (significant true (dependency_arguments_signs arguments (paren_right ∷ on))) ≡ false
    no_colons : (c : Bool) → NotNext kinds.ColonColon (significant c (dependency_arguments_signs arguments (paren_right ∷ on)))

  arguments_back : {arguments : List ShapeArgument} {fs : Shown} {ts rest : Tokens} → DependencyArguments lexeme nothing nothing (BelowLimit limit) arguments fs ts rest
      → (on : List Sign) → ArgumentsBack arguments fs ts on
  arguments_back (g.none kind) on = record {
    derives = g.none refl;
    ends = λ {x} h. ends_before x _ _ refl;
    value_ends = λ {x} h. value_before x _ (λ e. cc);
    stops = stop_before _ _ refl;
    apart = refl;
    no_colons = λ c e. cc;
  }
  arguments_back (g.plain {e = e'} {others = others} x r) on =
      let q = arguments_back r on in
      let head = expression_head (BelowLimit limit) x false (dependency_arguments_signs others (paren_right ∷ on)) in
      record {
        derives = g.plain (expression_back (BelowLimit limit) (BelowLimit limit) (lower limit) x 0 (omega arith) false _ (q.ends (expression_ends (BelowLimit limit) x)) q.stops) q.derives;
        ends = λ {x} h. ends_too x head h;
        value_ends = λ {x} h. value_ends_too x head h;
        stops = stop_beside head;
        apart = apart head;
        no_colons = λ c. not_begun kinds.ColonColon head refl;
      }
  arguments_back (g.starred {e = e'} kind v r) on =
      let q = arguments_back r on in
      record {
        derives = g.starred refl (value_back (BelowLimit limit) (BelowLimit limit) (lower limit) v 0 (omega arith) true _ (q.value_ends (value_ends (BelowLimit limit) v)) q.apart) q.derives;
        ends = λ {x} h. ends_before x _ _ refl;
        value_ends = λ {x} h. value_before x _ (λ e. cc);
        stops = stop_at is_star (refl, refl, refl, refl, refl, refl) _ _ refl refl;
        apart = refl;
        no_colons = λ c e. cc;
      }

  -- a dependency after a space, before tokens that don't begin with `::`
  dependency_back : {d : ShapeDependency} {fs : Shown} {ts rest : Tokens} → DependencyOf lexeme nothing nothing (BelowLimit limit) d fs ts rest → NoBareStar d.star d.arguments
      → (on : List Sign) → ((c : Bool) → NotNext kinds.ColonColon (significant c on))
      → DependencyOf lexeme nothing nothing (BelowLimit limit) d fs (significant false (dependency_signs d on)) (significant true on)
  dependency_back (g.bare p) s on h = g.bare (path_back p false on h)
  dependency_back (g.plain kind p (g.none kind2)) s on h = g.bare (path_back p false on h)
  dependency_back (g.plain kind p r) s on h = let q = arguments_back r on in g.plain refl (path_back p true _ q.no_colons) q.derives
  dependency_back (g.starred kind kind2 p (g.none kind3)) s on h = absurd s
  dependency_back (g.starred kind kind2 p r) s on h = let q = arguments_back r on in g.starred refl refl (path_back p true _ q.no_colons) q.derives

  -- dependencies, each after a space, before tokens that don't begin another one
  dependencies_back : {ds : List ShapeDependency} {fs : Shown} {ts rest : Tokens} → Dependencies lexeme nothing nothing (BelowLimit limit) ds fs ts rest → AllStarred ds
      → (on : List Sign) → ((c : Bool) → Done (significant c on))
      → Dependencies lexeme nothing nothing (BelowLimit limit) ds fs (significant true (dependencies_signs ds on)) (significant true on)
  dependencies_back (g.none a b c) s on h = let q = h true in g.none q.no_name q.no_star q.no_paren
  dependencies_back (g.more {ds = ds} x r) s on h =
      g.more (dependency_back x s.0 (dependencies_signs ds on) (λ c. dependencies_no_colons ds on c (λ b. (h b).no_colons))) (dependencies_back r s.1 on h)

  ampersands_done : (on : List Sign) → Done (significant false (ampersands ∷ on))
  ampersands_done on = record { no_name = λ e. cc; no_star = λ e. cc; no_paren = λ e. cc; no_colons = λ e. cc }

  all_back : {ds ss : List ShapeDependency} {fs : Shown} {ts rest : Tokens} → AllDependencies lexeme nothing nothing (BelowLimit limit) ds ss fs ts rest
      → AllStarred ds → AllStarred ss → (on : List Sign) → ((c : Bool) → ends_value (significant c on) ≡ true)
      → AllDependencies lexeme nothing nothing (BelowLimit limit) ds ss fs (significant true (dependencies_signs ds (subsequents_signs ss on))) (significant true on)
  all_back (g.priors x next) s r on h =
      g.priors (dependencies_back x s on (λ c. done _ (h c))) (none_but_closing kinds.AmpersandAmpersand _ refl (h true))
  all_back (g.both {d = d} {others = others} x kind y) s r on h =
      g.both (dependencies_back x s (space ∷ ampersands ∷ dependencies_signs (d ∷ others) on) (λ c. ampersands_done (dependencies_signs (d ∷ others) on))) refl (dependencies_back y r on (λ c. done _ (h c)))

  named_header_back : {quiet : Bool} {h : ShapeHeader} {fs : Shown} {ts rest : Tokens} → NamedHeader lexeme nothing nothing (BelowLimit limit) quiet h fs ts rest
      → AllStarred h.priors → AllStarred h.subsequents → (b : Bool) (on : List Sign) → ((c : Bool) → ends_value (significant c on) ≡ true)
      → NamedHeader lexeme nothing nothing (BelowLimit limit) quiet h fs (significant b (word h.name ∷ header_rest_signs h on)) (significant true on)
  named_header_back (g.header {ds = ds} {ss = ss} kind ps all) s r b on h =
      g.header refl (parameters_back ps true (dependencies_signs ds (subsequents_signs ss on))) (all_back all s r on h)

  -- a header, before tokens at which a value ends
  header_signs_back : {h : ShapeHeader} {fs : Shown} {ts rest : Tokens} → HeaderOf lexeme nothing nothing (BelowLimit limit) h fs ts rest
      → AllStarred h.priors → AllStarred h.subsequents → (b : Bool) (on : List Sign) → ((c : Bool) → ends_value (significant c on) ≡ true)
      → HeaderOf lexeme nothing nothing (BelowLimit limit) h fs (significant b (header_signs h on)) (significant true on)
  header_signs_back (g.quiet kind (g.header {name = n} kind2 ps all)) s r b on h = g.quiet refl (named_header_back (g.header {name = n} kind2 ps all) s r true on h)
  header_signs_back (g.loud (g.header {name = n} kind2 ps all)) s r b on h = g.loud (named_header_back (g.header {name = n} kind2 ps all) s r b on h)

  pub header_back : {h : ShapeHeader} {fs : Shown} {ts rest : Tokens} → HeaderOf lexeme nothing nothing (BelowLimit limit) h fs ts rest → header_broken h ≡ []
      → HeaderDerivesBack limit h fs
  header_back {h} x unbroken b on stop =
      let parts = nothing_in (flat_map dependency_broken h.priors) (flat_map dependency_broken h.subsequents) unbroken in
      header_signs_back x (all_starred h.priors parts.0) (all_starred h.subsequents parts.1) b on (ends_either on stop)
