-- Parts of a header derive from at least one token, and have at most as many parameters as identifiers. There can be no dependencies.
use Rattle.std.proofs.Common.{◌≡◌, ℕ, ◌+◌, ◌≤◌, cond, Bool, List, ◌∷◌, length, Option, ap, arith}
use Rattle.justfile_vocabulary.specs.declared.token_kind.TokenKind.{TokenKind}
use Rattle.justfile_vocabulary.specs.declared.token_kind.TokenKind.TheVariants as kinds
use Rattle.justfile_model.specs.declared.parameter_kind.ParameterKind.{ParameterKind}
use Rattle.justfile_model.specs.Grammars.Expressions.{Tokens}
use Rattle.justfile_model.specs.Grammars.Features.{Noted}
use Rattle.justfile_model.specs.Grammars.Headers as g
use Rattle.justfile_model.specs.Grammars.Headers.{AllDependencies, Dependencies, DependencyArguments, DependencyOf, HeaderOf, NamedHeader, NamedParameter, ParameterOf, Parameters, PathOf, PathRest}
use Rattle.justfile_model.specs.Lexing.SignificantTokens.{SignificantToken, identifiers, is_identifier}
use Rattle.justfile_model.specs.Lexing.Tok.{Tok}
use Rattle.justfile_model.specs.Trees.Tree.{Dependency, DependencyArgument, Header, Parameter}
use Rattle.justfile_model.proofs.Derivations.ExpressionProgress.{LeftOf, expression_left, fewer, later, next, then, value_left}

-- an identifier counts one
pub counts_one : (kind : TokenKind) → kind ≡ kinds.Identifier → ◌≡◌ {A = ℕ} (cond (is_identifier kind) 1 0) 1
counts_one kind e = ap (λ (k : TokenKind). cond (is_identifier k) 1 0) e

module _ {A : Type 0} (leaf : Tok → A) where
  -- after a name
  path_rest_left : {names : List A} {t : SignificantToken} {ts rest : Tokens} → PathRest leaf names ts rest → LeftOf rest (t ∷ ts)
  path_rest_left (g.last not) = next
  path_rest_left (g.next kind kind2 more) = later (later (path_rest_left more))

  pub path_left : {names : List A} {ts rest : Tokens} → PathOf leaf names ts rest → LeftOf rest ts
  path_left (g.path kind more) = path_rest_left more

module _ {A B : Type 0} (leaf : Tok → A) (position : Tok → B) (MayEnter : ℕ → Option SignificantToken → Type 0) where
  -- a parameter has an identifier
  named_parameter_counts : {kind : ParameterKind} {export : Bool} {p : Parameter A B} {fs : List (Noted B)} {ts rest : Tokens}
      → NamedParameter leaf position MayEnter kind export p fs ts rest → 1 + identifiers rest ≤ identifiers ts
  named_parameter_counts (g.required {name = name} kind not) = omega (arith, counts_one name.tok.kind kind)
  named_parameter_counts (g.optional {name = name} kind kind2 e) =
      omega (arith, counts_one name.tok.kind kind, fewer (value_left leaf position MayEnter e))

  parameter_counts : {kind : ParameterKind} {p : Parameter A B} {fs : List (Noted B)} {ts rest : Tokens} → ParameterOf leaf position MayEnter kind p fs ts rest
      → 1 + identifiers rest ≤ identifiers ts
  parameter_counts (g.exported kind p) = omega (arith, named_parameter_counts p)
  parameter_counts (g.unexported p) = named_parameter_counts p

  parameters_count : {ps : List (Parameter A B)} {fs : List (Noted B)} {ts rest : Tokens} → Parameters leaf position MayEnter ps fs ts rest
      → length ps + identifiers rest ≤ identifiers ts
  parameters_count (g.none kind) = omega arith
  parameters_count (g.more p ps) = omega (arith, parameter_counts p, parameters_count ps)
  parameters_count (g.plus kind p kind2) = omega (arith, parameter_counts p)
  parameters_count (g.star kind p kind2) = omega (arith, parameter_counts p)

module _ {A B S : Type 0} (leaf : Tok → A) (position : Tok → B) (star : Tok → S) (MayEnter : ℕ → Option SignificantToken → Type 0) where
  dependency_arguments_left : {arguments : List (DependencyArgument A B S)} {fs : List (Noted B)} {ts rest : Tokens}
      → DependencyArguments leaf position star MayEnter arguments fs ts rest → LeftOf rest ts
  dependency_arguments_left (g.none kind) = next
  dependency_arguments_left (g.plain e others) = then (expression_left leaf position MayEnter e) (dependency_arguments_left others)
  dependency_arguments_left (g.starred kind e others) = later (then (value_left leaf position MayEnter e) (dependency_arguments_left others))

  pub dependency_left : {d : Dependency A B S} {fs : List (Noted B)} {ts rest : Tokens} → DependencyOf leaf position star MayEnter d fs ts rest → LeftOf rest ts
  dependency_left (g.bare p) = path_left leaf p
  dependency_left (g.plain kind p arguments) = later (then (path_left leaf p) (dependency_arguments_left arguments))
  dependency_left (g.starred kind kind2 p arguments) = later (later (then (path_left leaf p) (dependency_arguments_left arguments)))

  -- dependencies add no identifier
  dependencies_count : {ds : List (Dependency A B S)} {fs : List (Noted B)} {ts rest : Tokens} → Dependencies leaf position star MayEnter ds fs ts rest
      → identifiers rest ≤ identifiers ts
  dependencies_count (g.none ni na np) = omega arith
  dependencies_count (g.more d ds) = omega (arith, fewer (dependency_left d), dependencies_count ds)

  all_dependencies_count : {ds ss : List (Dependency A B S)} {fs : List (Noted B)} {ts rest : Tokens} → AllDependencies leaf position star MayEnter ds ss fs ts rest
      → identifiers rest ≤ identifiers ts
  all_dependencies_count (g.priors ds not) = dependencies_count ds
  all_dependencies_count (g.both ds kind ss) = omega (arith, dependencies_count ds, dependencies_count ss)

  named_header_counts : {quiet : Bool} {h : Header A B S} {fs : List (Noted B)} {ts rest : Tokens} → NamedHeader leaf position star MayEnter quiet h fs ts rest
      → length h.parameters + 1 + identifiers rest ≤ identifiers ts
  named_header_counts (g.header {name = name} kind ps ds) =
      omega (arith, counts_one name.tok.kind kind, parameters_count leaf position MayEnter ps, all_dependencies_count ds)

  -- the name of a recipe is one more
  pub header_counts : {h : Header A B S} {fs : List (Noted B)} {ts rest : Tokens} → HeaderOf leaf position star MayEnter h fs ts rest
      → length h.parameters + 1 + identifiers rest ≤ identifiers ts
  header_counts (g.quiet kind h) = omega (arith, named_header_counts h)
  header_counts (g.loud h) = named_header_counts h
