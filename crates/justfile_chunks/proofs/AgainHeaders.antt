-- The header of a recipe is derived again before other tokens that look the same.
use Rattle.std.proofs.Common.{ℕ, Bool, List, Option, refl, ap}
use Rattle.justfile_model.specs.declared.parameter_kind.ParameterKind.{ParameterKind}
use Rattle.justfile_model.specs.Grammars.Expressions.{Tokens}
use Rattle.justfile_model.specs.Grammars.Features.{Noted}
use Rattle.justfile_model.specs.Grammars.Headers as g
use Rattle.justfile_model.specs.Grammars.Headers.{PathRest, PathOf, NamedParameter, ParameterOf, Parameters, DependencyArguments, DependencyOf, Dependencies, AllDependencies, NamedHeader, HeaderOf}
use Rattle.justfile_model.specs.Lexing.SignificantTokens.{SignificantToken}
use Rattle.justfile_model.specs.Lexing.Tok.{Tok}
use Rattle.justfile_model.specs.Trees.Tree.{Dependency, DependencyArgument, Header, Parameter}
use Rattle.justfile_chunks.proofs.AgainExpressions as expressions
use Rattle.justfile_chunks.proofs.Over.{Local, again, closed, followed, is_quiet, joined, more, next, rule, same, step, token}

module _ {A : Type 0} (leaf : Tok → A) where
  path_rest : {names : List A} {ts x y : Tokens} → Local is_quiet (PathRest leaf names) ts x y
  path_rest (g.last n) h = again (g.last (next _ h n)) same h
  path_rest (g.next kind kind2 others) h = token kind refl (token kind2 refl (rule (path_rest others h) (λ away r. g.next kind kind2 r)))

  pub path : {names : List A} {ts x y : Tokens} → Local is_quiet (PathOf leaf names) ts x y
  path (g.path kind others) h = token kind refl (rule (path_rest others h) (λ away r. g.path kind r))

module _ {A B S : Type 0} (leaf : Tok → A) (position : Tok → B) (star : Tok → S) (MayEnter : ℕ → Option SignificantToken → Type 0) where
  named : {kind : ParameterKind} {export : Bool} {p : Parameter A B} {fs : List (Noted B)} {ts x y : Tokens}
      → Local is_quiet (NamedParameter leaf position MayEnter kind export p fs) ts x y
  named (g.required kind n) h = again (g.required kind (next _ h n)) (step (ap is_quiet kind) same) h
  named (g.optional kind kind2 v) h =
      token kind refl (token kind2 refl (rule (expressions.value leaf position MayEnter v h) (λ away r. g.optional kind kind2 r)))

  pub parameter : {kind : ParameterKind} {p : Parameter A B} {fs : List (Noted B)} {ts x y : Tokens}
      → Local is_quiet (ParameterOf leaf position MayEnter kind p fs) ts x y
  parameter (g.exported kind n) h = token kind refl (rule (named n h) (λ away r. g.exported kind r))
  parameter (g.unexported n) h = rule (named n h) (λ away r. g.unexported r)

  pub parameters : {ps : List (Parameter A B)} {fs : List (Noted B)} {ts x y : Tokens} → Local is_quiet (Parameters leaf position MayEnter ps fs) ts x y
  parameters (g.none kind) h = again (g.none kind) (step (ap is_quiet kind) same) h
  parameters (g.more p others) h =
      let o = parameters others h in
      rule (followed o (parameter p o.ahead)) (λ away r. g.more r o.derives)
  parameters (g.plus kind p kind2) h = token kind refl (closed kind2 refl (rule (parameter p (more h)) (λ away r. g.plus kind r kind2)))
  parameters (g.star kind p kind2) h = token kind refl (closed kind2 refl (rule (parameter p (more h)) (λ away r. g.star kind r kind2)))

  arguments : {as' : List (DependencyArgument A B S)} {fs : List (Noted B)} {ts x y : Tokens}
      → Local is_quiet (DependencyArguments leaf position star MayEnter as' fs) ts x y
  arguments (g.none kind) h = again (g.none kind) (step (ap is_quiet kind) same) h
  arguments (g.plain e others) h =
      let o = arguments others h in
      rule (followed o (expressions.expression leaf position MayEnter e o.ahead)) (λ away r. g.plain r o.derives)
  arguments (g.starred kind e others) h =
      let o = arguments others h in
      token kind refl (rule (followed o (expressions.value leaf position MayEnter e o.ahead)) (λ away r. g.starred kind r o.derives))

  dependency : {d : Dependency A B S} {fs : List (Noted B)} {ts x y : Tokens} → Local is_quiet (DependencyOf leaf position star MayEnter d fs) ts x y
  dependency (g.bare p) h = rule (path leaf p h) (λ away r. g.bare r)
  dependency (g.plain kind p others) h =
      let o = arguments others h in
      token kind refl (rule (followed o (path leaf p o.ahead)) (λ away r. g.plain kind r o.derives))
  dependency (g.starred kind kind2 p others) h =
      let o = arguments others h in
      token kind refl (token kind2 refl (rule (followed o (path leaf p o.ahead)) (λ away r. g.starred kind kind2 r o.derives)))

  dependencies : {ds : List (Dependency A B S)} {fs : List (Noted B)} {ts x y : Tokens} → Local is_quiet (Dependencies leaf position star MayEnter ds fs) ts x y
  dependencies (g.none n n2 n3) h = again (g.none (next _ h n) (next _ h n2) (next _ h n3)) same h
  dependencies (g.more d others) h =
      let o = dependencies others h in
      rule (followed o (dependency d o.ahead)) (λ away r. g.more r o.derives)

  pub all_dependencies : {ds ss : List (Dependency A B S)} {fs : List (Noted B)} {ts x y : Tokens}
      → Local is_quiet (AllDependencies leaf position star MayEnter ds ss fs) ts x y
  all_dependencies (g.priors ds n) h = rule (dependencies ds h) (λ away r. g.priors r (next _ h n))
  all_dependencies (g.both ds kind ss) h =
      let s = dependencies ss h in
      rule (joined s kind refl (dependencies ds (more s.ahead))) (λ away r. g.both r kind s.derives)

  named_header : {quiet : Bool} {x' : Header A B S} {fs : List (Noted B)} {ts x y : Tokens}
      → Local is_quiet (NamedHeader leaf position star MayEnter quiet x' fs) ts x y
  named_header (g.header kind ps ds) h =
      let d = all_dependencies ds h in
      token kind refl (rule (followed d (parameters ps d.ahead)) (λ away p. g.header kind p d.derives))

  pub header : {x' : Header A B S} {fs : List (Noted B)} {ts x y : Tokens} → Local is_quiet (HeaderOf leaf position star MayEnter x' fs) ts x y
  header (g.quiet kind n) h = token kind refl (rule (named_header n h) (λ away r. g.quiet kind r))
  header (g.loud n) h = rule (named_header n h) (λ away r. g.loud r)
