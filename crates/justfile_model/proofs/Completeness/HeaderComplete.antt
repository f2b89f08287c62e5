-- If the header of a recipe derives, where the depth limit doesn't apply to expressions that begin at some tokens, it is parsed, or the
-- error is a literal without a text, the depth at one of these tokens, or a rule that it breaks.
use Rattle.std.proofs.Common.{◌≡◌, ℕ, ◌+◌, Bool, true, false, List, [], ◌∷◌, ◌++◌, map, Option, Some, None, Result, Ok, Err, refl, sym, subst, ap, ◌∙◌, append_assoc, append-nil, arith}
use Rattle.std.specs.List.{flat_map}
use Rattle.std.specs.Option.{option_map}
use Rattle.std.proofs.lemmas.List.{map-append}
use Rattle.justfile_vocabulary.specs.declared.token_kind.TokenKind.TheVariants as kinds
use Rattle.justfile_model.specs.declared.parameter_kind.ParameterKind.{ParameterKind}
use Rattle.justfile_model.specs.declared.parameter_kind.ParameterKind.TheVariants.{Plus, Singular, Star}
use Rattle.justfile_model.specs.Grammars.Conditions.{Conditions}
use Rattle.justfile_model.specs.Readers.ExpressionReader as expressions
use Rattle.justfile_model.specs.Grammars.Expressions.{Tokens, Expression, IsKind, NotNext, Value, PastLimitAt}
use Rattle.justfile_model.specs.Grammars.Features.{Noted, rules_features}
use Rattle.justfile_model.specs.Grammars.Files.{dependency_literals, expr_literals, header_literals, parameter_literals}
use Rattle.justfile_model.specs.Readers.HeaderReader as r
use Rattle.justfile_model.specs.Readers.HeaderReader.{ReadHeader, next_binding_number, obeying, with_bindings}
use Rattle.justfile_model.specs.Grammars.Headers as g
use Rattle.justfile_model.specs.Grammars.Headers.{AllDependencies, Dependencies, DependencyArguments, DependencyOf, NamedHeader, NamedParameter, ParameterOf, Parameters, PathOf, PathRest}
use Rattle.justfile_model.specs.LiteralTexts.Literals.{Literal}
use Rattle.justfile_model.specs.Meanings.ReadAttribute.{token_view}
use Rattle.justfile_model.specs.Readers.Reader.{header_kept}
use Rattle.justfile_model.specs.Readers.ReaderState.{◌>>=◌, Counters, accepted, expect, prepend}
use Rattle.justfile_model.specs.Meanings.RecipeRules.{dependency_broken, header_broken, misplaced_broken, options_broken, parameter_broken, parameters_broken, second_broken, stars, undefined_broken}
use Rattle.justfile_model.specs.Meanings.Rules.{Broken}
use Rattle.justfile_model.specs.Lexing.SignificantTokens.{SignificantToken}
use Rattle.justfile_model.specs.Lexing.Tok.{Tok}
use Rattle.justfile_model.specs.Trees.Tree.{ArgumentRules, Dependency, DependencyArgument, Expr, Header, Parameter, itself}
use Rattle.justfile_model.specs.Readers.TreeReader.{Read, State, token_attributes, token_leaves}
use Rattle.justfile_model.proofs.Readers.Counters.{after_parameters}
use Rattle.justfile_model.proofs.Completeness.ExpressionDeep.{expression_deep, value_deep}
use Rattle.justfile_model.proofs.Derivations.Beginnings.{expression_starts}
use Rattle.justfile_model.proofs.Completeness.HeaderCovers.{ReadArgument, StartsDependency, StartsParameter, by_dollar, by_name, by_opener, by_star, dependency_starts, kept, named_starts, not_there, parameter_first, parameter_starts, parameters_after, second_among, stars_more, stars_of_kept, stars_read}
use Rattle.justfile_model.proofs.Readers.HeaderReading.{dependencies_is, dependency_arguments_is, path_rest_is, singulars_is, value_is}
use Rattle.justfile_model.proofs.Completeness.Reaching as plain
use Rattle.justfile_model.proofs.Completeness.Reaching.{Reaches}
use Rattle.justfile_model.proofs.Completeness.ReachingRules.{Among, IsAt, ReachesOne, ReachesSome, among_first, among_others, breaks_one, by, known_as, last_one, pass, plainly, read_as, read_now, regrouped, renoted, same_one, then_at, then_one}
use Rattle.justfile_model.proofs.Readers.Steps.{input, accept_taken, accept_left, expect_taken, next_taken, next_left}
use Rattle.justfile_model.proofs.Lists.Unchanged.{arguments_are}

abbrev arguments_literals : List (DependencyArgument Tok Tok Tok) → List (Literal Tok)
arguments_literals arguments = flat_map (λ (a : DependencyArgument Tok Tok Tok). expr_literals a.value) arguments

-- arguments that were read after others
abbrev AreAfter : (before : List ReadArgument) → List (DependencyArgument Tok Tok Tok) → List ReadArgument → Type 0
AreAfter before arguments all = map kept all ≡ map kept before ++ arguments

after_one : (before : List ReadArgument) (a : ReadArgument) (others : List (DependencyArgument Tok Tok Tok)) (all : List ReadArgument)
    → AreAfter (before ++ a ∷ []) others all → AreAfter before (kept a ∷ others) all
after_one before a others all h =
    h ∙ ap (λ (l : List (DependencyArgument Tok Tok Tok)). l ++ others) (map-append kept before (a ∷ [])) ∙ append_assoc (map kept before) (kept a ∷ []) others

stars_read_more : (before : List ReadArgument) (a : ReadArgument) → stars_read (before ++ a ∷ []) ≡ stars_read before ++ stars_read (a ∷ [])
stars_read_more before a =
    ap (map (λ (t : SignificantToken). t.tok)) (stars_more before a)
    ∙ map-append (λ (t : SignificantToken). t.tok) (stars before) (stars (a ∷ []))

stars_regrouped : (before : List ReadArgument) (a : ReadArgument) (others : List Tok) {rules : List (Broken Tok)}
    → Among (second_broken (stars_read before ++ (stars_read (a ∷ []) ++ others))) rules → Among (second_broken (stars_read (before ++ a ∷ []) ++ others)) rules
stars_regrouped before a others {rules = rules} h =
    subst (λ (l : List Tok). Among (second_broken l) rules)
    (sym (ap (λ (l : List Tok). l ++ others) (stars_read_more before a) ∙ append_assoc (stars_read before) (stars_read (a ∷ [])) others)) h

-- two steps, and what follows them
after_both : {X Y Z E : Type 0} (found : Result X E) (f : X → Result Y E) (g : Y → Result Z E) → ((found >>= f) >>= g) ≡ (found >>= λ x. f x >>= g)
after_both (Ok x) f g = refl
after_both (Err e) f g = refl

module _ (conditions : Conditions) (Hit : Option SignificantToken → Type 0) where
  abbrev MayEnter : ℕ → Option SignificantToken → Type 0
  MayEnter = PastLimitAt conditions.limit Hit

  -- rules that are among those that are broken
  pub obeying_reached : (broken : List (Broken Tok)) (s : State) {rules : List (Broken Tok)} → Among broken rules
      → ReachesOne conditions Hit (obeying broken s) (tt, s) [] rules
  obeying_reached [] s h = read_now conditions Hit (tt, s) refl refl
  obeying_reached (b ∷ bs) s h = breaks_one conditions Hit b (h.carries b (0, omega arith, refl)) refl

  value_reached : (ns : List (Noted Tok)) {e : Expr Tok Tok} {fs : List (Noted Tok)} {ts rest : Tokens} → Value itself itself MayEnter 0 e fs ts rest
      → Reaches conditions Hit (expressions.value token_leaves (input conditions 0 ts ns)) (e, input conditions 0 rest (ns ++ fs)) (expr_literals e)
  value_reached ns {ts = ts} v = plain.by conditions Hit (value_is token_leaves (input conditions 0 ts ns)) (value_deep conditions Hit ns false (omega arith) v)

  -- ---- paths

  path_rest_read : (ns : List (Noted Tok)) {names : List Tok} {ts rest : Tokens} → PathRest itself names ts rest
      → r.path_rest token_leaves (input conditions 0 ts ns) ≡ Ok (names, input conditions 0 rest ns)
  unfolding r.path_rest_rule prepend
  path_rest_read ns {ts = ts} (g.last nx) =
      path_rest_is token_leaves (input conditions 0 ts ns) ∙ rw (accept_left kinds.ColonColon ts conditions 0 ns nx) refl
  path_rest_read ns (g.next {colons = colons} {name = name} {tokens = ts} kind kind2 others) =
      path_rest_is token_leaves (input conditions 0 (colons ∷ name ∷ ts) ns)
      ∙ rw (
        accept_taken kinds.ColonColon colons (name ∷ ts) conditions 0 ns kind,
        expect_taken kinds.Identifier name ts conditions 0 ns kind2,
        path_rest_read ns others,
      ) refl

  pub path_read : (ns : List (Noted Tok)) {names : List Tok} {ts rest : Tokens} → PathOf itself names ts rest
      → r.path token_leaves (input conditions 0 ts ns) ≡ Ok (names, input conditions 0 rest ns)
  unfolding r.path prepend
  path_read ns (g.path {name = name} {tokens = ts} kind others) = rw (expect_taken kinds.Identifier name ts conditions 0 ns kind, path_rest_read ns others) refl

  -- ---- arguments of a dependency

  plain_reached : (before : List ReadArgument) (ns : List (Noted Tok)) {e : Expr Tok Tok} {fs : List (Noted Tok)} {ts rest : Tokens}
      {rules : List (Broken Tok)} → Expression itself itself MayEnter false 0 e fs ts rest
      → ReachesOne conditions Hit (r.dependency_argument token_leaves before (input conditions 0 ts ns))
      (record { star = None; value = e }, input conditions 0 rest (ns ++ fs)) (expr_literals e) rules
  unfolding r.dependency_argument r.plain_argument
  plain_reached before ns {ts = ts} h =
      rw (accept_left kinds.Asterisk ts conditions 0 ns (expression_starts itself itself MayEnter h).no_star)
      (pass conditions Hit _ (plainly conditions Hit (expression_deep conditions Hit ns false (omega arith) h)) refl)

  starred_reached : (before : List ReadArgument) (ns : List (Noted Tok)) (mark : SignificantToken) (others : List Tok) {e : Expr Tok Tok}
      {fs : List (Noted Tok)} {ts rest : Tokens} {rules : List (Broken Tok)} → IsKind kinds.Asterisk mark → Value itself itself MayEnter 0 e fs ts rest
      → Among (second_broken (stars_read before ++ mark.tok ∷ others)) rules
      → ReachesOne conditions Hit (r.dependency_argument token_leaves before (input conditions 0 (mark ∷ ts) ns))
      (record { star = Some mark; value = e }, input conditions 0 rest (ns ++ fs)) (expr_literals e) rules
  unfolding r.dependency_argument r.starred_argument
  starred_reached before ns mark others {ts = ts} {rules = rules} kind v h =
      rw (accept_taken kinds.Asterisk mark ts conditions 0 ns kind)
      (then_one conditions Hit _ _ (obeying_reached (second_broken (map (λ (t : SignificantToken). t.tok) (stars before ++ mark ∷ [])))
      (input conditions 0 ts ns)
      (subst (λ (l : List Tok). Among (second_broken l) rules) (sym (map-append (λ (t : SignificantToken). t.tok) (stars before) (mark ∷ [])))
      (second_among (stars_read before) mark.tok others h)))
      (pass conditions Hit _ (plainly conditions Hit (value_reached ns v)) refl))

  arguments_reached : (before : List ReadArgument) (ns : List (Noted Tok)) {arguments : List (DependencyArgument Tok Tok Tok)} {fs : List (Noted Tok)}
      {ts rest : Tokens} {rules : List (Broken Tok)} → DependencyArguments itself itself itself MayEnter arguments fs ts rest
      → Among (second_broken (stars_read before ++ stars arguments)) rules
      → ReachesSome conditions Hit (r.dependency_arguments token_leaves (before, input conditions 0 ts ns))
      (IsAt (AreAfter before arguments) (input conditions 0 rest (ns ++ fs))) (arguments_literals arguments) rules
  unfolding r.dependency_arguments_rule
  arguments_reached before ns {rest = rest} (g.none {closer = closer} kind) h =
      by conditions Hit (dependency_arguments_is token_leaves (before, input conditions 0 (closer ∷ rest) ns))
      (rw (accept_taken kinds.ParenR closer rest conditions 0 ns kind)
      (read_now conditions Hit (before, input conditions 0 rest ns) (sym (append-nil (map kept before)), λ i. input conditions 0 rest (sym (append-nil ns) i)) refl))
  arguments_reached before ns {ts = ts} {rest = rest} (g.plain {e = e} {others = others} {fs = fs} {gs = gs} first later) h =
      let a : ReadArgument = record { star = None; value = e } in
      by conditions Hit (dependency_arguments_is token_leaves (before, input conditions 0 ts ns))
      (rw (accept_left kinds.ParenR ts conditions 0 ns (expression_starts itself itself MayEnter first).no_closer)
      (then_one conditions Hit _ _ (plain_reached before ns first)
      (read_as conditions Hit (AreAfter before (kept a ∷ others)) (after_one before a others) (λ i. input conditions 0 rest (append_assoc ns fs gs i))
      (arguments_reached (before ++ a ∷ []) (ns ++ fs) later (stars_regrouped before a (stars others) h)))))
  arguments_reached before ns {rest = rest} (g.starred {e = e} {others = others} {fs = fs} {gs = gs} {mark = mark} {tokens = ts} kind first later) h =
      let a : ReadArgument = record { star = Some mark; value = e } in
      by conditions Hit (dependency_arguments_is token_leaves (before, input conditions 0 (mark ∷ ts) ns))
      (rw (accept_left kinds.ParenR (mark ∷ ts) conditions 0 ns (λ k. cc))
      (then_one conditions Hit _ _ (starred_reached before ns mark (stars others) kind first h)
      (read_as conditions Hit (AreAfter before (kept a ∷ others)) (after_one before a others) (λ i. input conditions 0 rest (append_assoc ns fs gs i))
      (arguments_reached (before ++ a ∷ []) (ns ++ fs) later (stars_regrouped before a (stars others) h)))))

  -- ---- dependencies

  -- a dependency with what is kept of its star
  abbrev dependency_with : Option SignificantToken → List Tok → List (DependencyArgument Tok Tok Tok) → Dependency Tok Tok Tok
  dependency_with star names arguments = record { star = option_map (λ (t : SignificantToken). t.tok) star; path = names; arguments = arguments }

  read_is : (star : Option SignificantToken) (names : List Tok) (arguments : List (DependencyArgument Tok Tok Tok)) (all : List ReadArgument)
      → AreAfter [] arguments all → r.dependency_of token_leaves star names all ≡ dependency_with star names arguments
  read_is star names arguments all is = ap (dependency_with star names) (arguments_are (λ (t : SignificantToken). t.tok) all ∙ is)

  -- the rule for the positions of stars is among the rules
  misplaced_among : (star : Option SignificantToken) (arguments : List (DependencyArgument Tok Tok Tok)) (all : List ReadArgument) {rules : List (Broken Tok)}
      → AreAfter [] arguments all → Among (misplaced_broken (option_map (λ (t : SignificantToken). t.tok) star) (stars arguments)) rules
      → Among (misplaced_broken (option_map (λ (t : SignificantToken). t.tok) star) (stars_read all)) rules
  misplaced_among star arguments all {rules = rules} is h =
      subst (λ (l : List Tok). Among (misplaced_broken (option_map (λ (t : SignificantToken). t.tok) star) l) rules)
      (sym (ap stars is) ∙ stars_of_kept all) h

  abbrev DependencyReached : (State → Read (Dependency Tok Tok Tok)) → List (Noted Tok) → Dependency Tok Tok Tok → List (Noted Tok) → Tokens → Tokens
      → List (Broken Tok) → Type 0
  DependencyReached rule ns d fs ts rest rules =
      ReachesOne conditions Hit (rule (input conditions 0 ts ns)) (d, input conditions 0 rest (ns ++ fs)) (dependency_literals d) rules

  parenthesized_reached : (star : Option SignificantToken) (ns : List (Noted Tok)) {names : List Tok} {arguments : List (DependencyArgument Tok Tok Tok)}
      {fs : List (Noted Tok)} (opener : SignificantToken) {ts next rest : Tokens} {rules : List (Broken Tok)} → IsKind kinds.ParenL opener
      → PathOf itself names ts next → DependencyArguments itself itself itself MayEnter arguments fs next rest
      → Among (dependency_broken (dependency_with star names arguments)) rules
      → DependencyReached (r.parenthesized token_leaves star) ns (dependency_with star names arguments) fs (opener ∷ ts) rest rules
  unfolding r.parenthesized
  parenthesized_reached star ns {names = names} {arguments = arguments} {fs = fs} opener {ts = ts} {rest = rest} kind names_are a h =
      let misplaced : List (Broken Tok) = misplaced_broken (option_map (λ (t : SignificantToken). t.tok) star) (stars arguments) in
      let end : State = input conditions 0 rest (ns ++ fs) in
      rw (expect_taken kinds.ParenL opener ts conditions 0 ns kind, path_read ns names_are)
      (regrouped conditions Hit (append-nil (arguments_literals arguments))
      (then_at conditions Hit _ _ (arguments_reached [] ns a (among_first (second_broken (stars arguments)) misplaced h)) (λ all is.
      then_one conditions Hit _ _
      (obeying_reached (misplaced_broken (option_map (λ (t : SignificantToken). t.tok) star) (stars_read all)) end
      (misplaced_among star arguments all is (among_others (second_broken (stars arguments)) misplaced h)))
      (read_now conditions Hit (r.dependency_of token_leaves star names all, end) (λ i. (read_is star names arguments all is i, end)) refl))))

  dependency_reached : (ns : List (Noted Tok)) {d : Dependency Tok Tok Tok} {fs : List (Noted Tok)} {ts rest : Tokens} {rules : List (Broken Tok)}
      → DependencyOf itself itself itself MayEnter d fs ts rest → Among (dependency_broken d) rules
      → DependencyReached (r.dependency token_leaves) ns d fs ts rest rules
  unfolding r.dependency r.bare_dependency
  dependency_reached ns {rest = rest} (g.bare (g.path {name = name} {tokens = ts} kind others)) h =
      renoted conditions Hit (sym (append-nil ns))
      (rw (next_taken (kinds.Identifier ∷ []) (input conditions 0 (name ∷ ts) ns) (kind, tt), path_read ns (g.path {name = name} kind others)) (read_now conditions Hit _ refl refl))
  dependency_reached ns (g.plain {opener = opener} {tokens = ts} kind names_are a) h =
      rw (next_left (kinds.Identifier ∷ []) (input conditions 0 (opener ∷ ts) ns) (λ k. cc), accept_left kinds.Asterisk (opener ∷ ts) conditions 0 ns (λ k. cc))
      (parenthesized_reached None ns opener kind names_are a h)
  dependency_reached ns (g.starred {mark = mark} {opener = opener} {tokens = ts} kind kind2 names_are a) h =
      rw (
        next_left (kinds.Identifier ∷ []) (input conditions 0 (mark ∷ opener ∷ ts) ns) (λ k. cc),
        accept_taken kinds.Asterisk mark (opener ∷ ts) conditions 0 ns kind,
      ) (parenthesized_reached (Some mark) ns opener kind2 names_are a h)

  begins : (ns : List (Noted Tok)) {ts : Tokens} → StartsDependency ts → r.begins_dependency token_leaves (input conditions 0 ts ns) ≡ true
  begins ns {ts = ts} (by_name kind) = rw (next_taken (kinds.Identifier ∷ []) (input conditions 0 ts ns) (kind, tt)) refl
  begins ns {ts = ts} (by_star kind) =
      rw (
        next_left (kinds.Identifier ∷ []) (input conditions 0 ts ns) (λ k. cc),
        next_taken (kinds.Asterisk ∷ []) (input conditions 0 ts ns) (kind, tt),
      ) refl
  begins ns {ts = ts} (by_opener kind) =
      rw (
        next_left (kinds.Identifier ∷ []) (input conditions 0 ts ns) (λ k. cc),
        next_left (kinds.Asterisk ∷ []) (input conditions 0 ts ns) (λ k. cc),
        next_taken (kinds.ParenL ∷ []) (input conditions 0 ts ns) (kind, tt),
      ) refl

  begins_none : (ns : List (Noted Tok)) (ts : Tokens) → NotNext kinds.Identifier ts → NotNext kinds.Asterisk ts → NotNext kinds.ParenL ts
      → r.begins_dependency token_leaves (input conditions 0 ts ns) ≡ false
  begins_none ns ts no_name no_star no_opener =
      rw (
        next_left (kinds.Identifier ∷ []) (input conditions 0 ts ns) (not_there kinds.Identifier ts no_name),
        next_left (kinds.Asterisk ∷ []) (input conditions 0 ts ns) (not_there kinds.Asterisk ts no_star),
        next_left (kinds.ParenL ∷ []) (input conditions 0 ts ns) (not_there kinds.ParenL ts no_opener),
      ) refl

  abbrev DependenciesReached : (State → Read (List (Dependency Tok Tok Tok))) → List (Noted Tok) → List (Dependency Tok Tok Tok) → List (Noted Tok) → Tokens
      → Tokens → List (Broken Tok) → Type 0
  DependenciesReached rule ns ds fs ts rest rules =
      ReachesOne conditions Hit (rule (input conditions 0 ts ns)) (ds, input conditions 0 rest (ns ++ fs)) (flat_map dependency_literals ds) rules

  dependencies_reached : (ns : List (Noted Tok)) {ds : List (Dependency Tok Tok Tok)} {fs : List (Noted Tok)} {ts rest : Tokens} {rules : List (Broken Tok)}
      → Dependencies itself itself itself MayEnter ds fs ts rest → Among (flat_map dependency_broken ds) rules
      → DependenciesReached (r.dependencies token_leaves) ns ds fs ts rest rules
  unfolding r.dependencies_rule prepend
  dependencies_reached ns {rest = rest} (g.none no_name no_star no_opener) h =
      renoted conditions Hit (sym (append-nil ns))
      (by conditions Hit (dependencies_is token_leaves (input conditions 0 rest ns))
      (rw (begins_none ns rest no_name no_star no_opener) (read_now conditions Hit _ refl refl)))
  dependencies_reached ns {ts = ts} (g.more {d = d} {ds = ds} {fs = fs} {gs = gs} first later) h =
      renoted conditions Hit (append_assoc ns fs gs)
      (by conditions Hit (dependencies_is token_leaves (input conditions 0 ts ns))
      (rw (begins ns (dependency_starts itself itself itself MayEnter first))
      (then_one conditions Hit _ _ (dependency_reached ns first (among_first (dependency_broken d) (flat_map dependency_broken ds) h))
      (pass conditions Hit _ (dependencies_reached (ns ++ fs) later (among_others (dependency_broken d) (flat_map dependency_broken ds) h)) refl))))

  -- ---- dependencies before `&&`, and after it

  -- what is made of both, one read after the other
  abbrev both_from : {X : Type 0} → (List (Dependency Tok Tok Tok) → List (Dependency Tok Tok Tok) → X) → State → Read X
  both_from make s = r.dependencies token_leaves s >>= λ priors. r.subsequents token_leaves priors.1 >>= λ others. Ok (make priors.0 others.0, others.1)

  both_reached : {X : Type 0} (make : List (Dependency Tok Tok Tok) → List (Dependency Tok Tok Tok) → X) (ns : List (Noted Tok)) {ds ss : List (Dependency Tok Tok Tok)} {fs : List (Noted Tok)} {ts rest : Tokens} {rules : List (Broken Tok)}
      → AllDependencies itself itself itself MayEnter ds ss fs ts rest → Among (flat_map dependency_broken ds ++ flat_map dependency_broken ss) rules
      → ReachesOne conditions Hit (both_from make (input conditions 0 ts ns)) (make ds ss, input conditions 0 rest (ns ++ fs))
      (flat_map dependency_literals ds ++ flat_map dependency_literals ss) rules
  unfolding r.subsequents
  both_reached make ns {ds = ds} {fs = fs} {rest = rest} (g.priors first no_operator) h =
      then_one conditions Hit _ _ (dependencies_reached ns first (among_first (flat_map dependency_broken ds) [] h))
      (rw (accept_left kinds.AmpersandAmpersand rest conditions 0 (ns ++ fs) no_operator) (read_now conditions Hit _ refl refl))
  both_reached make ns (g.both {d = d} {ds = ds} {others = others} {fs = fs} {gs = gs} {operator = operator} {next = next} first kind later) h =
      renoted conditions Hit (append_assoc ns fs gs)
      (then_one conditions Hit _ _ (dependencies_reached ns first (among_first (flat_map dependency_broken ds) (flat_map dependency_broken (d ∷ others)) h))
      (rw (accept_taken kinds.AmpersandAmpersand operator next conditions 0 (ns ++ fs) kind)
      (pass conditions Hit _ (pass conditions Hit _
      (dependencies_reached (ns ++ fs) later (among_others (flat_map dependency_broken ds) (flat_map dependency_broken (d ∷ others)) h)) refl) refl)))

  -- ---- parameters

  module _ (args : List (ArgumentRules Tok Tok)) where
    abbrev Numbered : Type 0
    Numbered = List (Parameter Tok Tok) × Counters

    -- after the number of a binding
    abbrev drawn : Counters → Counters
    drawn n = with_bindings (n.bindings + 1) n

    abbrev broken_by : (before : List (Parameter Tok Tok)) → Parameter Tok Tok → List (Broken Tok)
    broken_by = parameter_broken (token_view conditions) args

    named_reached : (kind : ParameterKind) (export : Bool) (before : List (Parameter Tok Tok)) (n : Counters) (ns : List (Noted Tok)) {p : Parameter Tok Tok}
        {fs : List (Noted Tok)} {ts rest : Tokens} {rules : List (Broken Tok)} → NamedParameter itself itself MayEnter kind export p fs ts rest
        → Among (broken_by before p) rules
        → ReachesOne conditions Hit (r.named_parameter token_leaves token_view args kind export (before, n) (input conditions 0 ts ns))
        ((before ++ p ∷ [], drawn n), input conditions 0 rest (ns ++ fs)) (parameter_literals p) rules
    unfolding r.named_parameter r.default_value next_binding_number
    named_reached kind export before n ns {p = p} {rest = rest} (g.required {name = name} is nx) h =
        renoted conditions Hit (sym (append-nil ns))
        (rw (expect_taken kinds.Identifier name rest conditions 0 ns is, accept_left kinds.Equals rest conditions 0 ns nx)
        (then_one conditions Hit _ _ (obeying_reached (broken_by before p) (input conditions 0 rest ns) h) (read_now conditions Hit _ refl refl)))
    named_reached kind export before n ns {p = p} {rest = rest} (g.optional {fs = fs} {name = name} {equals = equals} {tokens = ts} is is2 v) h =
        rw (
          expect_taken kinds.Identifier name (equals ∷ ts) conditions 0 ns is,
          accept_taken kinds.Equals equals ts conditions 0 ns is2,
        )
        (last_one conditions Hit _ _ (pass conditions Hit _ (plainly conditions Hit (value_reached ns v)) refl) (λ _.
        then_one conditions Hit _ _ (obeying_reached (broken_by before p) (input conditions 0 rest (ns ++ fs)) h) (read_now conditions Hit _ refl refl)))

    abbrev ParameterReached : ParameterKind → List (Parameter Tok Tok) → Counters → List (Noted Tok) → Parameter Tok Tok → List (Noted Tok) → Tokens → Tokens
        → List (Broken Tok) → Type 0
    ParameterReached kind before n ns p fs ts rest rules =
        ReachesOne conditions Hit (r.parameter token_leaves token_view args kind ((before, n), input conditions 0 ts ns))
        ((before ++ p ∷ [], drawn n), input conditions 0 rest (ns ++ fs)) (parameter_literals p) rules

    parameter_reached : (kind : ParameterKind) (before : List (Parameter Tok Tok)) (n : Counters) (ns : List (Noted Tok)) {p : Parameter Tok Tok}
        {fs : List (Noted Tok)} {ts rest : Tokens} {rules : List (Broken Tok)} → ParameterOf itself itself MayEnter kind p fs ts rest
        → Among (broken_by before p) rules → ParameterReached kind before n ns p fs ts rest rules
    unfolding r.parameter accepted
    parameter_reached kind before n ns (g.exported {dollar = dollar} {tokens = ts} is p) h =
        rw (accept_taken kinds.Dollar dollar ts conditions 0 ns is) (named_reached kind true before n ns p h)
    parameter_reached kind before n ns {ts = ts} (g.unexported p) h =
        rw (accept_left kinds.Dollar ts conditions 0 ns (named_starts itself itself MayEnter p).0) (named_reached kind false before n ns p h)

    begins_one : (ns : List (Noted Tok)) {ts : Tokens} → StartsParameter ts → r.begins_parameter token_leaves (input conditions 0 ts ns) ≡ true
    begins_one ns {ts = ts} (by_name is) = rw (next_taken (kinds.Identifier ∷ []) (input conditions 0 ts ns) (is, tt)) refl
    begins_one ns {ts = ts} (by_dollar is) =
        rw (
          next_left (kinds.Identifier ∷ []) (input conditions 0 ts ns) (λ k. cc),
          next_taken (kinds.Dollar ∷ []) (input conditions 0 ts ns) (is, tt),
        ) refl

    -- ---- parameters up to the colon

    -- what follows those that take one argument
    abbrev ending : Numbered × State → Read Numbered
    ending ps =
        r.last_parameter token_leaves token_view args ps >>= λ all. expect token_leaves kinds.Colon all.1 >>= λ colon. Ok (all.0, colon.1)

    abbrev parameters_from : Numbered × State → Read Numbered
    parameters_from x = r.singulars token_leaves token_view args x >>= ending

    goes_on : (x : Numbered × State) → r.begins_parameter token_leaves x.1 ≡ true
        → parameters_from x ≡ (r.parameter token_leaves token_view args Singular x >>= parameters_from)
    unfolding r.singulars_rule
    goes_on x is =
        rw (singulars_is token_leaves token_view args x, is)
        (after_both (r.parameter token_leaves token_view args Singular x) (r.singulars token_leaves token_view args) ending)

    stops : (x : Numbered × State) → r.begins_parameter token_leaves x.1 ≡ false → parameters_from x ≡ ending x
    unfolding r.singulars_rule
    stops x is = rw (singulars_is token_leaves token_view args x, is) refl

    no_parameter : (ns : List (Noted Tok)) (ts : Tokens) → NotNext kinds.Identifier ts → NotNext kinds.Dollar ts
        → r.begins_parameter token_leaves (input conditions 0 ts ns) ≡ false
    no_parameter ns ts no_name no_dollar =
        rw (
          next_left (kinds.Identifier ∷ []) (input conditions 0 ts ns) (not_there kinds.Identifier ts no_name),
          next_left (kinds.Dollar ∷ []) (input conditions 0 ts ns) (not_there kinds.Dollar ts no_dollar),
        ) refl

    -- the colon comes after the last parameter
    variadic_reached : (kind : ParameterKind) (before : List (Parameter Tok Tok)) (n : Counters) (ns : List (Noted Tok)) (p : Parameter Tok Tok)
        (colon : SignificantToken) {fs : List (Noted Tok)} {ts rest : Tokens} {rules : List (Broken Tok)}
        → ParameterOf itself itself MayEnter kind p fs ts (colon ∷ rest) → IsKind kinds.Colon colon → Among (broken_by before p) rules
        → ReachesOne conditions Hit (r.variadic token_leaves token_view args kind ((before, n), input conditions 0 ts ns))
        ((before ++ p ∷ [], drawn n), input conditions 0 (colon ∷ rest) (ns ++ fs)) (parameter_literals p) rules
    unfolding r.variadic r.expect_no_name
    variadic_reached kind before n ns p colon {fs = fs} {rest = rest} h is among =
        pass conditions Hit _ (parameter_reached kind before n ns h among)
        (rw (accept_left kinds.Identifier (colon ∷ rest) conditions 0 (ns ++ fs) (λ k. cc)) refl)

    abbrev ParametersReached : List (Parameter Tok Tok) → Counters → List (Noted Tok) → List (Parameter Tok Tok) → List (Noted Tok) → Tokens → Tokens
        → List (Broken Tok) → Type 0
    ParametersReached before n ns ps fs ts rest rules =
        ReachesOne conditions Hit (parameters_from ((before, n), input conditions 0 ts ns))
        ((before ++ ps, after_parameters n ps), input conditions 0 rest (ns ++ fs)) (flat_map parameter_literals ps) rules

    parameters_reached : (before : List (Parameter Tok Tok)) (n : Counters) (ns : List (Noted Tok)) {ps : List (Parameter Tok Tok)} {fs : List (Noted Tok)}
        {ts rest : Tokens} {rules : List (Broken Tok)} → Parameters itself itself MayEnter ps fs ts rest
        → Among (parameters_broken (token_view conditions) args before ps) rules → ParametersReached before n ns ps fs ts rest rules
    unfolding r.last_parameter
    parameters_reached before n ns {rest = rest} (g.none {colon = colon} is) h =
        let ts : Tokens = colon ∷ rest in
        by conditions Hit (stops ((before, n), input conditions 0 ts ns) (no_parameter ns ts (λ k. cc) (λ k. cc)))
        (rw (
          accept_left kinds.Plus ts conditions 0 ns (λ k. cc),
          accept_left kinds.Asterisk ts conditions 0 ns (λ k. cc),
          expect_taken kinds.Colon colon rest conditions 0 ns is,
        ) (read_now conditions Hit _ (λ i. ((sym (append-nil before) i, n), input conditions 0 rest (sym (append-nil ns) i))) refl))
    parameters_reached before n ns {ts = ts} {rest = rest} (g.more {p = p} {ps = ps} {fs = fs} {gs = gs} first others) h =
        by conditions Hit (goes_on ((before, n), input conditions 0 ts ns) (begins_one ns (parameter_starts itself itself MayEnter first)))
        (then_one conditions Hit _ _
        (parameter_reached Singular before n ns first (parameter_first (token_view conditions) args before p ps h))
        (same_one conditions Hit (λ i. ((append_assoc before (p ∷ []) ps i, after_parameters (drawn n) ps), input conditions 0 rest (append_assoc ns fs gs i)))
        (parameters_reached (before ++ p ∷ []) (drawn n) (ns ++ fs) others (parameters_after (token_view conditions) args before p ps h))))
    parameters_reached before n ns {rest = rest} (g.plus {p = p} {fs = fs} {prefix = prefix} {colon = colon} {tokens = ts} is q is2) h =
        by conditions Hit (stops ((before, n), input conditions 0 (prefix ∷ ts) ns) (no_parameter ns (prefix ∷ ts) (λ k. cc) (λ k. cc)))
        (rw (accept_taken kinds.Plus prefix ts conditions 0 ns is)
        (then_one conditions Hit _ _
        (variadic_reached Plus before n ns p colon q is2 (parameter_first (token_view conditions) args before p [] h))
        (read_now conditions Hit _ refl (rw (expect_taken kinds.Colon colon rest conditions 0 (ns ++ fs) is2) refl))))
    parameters_reached before n ns {rest = rest} (g.star {p = p} {fs = fs} {prefix = prefix} {colon = colon} {tokens = ts} is q is2) h =
        by conditions Hit (stops ((before, n), input conditions 0 (prefix ∷ ts) ns) (no_parameter ns (prefix ∷ ts) (λ k. cc) (λ k. cc)))
        (rw (accept_left kinds.Plus (prefix ∷ ts) conditions 0 ns (λ k. cc), accept_taken kinds.Asterisk prefix ts conditions 0 ns is)
        (then_one conditions Hit _ _
        (variadic_reached Star before n ns p colon q is2 (parameter_first (token_view conditions) args before p [] h))
        (read_now conditions Hit _ refl (rw (expect_taken kinds.Colon colon rest conditions 0 (ns ++ fs) is2) refl))))

    all_parameters_reached : (n : Counters) (ns : List (Noted Tok)) {ps : List (Parameter Tok Tok)} {fs : List (Noted Tok)} {ts rest : Tokens}
        {rules : List (Broken Tok)} → Parameters itself itself MayEnter ps fs ts rest
        → Among (parameters_broken (token_view conditions) args [] ps) rules
        → ReachesOne conditions Hit (r.parameters token_leaves token_view args n (input conditions 0 ts ns))
        ((ps, after_parameters n ps), input conditions 0 rest (ns ++ fs)) (flat_map parameter_literals ps) rules
    unfolding r.parameters
    all_parameters_reached n ns q h = parameters_reached [] n ns q h

    -- ---- headers

    -- the rules that a header breaks by its `arg` attributes and by its stars are among the rules
    pub record CoversHeader (h : Header Tok Tok Tok) (rules : List (Broken Tok)) : Type 0 where
      pub options : Among (options_broken (token_view conditions) h.name args) rules
      pub each : Among (parameters_broken (token_view conditions) args [] h.parameters) rules
      pub undefined : Among (undefined_broken (token_view conditions) h.parameters args) rules
      pub starred : Among (header_broken h) rules

    -- the header was read, with the token of its name and the numbers of its parameters
    abbrev pub IsHeader : (quiet : Bool) → Header Tok Tok Tok → Counters → ReadHeader SignificantToken Tok Tok Tok × Counters → Type 0
    IsHeader quiet h n x = (header_kept token_leaves token_attributes quiet x.0 x.0.name.tok ≡ h) × (x.1 ≡ after_parameters n h.parameters)

    -- a header whose parameters are read, up to its end
    abbrev after_parameters_read : SignificantToken → Numbered × State → Read (ReadHeader SignificantToken Tok Tok Tok × Counters)
    after_parameters_read name ps =
        obeying (undefined_broken (token_view ps.1.run) ps.0.0 args) ps.1 >>= λ checked.
        both_from (λ priors others. (r.header_of token_leaves token_view args name ps.0.0 priors others, ps.0.1)) checked.1

    header_is : (n : Counters) (name : SignificantToken) (ts : Tokens) (ns : List (Noted Tok)) → IsKind kinds.Identifier name
        → r.header token_leaves token_view args n (input conditions 0 (name ∷ ts) ns)
        ≡ (obeying (options_broken (token_view conditions) name.tok args) (input conditions 0 ts (ns ++ flat_map rules_features args)) >>= λ options.
        r.parameters token_leaves token_view args n options.1 >>= after_parameters_read name)
    unfolding r.header r.distinct_options
    header_is n name ts ns is = rw (expect_taken kinds.Identifier name ts conditions 0 ns is) refl

    header_after : (name : SignificantToken) (ps : List (Parameter Tok Tok)) (n : Counters) (ns : List (Noted Tok)) {ds ss : List (Dependency Tok Tok Tok)}
        {fs : List (Noted Tok)} {ts rest : Tokens} {rules : List (Broken Tok)} → AllDependencies itself itself itself MayEnter ds ss fs ts rest
        → Among (undefined_broken (token_view conditions) ps args) rules
        → Among (flat_map dependency_broken ds ++ flat_map dependency_broken ss) rules
        → ReachesOne conditions Hit (after_parameters_read name ((ps, n), input conditions 0 ts ns))
        ((r.header_of token_leaves token_view args name ps ds ss, n), input conditions 0 rest (ns ++ fs))
        (flat_map dependency_literals ds ++ flat_map dependency_literals ss) rules
    header_after name ps n ns {ts = ts} k undefined starred =
        then_one conditions Hit _ _ (obeying_reached (undefined_broken (token_view conditions) ps args) (input conditions 0 ts ns) undefined)
        (both_reached (λ priors others. (r.header_of token_leaves token_view args name ps priors others, n)) ns k starred)

    as_header : (noted : List (Noted Tok)) (quiet : Bool) (h : Header Tok Tok Tok) (n : Counters) (found : ReadHeader SignificantToken Tok Tok Tok) (rest : Tokens)
        (x : (ReadHeader SignificantToken Tok Tok Tok × Counters) × State)
        → header_kept token_leaves token_attributes quiet found found.name.tok ≡ h
        → x ≡ ((found, after_parameters n h.parameters), input conditions 0 rest noted)
        → IsAt (IsHeader quiet h n) (input conditions 0 rest noted) x
    as_header noted quiet h n found rest x is same =
        (((λ i. header_kept token_leaves token_attributes quiet (same i).0.0 (same i).0.0.name.tok) ∙ is, λ i. (same i).0.1), λ i. (same i).1)

    -- a header from its name on
    pub header_reached : (quiet : Bool) (n : Counters) (ns : List (Noted Tok)) {h : Header Tok Tok Tok} {fs : List (Noted Tok)} {ts rest : Tokens}
        {rules : List (Broken Tok)} → NamedHeader itself itself itself MayEnter quiet h fs ts rest → CoversHeader h rules
        → ReachesSome conditions Hit (r.header token_leaves token_view args n (input conditions 0 ts ns))
        (IsAt (IsHeader quiet h n) (input conditions 0 rest (ns ++ (flat_map rules_features args ++ fs)))) (header_literals h) rules
    header_reached quiet n ns {h = h} {rest = rest} (g.header {ps = ps} {ds = ds} {ss = ss} {fs = fs} {gs = gs} {name = name} {tokens = ts} is q k) covers =
        let features : List (Noted Tok) = flat_map rules_features args in
        let found : ReadHeader SignificantToken Tok Tok Tok = r.header_of token_leaves token_view args name ps ds ss in
        let regroups : ((ns ++ features) ++ fs) ++ gs ≡ ns ++ (features ++ (fs ++ gs)) =
        append_assoc (ns ++ features) fs gs ∙ append_assoc ns features (fs ++ gs) in
        known_as conditions Hit (IsAt (IsHeader quiet h n) (input conditions 0 rest (ns ++ (features ++ (fs ++ gs)))))
        (λ x same. as_header (ns ++ (features ++ (fs ++ gs))) quiet h n found rest x refl same)
        (regrouped conditions Hit
        (sym (append_assoc (flat_map parameter_literals ps) (flat_map dependency_literals ds) (flat_map dependency_literals ss)))
        (renoted conditions Hit regroups
        (by conditions Hit (header_is n name ts ns is)
        (then_one conditions Hit _ _
        (obeying_reached (options_broken (token_view conditions) name.tok args) (input conditions 0 ts (ns ++ features)) covers.options)
        (then_one conditions Hit _ _ (all_parameters_reached n (ns ++ features) q covers.each)
        (header_after name ps (after_parameters n ps) ((ns ++ features) ++ fs) k covers.undefined covers.starred))))))
