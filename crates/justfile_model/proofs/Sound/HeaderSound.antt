-- Headers that are parsed derive, with the features that the parser notes. Their literals have texts, and they break none of the recipe's
-- rules.
use Rattle.std.proofs.Common.{◌≡◌, Bool, true, false, List, [], ◌∷◌, ◌++◌, map, Option, Some, None, Ok, refl, sym, subst, ap, ◌∙◌, append_assoc, append-nil}
use Rattle.std.specs.List.{flat_map}
use Rattle.std.specs.Option.{option_map}
use Rattle.std.proofs.lemmas.Bool.{or_parts}
use Rattle.std.proofs.lemmas.Grind.{flat_map-append}
use Rattle.justfile_vocabulary.specs.declared.token_kind.TokenKind.{TokenKind}
use Rattle.justfile_vocabulary.specs.declared.token_kind.TokenKind.TheVariants as kinds
use Rattle.justfile_model.specs.declared.level.Level.TheVariants as levels
use Rattle.justfile_model.specs.declared.parameter_kind.ParameterKind.{ParameterKind}
use Rattle.justfile_model.specs.declared.parameter_kind.ParameterKind.TheVariants.{Plus, Singular, Star}
use Rattle.justfile_model.specs.Grammars.Conditions.{Conditions}
use Rattle.justfile_model.specs.Readers.ExpressionReader as expressions
use Rattle.justfile_model.specs.Grammars.Expressions.{Tokens, IsKind, NotNext, BelowLimit}
use Rattle.justfile_model.specs.Grammars.Features.{Noted, rules_features}
use Rattle.justfile_model.specs.Grammars.Files.{dependency_literals, expr_literals, header_literals, optional_literals, parameter_literals}
use Rattle.justfile_model.specs.Readers.HeaderReader as r
use Rattle.justfile_model.specs.Readers.HeaderReader.{ReadHeader, next_binding_number, obeying}
use Rattle.justfile_model.specs.Grammars.Headers as g
use Rattle.justfile_model.specs.LiteralTexts.Literals.{Literal}
use Rattle.justfile_model.specs.Meanings.ReadAttribute.{token_view}
use Rattle.justfile_model.specs.Readers.ReaderState.{◌>>=◌, Counters, accepted, at, next_are, prepend, taken_or, with}
use Rattle.justfile_model.specs.Meanings.RecipeRules.{dependency_broken, header_broken, misplaced_broken, options_broken, parameter_broken, parameters_broken, second_broken, stars, undefined_broken}
use Rattle.justfile_model.specs.Meanings.Rules.{Broken}
use Rattle.justfile_model.specs.Lexing.SignificantTokens.{SignificantToken}
use Rattle.justfile_model.specs.Lexing.Tok.{Tok}
use Rattle.justfile_model.specs.Trees.Tree.{ArgumentRules, Dependency, DependencyArgument, Expr, Header, Parameter, itself}
use Rattle.justfile_model.specs.Readers.TreeReader.{Read, State, token_leaves}
use Rattle.justfile_model.proofs.Sound.ExpressionSound as e
use Rattle.justfile_model.proofs.Sound.ExpressionSound.{Derived, Here, again, alone, begins, ends, followed, plainly}
use Rattle.justfile_model.proofs.Completeness.HeaderCovers.{ReadArgument, kept, stars_more, stars_of_kept}
use Rattle.justfile_model.proofs.Readers.HeaderReading.{value_is}
use Rattle.justfile_model.proofs.Readers.Meets.{Met, both_met, features_met}
use Rattle.justfile_model.proofs.Readers.ReadingSteps.{after_test, loop_has}
use Rattle.justfile_model.proofs.Readers.Steps.{AreNext, Holds, after_accept, after_choose, failed, holds, if_expected, if_next, next_taken, of_ok, read_then, true_not_false, weaken}
use Rattle.justfile_model.proofs.Lists.Unchanged.{arguments_are}

-- rules that are obeyed are none that are broken
pub if_obeyed : {X : Type 0} {P : X × State → Type 0} (rules : List (Broken Tok)) (s : State) (f : Unit {0} × State → Read X) → (rules ≡ [] → Holds P (f (tt, s))) → Holds P (obeying rules s >>= f)
if_obeyed [] s f goes = goes refl
if_obeyed (b ∷ bs) s f goes = failed

-- no token of the kind comes next
pub is_left : (kind : TokenKind) (s : State) → next_are token_leaves (kind ∷ []) s ≡ false → NotNext kind s.left
is_left kind s = go s.left (next_taken (kind ∷ []) s)
  where
    go : (ts : Tokens) → (AreNext (kind ∷ []) ts → next_are token_leaves (kind ∷ []) s ≡ true) → next_are token_leaves (kind ∷ []) s ≡ false → NotNext kind ts
    go [] h e = tt
    go (t ∷ ts) h e = λ is. true_not_false (next_are token_leaves (kind ∷ []) s) (h (is, tt)) e

-- ---- the stars of arguments

-- these arguments have at most one star
abbrev AreFew : List ReadArgument → Type 0
AreFew arguments = second_broken (map token_leaves.position (stars arguments)) ≡ []

plain_few : (before : List ReadArgument) (value : Expr Tok Tok) → AreFew before → AreFew (before ++ record { star = None; value = value } ∷ [])
plain_few before value h =
    subst (λ (ts : List SignificantToken). second_broken (map token_leaves.position ts) ≡ []) (sym (stars_more before _ ∙ append-nil (stars before))) h

starred_few : (before : List ReadArgument) (star : SignificantToken) (value : Expr Tok Tok) → second_broken (map token_leaves.position (stars before ++ star ∷ [])) ≡ []
    → AreFew (before ++ record { star = Some star; value = value } ∷ [])
starred_few before star value h =
    subst (λ (ts : List SignificantToken). second_broken (map token_leaves.position ts) ≡ []) (sym (stars_more before _)) h

-- ---- an optional token before others

abbrev star_on : Option SignificantToken → Tokens → Tokens
star_on None ts = ts
star_on (Some star) ts = star ∷ ts

abbrev IsStar : Option SignificantToken → Type 0
IsStar None = Unit {0}
IsStar (Some star) = IsKind kinds.Asterisk star

-- the rules of more parameters
parameters_append : (conditions : Conditions) (rules : List (ArgumentRules Tok Tok)) (before ps qs : List (Parameter Tok Tok))
    → parameters_broken (token_view conditions) rules before ps ≡ [] → parameters_broken (token_view conditions) rules (before ++ ps) qs ≡ []
    → parameters_broken (token_view conditions) rules before (ps ++ qs) ≡ []
parameters_append conditions rules before [] qs h k = subst (λ l. parameters_broken (token_view conditions) rules l qs ≡ []) (append-nil before) k
parameters_append conditions rules before (p ∷ ps) qs h k =
    let parts = both_none (parameter_broken (token_view conditions) rules before p) (parameters_broken (token_view conditions) rules (before ++ p ∷ []) ps) h in
    rw (parts.0) (parameters_append conditions rules (before ++ p ∷ []) ps qs parts.1
    (subst (λ l. parameters_broken (token_view conditions) rules l qs ≡ []) (sym (append_assoc before (p ∷ []) ps)) k))
  where
    both_none : {X : Type 0} (xs ys : List X) → xs ++ ys ≡ [] → (xs ≡ []) × (ys ≡ [])
    both_none [] ys h = (refl, h)
    both_none (x ∷ xs) ys h = cc

module _ (conditions : Conditions) where
  -- trees with their tokens, under the limit
  abbrev PathRest : List Tok → Tokens → Tokens → Type 0
  PathRest = g.PathRest itself

  abbrev pub PathOf : List Tok → Tokens → Tokens → Type 0
  PathOf = g.PathOf itself

  abbrev NamedParameter : ParameterKind → Bool → Parameter Tok Tok → List (Noted Tok) → Tokens → Tokens → Type 0
  NamedParameter = g.NamedParameter itself itself (BelowLimit conditions.limit)

  abbrev ParameterOf : ParameterKind → Parameter Tok Tok → List (Noted Tok) → Tokens → Tokens → Type 0
  ParameterOf = g.ParameterOf itself itself (BelowLimit conditions.limit)

  abbrev Parameters : List (Parameter Tok Tok) → List (Noted Tok) → Tokens → Tokens → Type 0
  Parameters = g.Parameters itself itself (BelowLimit conditions.limit)

  abbrev DependencyArguments : List (DependencyArgument Tok Tok Tok) → List (Noted Tok) → Tokens → Tokens → Type 0
  DependencyArguments = g.DependencyArguments itself itself itself (BelowLimit conditions.limit)

  abbrev DependencyOf : Dependency Tok Tok Tok → List (Noted Tok) → Tokens → Tokens → Type 0
  DependencyOf = g.DependencyOf itself itself itself (BelowLimit conditions.limit)

  abbrev Dependencies : List (Dependency Tok Tok Tok) → List (Noted Tok) → Tokens → Tokens → Type 0
  Dependencies = g.Dependencies itself itself itself (BelowLimit conditions.limit)

  abbrev AllDependencies : (priors subsequents : List (Dependency Tok Tok Tok)) → List (Noted Tok) → Tokens → Tokens → Type 0
  AllDependencies = g.AllDependencies itself itself itself (BelowLimit conditions.limit)

  abbrev pub NamedHeader : Bool → Header Tok Tok Tok → List (Noted Tok) → Tokens → Tokens → Type 0
  NamedHeader = g.NamedHeader itself itself itself (BelowLimit conditions.limit)

  abbrev pub HeaderOf : Header Tok Tok Tok → List (Noted Tok) → Tokens → Tokens → Type 0
  HeaderOf = g.HeaderOf itself itself itself (BelowLimit conditions.limit)

  abbrev Value : Expr Tok Tok → List (Noted Tok) → Tokens → Tokens → Type 0
  Value = e.Value conditions 0

  value_sound : (s : State) → Here conditions 0 s → Holds (e.Derives conditions (e.Value conditions 0) 0 s) (expressions.value token_leaves s)
  value_sound s here = rw (value_is token_leaves s) (of_ok _ (e.sound conditions (expressions.At levels.Value false s) 0 here))

  -- ---- paths

  -- what is read from one place up to another, without features, derives by the rule
  pub record Passed (rule : Tokens → Tokens → Type 0) (s rest : State) : Type 0 where
    pub derives : rule s.left rest.left
    pub noted_is : rest.noted ≡ s.noted
    pub stays : Here conditions 0 rest

  -- as what derives without features
  abbrev pub quiet : {rule : Tokens → Tokens → Type 0} {s rest : State} → Passed rule s rest → Derived conditions (λ _ ts us. rule ts us) [] 0 s rest
  quiet {s = s} h = record { features = []; derives = h.derives; met = record { noted_is = h.noted_is ∙ sym (append-nil s.noted); cooks = tt }; stays = h.stays }

  -- tokens that come next
  pub passed : {rule : Tokens → Tokens → Type 0} {s : State} {ts rest : Tokens} → Here conditions 0 s → s.left ≡ ts → rule ts rest → Passed rule s (at s rest)
  passed {rule = rule} {rest = rest} here split derives =
      record { derives = subst (λ (l : Tokens). rule l rest) (sym split) derives; noted_is = refl; stays = here }

  -- after tokens that come next
  pub passing : {rule other : Tokens → Tokens → Type 0} {s rest : State} {ts us : Tokens} → s.left ≡ ts → (h : Passed rule (at s us) rest) → other ts rest.left
      → Passed other s rest
  passing {other = other} {rest = rest} split h derives =
      record { derives = subst (λ (l : Tokens). other l rest.left) (sym split) derives; noted_is = h.noted_is; stays = h.stays }

  abbrev IsPathRest : State → List Tok × State → Type 0
  IsPathRest s x = Passed (PathRest x.0) s x.1

  abbrev pub IsPath : State → List Tok × State → Type 0
  IsPath s x = Passed (PathOf x.0) s x.1

  path_rest_sound : (s : State) → Here conditions 0 s → Holds (IsPathRest s) (r.path_rest token_leaves s)
  unfolding r.path_rest r.path_rest_rule prepend
  path_rest_sound =
      loop_has (λ s. s) (r.path_rest_rule token_leaves) (λ s found. Here conditions 0 s → Holds (IsPathRest s) found) (λ s here. failed) (λ f h s here.
      if_next kinds.ColonColon s _ (λ not. holds (record { derives = g.last not; noted_is = refl; stays = here }))
      (λ colons t1 split kind. if_expected kinds.Identifier (at s t1) _ (λ name t2 split2 kind2.
      read_then (h (at s t2) here) (λ more rest. holds (passing (split ∙ ap (λ (ts : Tokens). colons ∷ ts) split2) rest (g.next kind kind2 rest.derives))))))

  pub path_sound : (s : State) → Here conditions 0 s → Holds (IsPath s) (r.path token_leaves s)
  unfolding r.path prepend
  path_sound s here =
      if_expected kinds.Identifier s _ (λ name t1 split kind.
      read_then (path_rest_sound (at s t1) here) (λ more rest. holds (passing split rest (g.path kind rest.derives))))

  -- ---- arguments of dependencies

  abbrev arguments_literals : List (DependencyArgument Tok Tok Tok) → List (Literal Tok)
  arguments_literals arguments = flat_map (λ a. expr_literals a.value) arguments

  -- an argument that can follow these, before any others
  record IsArgument (before : List ReadArgument) (s : State) (x : ReadArgument × State) : Type 0 where
    derived : Derived conditions (λ fs ts between. (more : List (DependencyArgument Tok Tok Tok)) (gs : List (Noted Tok)) (rest : Tokens)
        → DependencyArguments more gs between rest → DependencyArguments (kept x.0 ∷ more) (fs ++ gs) ts rest) (expr_literals x.0.value) 0 s x.1
    few : AreFew (before ++ x.0 ∷ [])

  argument_sound : (before : List ReadArgument) (s : State) → Here conditions 0 s → AreFew before
      → Holds (IsArgument before s) (r.dependency_argument token_leaves before s)
  unfolding r.dependency_argument r.plain_argument r.starred_argument
  argument_sound before s here few =
      if_next kinds.Asterisk s _
      (λ not. read_then (e.expression_sound conditions s here) (λ e found.
      holds (record { derived = again found (λ more gs rest h. g.plain found.derives h); few = plain_few before e.0 few })))
      (λ star t1 split kind. if_obeyed (second_broken (map token_leaves.position (stars before ++ star ∷ []))) (at s t1) _ (λ none.
      read_then (value_sound (at s t1) here) (λ e found.
      holds (record { derived = begins split (again found (λ more gs rest h. g.starred kind found.derives h)); few = starred_few before star e.0 none }))))

  abbrev DependencyPlace : Type 0
  DependencyPlace = List ReadArgument × State

  abbrev ReadArguments : Type 0
  ReadArguments = Read (List ReadArgument)

  -- more arguments that can follow the earlier ones
  record AreArguments (x y : DependencyPlace) : Type 0 where
    others : List ReadArgument
    all_are : y.0 ≡ x.0 ++ others
    derived : Derived conditions (DependencyArguments (map kept others)) (arguments_literals (map kept others)) 0 x.1 y.1
    few : AreFew y.0

  more_arguments : (before : List ReadArgument) (s : State) (x : ReadArgument × State) → IsArgument before s x → (y : DependencyPlace)
      → AreArguments (before ++ x.0 ∷ [], x.1) y → AreArguments (before, s) y
  more_arguments before s x one y h = record {
    others = x.0 ∷ h.others;
    all_are = h.all_are ∙ append_assoc before (x.0 ∷ []) h.others;
    derived = followed one.derived h.derived (one.derived.derives (map kept h.others) h.derived.features y.1.left h.derived.derives);
    few = h.few;
  }

  -- all arguments that are left are read
  abbrev AllArguments : DependencyPlace → ReadArguments → Type 0
  AllArguments x found = Here conditions 0 x.1 → AreFew x.0 → Holds (AreArguments x) found

  arguments_sound : (x : DependencyPlace) → AllArguments x (r.dependency_arguments token_leaves x)
  unfolding r.dependency_arguments r.dependency_arguments_rule
  arguments_sound =
      loop_has (λ x. x.1) (r.dependency_arguments_rule token_leaves) AllArguments (λ x here few. failed) (λ f h x here few.
      if_next kinds.ParenR x.1 _
      (λ not. read_then (argument_sound x.0 x.1 here few) (λ a one.
      weaken (h (x.0 ++ a.0 ∷ [], a.1) one.derived.stays one.few) (more_arguments x.0 x.1 a one)))
      (λ closer rest split kind.
      holds (record { others = []; all_are = sym (append-nil x.0); derived = begins split (plainly here (g.none kind)); few = few })))

  -- ---- dependencies

  -- a dependency that was read, after a star or not
  record IsStarred (star : Option SignificantToken) (s : State) (x : Dependency Tok Tok Tok × State) : Type 0 where
    derived : Derived conditions (λ fs ts rest. DependencyOf x.0 fs (star_on star ts) rest) (dependency_literals x.0) 0 s x.1
    unbroken : dependency_broken x.0 ≡ []

  abbrev IsDependency : State → Dependency Tok Tok Tok × State → Type 0
  IsDependency = IsStarred None

  starred_derives : (star : Option SignificantToken) → IsStar star → (opener : SignificantToken) (ts : Tokens) → {names : List Tok}
      {arguments : List (DependencyArgument Tok Tok Tok)} {fs : List (Noted Tok)} {next rest : Tokens} → IsKind kinds.ParenL opener → PathOf names ts next → DependencyArguments arguments fs next rest
      → DependencyOf (record { star = option_map token_leaves.star star; path = names; arguments = arguments }) fs (star_on star (opener ∷ ts)) rest
  starred_derives None h opener ts kind p a = g.plain kind p a
  starred_derives (Some star) h opener ts kind p a = g.starred h kind p a

  parenthesized_sound : (star : Option SignificantToken) → IsStar star → (s : State) → Here conditions 0 s
      → Holds (IsStarred star s) (r.parenthesized token_leaves star s)
  unfolding r.parenthesized
  parenthesized_sound star is_star s here =
      if_expected kinds.ParenL s _ (λ opener t1 split kind.
      read_then (path_sound (at s t1) here) (λ names path.
      read_then (arguments_sound ([], names.1) path.stays refl) (λ arguments found.
      if_obeyed (misplaced_broken (option_map token_leaves.position star) (map token_leaves.position (stars arguments.0))) arguments.1 _ (λ placed.
      holds (parenthesized_is star is_star s opener t1 names arguments split kind path found placed)))))
    where
      parenthesized_is : (star : Option SignificantToken) → IsStar star → (s : State) (opener : SignificantToken) (t1 : Tokens) (names : List Tok × State)
          (arguments : DependencyPlace) → s.left ≡ opener ∷ t1 → IsKind kinds.ParenL opener → IsPath (at s t1) names → AreArguments ([], names.1) arguments
          → misplaced_broken (option_map token_leaves.position star) (map token_leaves.position (stars arguments.0)) ≡ []
          → IsStarred star s (r.dependency_of token_leaves star names.0 arguments.0, arguments.1)
      parenthesized_is star is_star s opener t1 names arguments split kind path found placed =
          let of : List (DependencyArgument Tok Tok Tok) → Dependency Tok Tok Tok =
          λ all. record { star = option_map token_leaves.star star; path = names.0; arguments = all } in
          let V : List (DependencyArgument Tok Tok Tok) → Type 0 =
          λ all. Derived conditions (λ fs ts rest. DependencyOf (of all) fs (star_on star ts) rest) (dependency_literals (of all)) 0 s arguments.1 in
          let all_read = begins split (followed (quiet path) found.derived (starred_derives star is_star opener t1 kind path.derives found.derived.derives)) in
          subst (λ all. IsStarred star s (of all, arguments.1)) (sym (arguments_are token_leaves.star arguments.0))
          (record { derived = subst V (ap (map kept) (sym found.all_are)) all_read; unbroken = rw (stars_of_kept arguments.0, found.few) placed })

  bare_sound : (s : State) → Here conditions 0 s → Holds (IsDependency s) (r.bare_dependency token_leaves s)
  unfolding r.bare_dependency
  bare_sound s here = read_then (path_sound s here) (λ names path. holds (record { derived = again (quiet path) (g.bare path.derives); unbroken = refl }))

  after_star : (s : State) (star : SignificantToken) (rest : Tokens) → s.left ≡ star ∷ rest → (x : Dependency Tok Tok Tok × State)
      → IsStarred (Some star) (at s rest) x → IsDependency s x
  after_star s star rest split x h = record { derived = begins split (again h.derived h.derived.derives); unbroken = h.unbroken }

  dependency_sound : (s : State) → Here conditions 0 s → Holds (IsDependency s) (r.dependency token_leaves s)
  unfolding r.dependency
  dependency_sound s here =
      after_test (next_are token_leaves (kinds.Identifier ∷ []) s) _ _ (Holds (IsDependency s)) (λ _. bare_sound s here)
      (λ _. if_next kinds.Asterisk s _ (λ _. parenthesized_sound None tt s here)
      (λ star rest split kind. weaken (parenthesized_sound (Some star) kind (at s rest) here) (after_star s star rest split)))

  record AreDependencies (s : State) (x : List (Dependency Tok Tok Tok) × State) : Type 0 where
    derived : Derived conditions (Dependencies x.0) (flat_map dependency_literals x.0) 0 s x.1
    unbroken : flat_map dependency_broken x.0 ≡ []

  dependencies_sound : (s : State) → Here conditions 0 s → Holds (AreDependencies s) (r.dependencies token_leaves s)
  unfolding r.dependencies r.dependencies_rule prepend
  dependencies_sound =
      loop_has (λ s. s) (r.dependencies_rule token_leaves) (λ s found. Here conditions 0 s → Holds (AreDependencies s) found) (λ s here. failed) (λ f h s here.
      after_test (r.begins_dependency token_leaves s) _ _ (Holds (AreDependencies s))
      (λ _. read_then (dependency_sound s here) (λ d one. read_then (h d.1 one.derived.stays) (λ more others.
      holds (record { derived = followed one.derived others.derived (g.more one.derived.derives others.derived.derives); unbroken = rw (one.unbroken) others.unbroken }))))
      (λ none.
      let bare = or_parts _ (next_are token_leaves (kinds.ParenL ∷ []) s) none in
      let left = or_parts (next_are token_leaves (kinds.Identifier ∷ []) s) (next_are token_leaves (kinds.Asterisk ∷ []) s) bare.0 in
      holds (record {
        derived = plainly here (g.none (is_left kinds.Identifier s left.0) (is_left kinds.Asterisk s left.1) (is_left kinds.ParenL s bare.1));
        unbroken = refl;
      })))

  -- dependencies after `&&`, or none
  data IsSubsequents (s : State) : List (Dependency Tok Tok Tok) × State → Type 0 where
    no_subsequents : NotNext kinds.AmpersandAmpersand s.left → IsSubsequents s ([], s)
    some_subsequents : {operator : SignificantToken} {next : Tokens} {d : Dependency Tok Tok Tok} {others : List (Dependency Tok Tok Tok)} {rest : State}
        → s.left ≡ operator ∷ next → IsKind kinds.AmpersandAmpersand operator → AreDependencies (at s next) (d ∷ others, rest)
        → IsSubsequents s (d ∷ others, rest)

  subsequents_sound : (s : State) → Here conditions 0 s → Holds (IsSubsequents s) (r.subsequents token_leaves s)
  unfolding r.subsequents
  subsequents_sound s here =
      if_next kinds.AmpersandAmpersand s _ (λ not. holds (no_subsequents not))
      (λ operator next split kind. read_then (dependencies_sound (at s next) here) (λ x h. some_are s operator next split kind x.0 x.1 h))
    where
      some_are : (s : State) (operator : SignificantToken) (next : Tokens) → s.left ≡ operator ∷ next → IsKind kinds.AmpersandAmpersand operator
          → (ds : List (Dependency Tok Tok Tok)) (rest : State) → AreDependencies (at s next) (ds, rest)
          → Holds (IsSubsequents s) (r.some_dependency token_leaves (ds, rest))
      some_are s operator next split kind [] rest h = failed
      some_are s operator next split kind (d ∷ ds) rest h = holds (some_subsequents split kind h)

  -- all dependencies of a recipe
  record AreAll (s : State) (ds ss : List (Dependency Tok Tok Tok)) (rest : State) : Type 0 where
    derived : Derived conditions (AllDependencies ds ss) (flat_map dependency_literals ds ++ flat_map dependency_literals ss) 0 s rest
    unbroken : flat_map dependency_broken ds ++ flat_map dependency_broken ss ≡ []

  all_are : (s : State) (ds : List (Dependency Tok Tok Tok) × State) → AreDependencies s ds → (ss : List (Dependency Tok Tok Tok) × State)
      → IsSubsequents ds.1 ss → AreAll s ds.0 ss.0 ss.1
  all_are s ds h ss (no_subsequents not) = record { derived = alone h.derived (g.priors h.derived.derives not); unbroken = rw (h.unbroken) refl }
  all_are s ds h ss (some_subsequents split kind k) =
      let found = ends split h.derived in
      record { derived = followed found k.derived (g.both found.derives kind k.derived.derives); unbroken = rw (h.unbroken) k.unbroken }

  -- ---- parameters

  -- the default after the name of a parameter, if it has one
  abbrev IsDefault : State → Option (Expr Tok Tok) × State → Type 0
  IsDefault s x =
      Derived conditions (λ fs ts rest. (kind : ParameterKind) (export : Bool) (name : SignificantToken) → IsKind kinds.Identifier name
      → NamedParameter kind export (r.parameter_of token_leaves kind export name.tok x.0) fs (name ∷ ts) rest) (optional_literals expr_literals x.0) 0 s x.1

  default_sound : (s : State) → Here conditions 0 s → Holds (IsDefault s) (r.default_value token_leaves s)
  unfolding r.default_value
  default_sound s here =
      if_next kinds.Equals s _ (λ not. holds (plainly here (λ kind export name is. g.required is not)))
      (λ equals t1 split kind2. read_then (value_sound (at s t1) here) (λ e found.
      holds (begins split (again found (λ kind export name is_name. g.optional is_name kind2 found.derives)))))

  module _ (rules : List (ArgumentRules Tok Tok)) where
    -- the parameters so far, and the counters
    abbrev ReadParameters : Type 0
    ReadParameters = List (Parameter Tok Tok) × Counters

    abbrev ParameterPlace : Type 0
    ParameterPlace = ReadParameters × State

    -- one more parameter, which agrees with what an `arg` attribute sets for it
    record IsOne (rule : Parameter Tok Tok → List (Noted Tok) → Tokens → Tokens → Type 0) (before : List (Parameter Tok Tok)) (s : State) (y : ParameterPlace)
        : Type 0 where
      one : Parameter Tok Tok
      all_are : y.0.0 ≡ before ++ one ∷ []
      derived : Derived conditions (rule one) (parameter_literals one) 0 s y.1
      unbroken : parameter_broken (token_view conditions) rules before one ≡ []

    named_sound : (kind : ParameterKind) (export : Bool) (x : ReadParameters) (s : State) → Here conditions 0 s
        → Holds (IsOne (NamedParameter kind export) x.0 s) (r.named_parameter token_leaves token_view rules kind export x s)
    unfolding r.named_parameter next_binding_number
    named_sound kind export x s here =
        if_expected kinds.Identifier s _ (λ name t1 split is_name.
        read_then (default_sound (at s t1) here) (λ default found.
        let p = r.parameter_of token_leaves kind export name.tok default.0 in
        if_obeyed (parameter_broken (token_view default.1.run) rules x.0 p) default.1 _ (λ none. holds (record {
          one = p;
          all_are = refl;
          derived = begins split (again found (found.derives kind export name is_name));
          unbroken = subst (λ run. parameter_broken (token_view run) rules x.0 p ≡ []) found.stays.1 none;
        }))))

    exported_one : (kind : ParameterKind) (before : List (Parameter Tok Tok)) (s : State) (dollar : SignificantToken) (rest : Tokens) → s.left ≡ dollar ∷ rest
        → IsKind kinds.Dollar dollar → (y : ParameterPlace) → IsOne (NamedParameter kind true) before (at s rest) y → IsOne (ParameterOf kind) before s y
    exported_one kind before s dollar rest split is_dollar y h =
        record { one = h.one; all_are = h.all_are; derived = begins split (again h.derived (g.exported is_dollar h.derived.derives)); unbroken = h.unbroken }

    unexported_one : (kind : ParameterKind) (before : List (Parameter Tok Tok)) (s : State) (y : ParameterPlace)
        → IsOne (NamedParameter kind false) before s y → IsOne (ParameterOf kind) before s y
    unexported_one kind before s y h =
        record { one = h.one; all_are = h.all_are; derived = again h.derived (g.unexported h.derived.derives); unbroken = h.unbroken }

    parameter_sound : (kind : ParameterKind) (x : ParameterPlace) → Here conditions 0 x.1
        → Holds (IsOne (ParameterOf kind) x.0.0 x.1) (r.parameter token_leaves token_view rules kind x)
    unfolding r.parameter accepted
    parameter_sound kind x here =
        let next = r.named_parameter token_leaves token_view rules kind in
        after_accept kinds.Dollar x.1 (λ o. Holds (IsOne (ParameterOf kind) x.0.0 x.1) (next (taken_or x.1 o).0 x.0 (taken_or x.1 o).1))
        (λ not. weaken (named_sound kind false x.0 x.1 here) (unexported_one kind x.0.0 x.1))
        (λ dollar rest split is_dollar. weaken (named_sound kind true x.0 (at x.1 rest) here) (exported_one kind x.0.0 x.1 dollar rest split is_dollar))

    -- more parameters, which agree with what `arg` attributes set for them
    record AreMore (rule : List (Parameter Tok Tok) → List (Noted Tok) → Tokens → Tokens → Type 0) (x y : ParameterPlace) : Type 0 where
      others : List (Parameter Tok Tok)
      all_are : y.0.0 ≡ x.0.0 ++ others
      derived : Derived conditions (rule others) (flat_map parameter_literals others) 0 x.1 y.1
      unbroken : parameters_broken (token_view conditions) rules x.0.0 others ≡ []

    -- before any that may follow
    abbrev Leading : List (Parameter Tok Tok) → List (Noted Tok) → Tokens → Tokens → Type 0
    Leading ps fs ts between = (more : List (Parameter Tok Tok)) (gs : List (Noted Tok)) (rest : Tokens) → Parameters more gs between rest
        → Parameters (ps ++ more) (fs ++ gs) ts rest

    -- before the colon
    abbrev Ending : List (Parameter Tok Tok) → List (Noted Tok) → Tokens → Tokens → Type 0
    Ending ps fs ts between = (colon : SignificantToken) (rest : Tokens) → between ≡ colon ∷ rest → IsKind kinds.Colon colon → Parameters ps fs ts rest

    one_before : (x y z : ParameterPlace) → IsOne (ParameterOf Singular) x.0.0 x.1 y → AreMore Leading y z → AreMore Leading x z
    one_before x y z h k =
        let found : Derived conditions (ParameterOf Singular h.one) (parameter_literals h.one) 0 x.1 y.1 = h.derived in
        let later : Derived conditions (Leading k.others) (flat_map parameter_literals k.others) 0 y.1 z.1 = k.derived in
        record {
          others = h.one ∷ k.others;
          all_are = k.all_are ∙ ap (λ ps. ps ++ k.others) h.all_are ∙ append_assoc x.0.0 (h.one ∷ []) k.others;
          derived = followed found later (λ more gs rest m.
              subst (λ (fs : List (Noted Tok)). Parameters (h.one ∷ (k.others ++ more)) fs x.1.left rest) (sym (append_assoc found.features later.features gs))
              (g.more found.derives (later.derives more gs rest m)));
          unbroken = rw (h.unbroken) (subst (λ before. parameters_broken (token_view conditions) rules before k.others ≡ []) h.all_are k.unbroken);
        }

    abbrev AllSingulars : ParameterPlace → Read ReadParameters → Type 0
    AllSingulars x found = Here conditions 0 x.1 → Holds (AreMore Leading x) found

    singulars_sound : (x : ParameterPlace) → AllSingulars x (r.singulars token_leaves token_view rules x)
    unfolding r.singulars r.singulars_rule
    singulars_sound =
        loop_has (λ x. x.1) (r.singulars_rule token_leaves token_view rules) AllSingulars (λ x here. failed) (λ f h x here.
        after_test (r.begins_parameter token_leaves x.1) _ _ (Holds (AreMore Leading x))
        (λ _. read_then (parameter_sound Singular x here) (λ p one. weaken (h p one.derived.stays) (λ z k. one_before x p z one k)))
        (λ _. holds (record { others = []; all_are = sym (append-nil x.0.0); derived = plainly here (λ more gs rest m. m); unbroken = refl })))

    -- a parameter that takes several arguments, before the colon
    variadic_derives : (kind : ParameterKind) → (prefix_kind : TokenKind) → (prefix : SignificantToken) → IsKind prefix_kind prefix
        → ((p : Parameter Tok Tok) (fs : List (Noted Tok)) (tokens : Tokens) (colon : SignificantToken) (rest : Tokens)
        → ParameterOf kind p fs tokens (colon ∷ rest) → IsKind kinds.Colon colon → Parameters (p ∷ []) fs (prefix ∷ tokens) rest)
        → (x : ReadParameters) (s : State) (t1 : Tokens) → s.left ≡ prefix ∷ t1 → Here conditions 0 s
        → Holds (AreMore Ending (x, s)) (r.variadic token_leaves token_view rules kind (x, at s t1))
    unfolding r.variadic r.expect_no_name
    variadic_derives kind prefix_kind prefix is_prefix derive x s t1 split here =
        read_then (parameter_sound kind (x, at s t1) here) (λ p h.
        after_choose kinds.Identifier p.1 _ _ (λ (o : Read (Unit {0})). Holds (AreMore Ending (x, s)) (o >>= λ (end : Unit {0} × State). Ok (p.0, end.1)))
        (λ not. holds (record {
          others = h.one ∷ [];
          all_are = h.all_are;
          derived = begins split (alone h.derived (λ colon rest split2 is_colon.
              derive h.one h.derived.features t1 colon rest (ends split2 h.derived).derives is_colon));
          unbroken = rw (h.unbroken) refl;
        }))
        (λ name rest split2 is_name. failed))

    last_sound : (x : ParameterPlace) → Here conditions 0 x.1 → Holds (AreMore Ending x) (r.last_parameter token_leaves token_view rules x)
    unfolding r.last_parameter
    last_sound x here =
        if_next kinds.Plus x.1 _
        (λ _. if_next kinds.Asterisk x.1 _
        (λ _. holds (record {
          others = [];
          all_are = sym (append-nil x.0.0);
          derived = plainly here (λ colon rest split is_colon. subst (λ (ts : Tokens). Parameters [] [] ts rest) (sym split) (g.none is_colon));
          unbroken = refl;
        }))
        (λ prefix t1 split is_star. variadic_derives Star kinds.Asterisk prefix is_star (λ _ _ tokens colon rest p is_colon. g.star is_star p is_colon) x.0 x.1 t1 split here))
        (λ prefix t1 split is_plus. variadic_derives Plus kinds.Plus prefix is_plus (λ _ _ tokens colon rest p is_colon. g.plus is_plus p is_colon) x.0 x.1 t1 split here)

    -- all parameters, and the colon
    record AreParameters (s : State) (y : ParameterPlace) : Type 0 where
      derived : Derived conditions (Parameters y.0.0) (flat_map parameter_literals y.0.0) 0 s y.1
      unbroken : parameters_broken (token_view conditions) rules [] y.0.0 ≡ []

    all_parameters : (n : Counters) (s : State) (ps : ParameterPlace) → AreMore Leading (([], n), s) ps → (all : ParameterPlace) → AreMore Ending ps all
        → (colon : SignificantToken) (rest : Tokens) → all.1.left ≡ colon ∷ rest → IsKind kinds.Colon colon → AreParameters s (all.0, at all.1 rest)
    all_parameters n s ps h all k colon rest split is_colon =
        let found : Derived conditions (Leading h.others) (flat_map parameter_literals h.others) 0 s ps.1 = h.derived in
        let later : Derived conditions (Ending k.others) (flat_map parameter_literals k.others) 0 ps.1 all.1 = k.derived in
        let whole : all.0.0 ≡ h.others ++ k.others = k.all_are ∙ ap (λ l. l ++ k.others) h.all_are in
        subst (λ (l : List (Parameter Tok Tok)). AreParameters s ((l, all.0.1), at all.1 rest)) (sym whole) (record {
          derived = subst (λ ls. Derived conditions (Parameters (h.others ++ k.others)) ls 0 s (at all.1 rest)) (sym (flat_map-append parameter_literals h.others k.others))
              (followed found later (found.derives k.others later.features rest (later.derives colon rest split is_colon)));
          unbroken = parameters_append conditions rules [] h.others k.others h.unbroken
              (subst (λ before. parameters_broken (token_view conditions) rules before k.others ≡ []) h.all_are k.unbroken);
        })

    parameters_sound : (n : Counters) (s : State) → Here conditions 0 s → Holds (AreParameters s) (r.parameters token_leaves token_view rules n s)
    unfolding r.parameters
    parameters_sound n s here =
        read_then (singulars_sound (([], n), s) here) (λ ps first.
        read_then (last_sound ps first.derived.stays) (λ all last.
        if_expected kinds.Colon all.1 _ (λ colon rest split is_colon. holds (all_parameters n s ps first all last colon rest split is_colon))))

    -- ---- headers

    abbrev pub header_of : Bool → ReadHeader SignificantToken Tok Tok Tok → Header Tok Tok Tok
    header_of quiet h =
        record { quiet = quiet; name = h.name.tok; parameters = h.parameters; priors = h.priors; subsequents = h.subsequents }

    -- a header that was parsed: the features of its `arg` attributes are noted at the name, and no rule is broken
    pub record IsHeader (s : State) (x : (ReadHeader SignificantToken Tok Tok Tok × Counters) × State) : Type 0 where
      pub features : List (Noted Tok)
      pub derives : (quiet : Bool) → NamedHeader quiet (header_of quiet x.0.0) features s.left x.1.left
      pub met : Met conditions.expander (flat_map rules_features rules ++ features) (header_literals (header_of true x.0.0)) s.noted x.1.noted
      pub stays : Here conditions 0 x.1
      pub options_unbroken : options_broken (token_view conditions) x.0.0.name.tok rules ≡ []
      pub parameters_unbroken : parameters_broken (token_view conditions) rules [] x.0.0.parameters ≡ []
      pub none_undefined : undefined_broken (token_view conditions) x.0.0.parameters rules ≡ []
      pub stars_unbroken : header_broken (header_of true x.0.0) ≡ []

    pub header_sound : (n : Counters) (s : State) → Here conditions 0 s → Holds (IsHeader s) (r.header token_leaves token_view rules n s)
    unfolding r.header r.distinct_options
    header_sound n s here =
        let noted_here : List (Noted Tok) = flat_map rules_features rules in
        if_expected kinds.Identifier s _ (λ name t1 split is_name.
        if_obeyed (options_broken (token_view s.run) name.tok rules) (with noted_here (at s t1)) _ (λ apart.
        read_then (parameters_sound n (with noted_here (at s t1)) here) (λ ps parameters.
        let p : Derived conditions (Parameters ps.0.0) (flat_map parameter_literals ps.0.0) 0 (with noted_here (at s t1)) ps.1 = parameters.derived in
        if_obeyed (undefined_broken (token_view ps.1.run) ps.0.0 rules) ps.1 _ (λ defined.
        read_then (dependencies_sound ps.1 p.stays) (λ priors before.
        read_then (subsequents_sound priors.1 before.derived.stays) (λ others after.
        let all = all_are ps.1 priors before others after in
        let d : Derived conditions (AllDependencies priors.0 others.0) (flat_map dependency_literals priors.0 ++ flat_map dependency_literals others.0) 0 ps.1 others.1 =
        all.derived in
        holds (record {
          features = p.features ++ d.features;
          derives = λ quiet.
              subst (λ (ts : Tokens). NamedHeader quiet (header_of quiet (r.header_of token_leaves token_view rules name ps.0.0 priors.0 others.0)) (p.features ++ d.features) ts others.1.left)
              (sym split) (g.header is_name p.derives d.derives);
          met = subst (λ ls. Met conditions.expander (noted_here ++ (p.features ++ d.features)) ls s.noted others.1.noted)
              (sym (append_assoc (flat_map parameter_literals ps.0.0) (flat_map dependency_literals priors.0) (flat_map dependency_literals others.0)))
              (both_met (features_met noted_here) (both_met p.met d.met));
          stays = d.stays;
          options_unbroken = subst (λ run. options_broken (token_view run) name.tok rules ≡ []) here.1 apart;
          parameters_unbroken = parameters.unbroken;
          none_undefined = subst (λ run. undefined_broken (token_view run) ps.0.0 rules ≡ []) p.stays.1 defined;
          stars_unbroken = all.unbroken;
        })))))))
