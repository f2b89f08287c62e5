-- The parser of headers, one rule at a time, and the steps of its loops.
use Rattle.std.proofs.Common.{◌≡◌, ℕ, Bool, true, false, List, [], ◌∷◌, ◌++◌, map, Option, Some, None, Ok, Err, refl, sym, ap}
use Rattle.std.specs.Option.{option_map}
use Rattle.justfile_vocabulary.specs.declared.token_kind.TokenKind.{TokenKind}
use Rattle.justfile_vocabulary.specs.declared.token_kind.TokenKind.TheVariants as kinds
use Rattle.justfile_model.specs.declared.level.Level.TheVariants.{Expression, Value}
use Rattle.justfile_model.specs.declared.parameter_kind.ParameterKind.{ParameterKind}
use Rattle.justfile_model.specs.declared.parameter_kind.ParameterKind.TheVariants.{Plus, Singular, Star}
use Rattle.justfile_model.specs.Readers.ExpressionReader as expressions
use Rattle.justfile_model.specs.Readers.HeaderReader as r
use Rattle.justfile_model.specs.Readers.HeaderReader.{ReadHeader, next_binding_number, obeying}
use Rattle.justfile_model.specs.Readers.ReaderState.{Counters, Leaves, ReadError, State, Taken, accept, accepted, expect, next_are, prepend, taken_or}
use Rattle.justfile_model.specs.Meanings.RecipeRules.{misplaced_broken, parameter_broken, second_broken, stars, undefined_broken}
use Rattle.justfile_model.specs.Meanings.Rules.{Broken}
use Rattle.justfile_model.specs.Trees.LeafView.{LeafView}
use Rattle.justfile_model.specs.Trees.Tree.{ArgumentRules, Dependency, DependencyArgument}
use Rattle.justfile_model.proofs.Readers.ExpressionReading.{advances, level_is}
use Rattle.justfile_model.proofs.Lists.Prepended.{after_keeps, after_nothing, after_refused, after_regroups}
use Rattle.justfile_model.proofs.Readers.ReadingSteps.{Goes, ItemRest, Keeps, Past, accepts, after_test, bind_alike, choose_alike, either, either_goes, expects, first, goes_after, keeps, loop_goes, loop_is, loop_keeps, past, past_then, test_alike, then, then_goes, there, weaken}

module _ {R T B : Type 0} where
  -- rules take no token
  pub obeying_keeps : (rules : List (Broken B)) (s : State R T B) → Keeps s (obeying rules s)
  obeying_keeps [] s = there s
  obeying_keeps (b ∷ bs) s = tt

module _ {R T A B S : Type 0} (leaves : Leaves R T A B S) where
  -- ---- what is read leaves fewer tokens, in the same run and at the same depth

  pub expression_goes : (s : State R T B) → Goes s (r.expression leaves s)
  expression_goes s = advances leaves (expressions.At Expression false s)

  pub value_is : (s : State R T B) → expressions.value leaves s ≡ expressions.read leaves (expressions.At Value false s)
  value_is s = sym (level_is leaves Value false s)

  pub value_goes : (s : State R T B) → Goes s (expressions.value leaves s)
  value_goes s = rw (value_is s) (advances leaves (expressions.At Value false s))

  pub accepted_keeps : (kind : TokenKind) (s : State R T B) → ItemRest s (accepted leaves kind s).1
  unfolding accepted
  accepted_keeps kind s = go (accept leaves kind s) (accepts leaves kind s)
    where
      go : (o : Taken R T B) → ((p : T × State R T B) → o ≡ Some p → Past s p.1) → ItemRest s (taken_or s o).1
      go None h = there s
      go (Some p) h = weaken s p.1 (h p refl)

  -- a number takes no token
  pub binding_keeps : (n : Counters) (s : State R T B) → Keeps s (next_binding_number leaves n s)
  unfolding next_binding_number
  binding_keeps n s = after_test (leaves.has_number n.bindings) _ _ (Keeps {X = ℕ × Counters} s) (λ _. there s) (λ _. tt)

  -- ---- paths

  pub path_rest_keeps : (s : State R T B) → Keeps s (r.path_rest leaves s)
  unfolding r.path_rest r.path_rest_rule
  path_rest_keeps =
      loop_keeps (λ s. s) (r.path_rest_rule leaves) (λ f h s.
      either s (accept leaves kinds.ColonColon s) _ _ (accepts leaves kinds.ColonColon s) (there s) (λ colons.
      then colons.1 (expect leaves kinds.Identifier colons.1) _ (keeps colons.1 _ (expects leaves kinds.Identifier colons.1))
      (λ name. after_keeps (leaves.name name.0 ∷ []) name.1 (f name.1) (h name.1))))

  pub path_rest_is : (s : State R T B) → r.path_rest leaves s ≡ r.path_rest_rule leaves (r.path_rest leaves) s
  unfolding r.path_rest r.path_rest_rule
  path_rest_is s =
      loop_is (λ s. s) (r.path_rest_rule leaves) (λ s f g same.
      choose_alike (accept leaves kinds.ColonColon s) _ _ _ _ (λ _. refl)
      (λ colons taken. bind_alike (expect leaves kinds.Identifier colons.1) _ _ (λ name is.
      ap (prepend (leaves.name name.0 ∷ [])) (same name.1
      (past_then s colons.1 name.1 (accepts leaves kinds.ColonColon s colons taken)
      (weaken colons.1 name.1 (past colons.1 _ name (expects leaves kinds.Identifier colons.1) is))).0)))) s

  pub path_goes : (s : State R T B) → Goes s (r.path leaves s)
  unfolding r.path
  path_goes s =
      first s (expect leaves kinds.Identifier s) _ (expects leaves kinds.Identifier s)
      (λ name. after_keeps (leaves.name name.0 ∷ []) name.1 (r.path_rest leaves name.1) (path_rest_keeps name.1))

  -- ---- arguments of dependencies

  pub starred_argument_goes : (before : List (DependencyArgument A B T)) (star : T) (s : State R T B) → Goes s (r.starred_argument leaves before star s)
  unfolding r.starred_argument
  starred_argument_goes before star s =
      let broken = second_broken (map leaves.position (stars before ++ star ∷ [])) in
      then_goes s (obeying broken s) _ (obeying_keeps broken s)
      (λ checked. first checked.1 (expressions.value leaves checked.1) _ (value_goes checked.1) (λ e. there e.1))

  pub dependency_argument_goes : (before : List (DependencyArgument A B T)) (s : State R T B) → Goes s (r.dependency_argument leaves before s)
  unfolding r.dependency_argument r.plain_argument
  dependency_argument_goes before s =
      either_goes s (accept leaves kinds.Asterisk s) _ _ (accepts leaves kinds.Asterisk s) (first s (r.expression leaves s) _ (expression_goes s) (λ e. there e.1))
      (λ star. keeps star.1 _ (starred_argument_goes before star.0 star.1))

  abbrev pub DependencyPlace : Type 0
  DependencyPlace = r.DependencyPlace leaves

  pub dependency_arguments_go : (x : DependencyPlace) → Goes x.1 (r.dependency_arguments leaves x)
  unfolding r.dependency_arguments r.dependency_arguments_rule
  dependency_arguments_go =
      loop_goes (λ x. x.1) (r.dependency_arguments_rule leaves) (λ f h x.
      either_goes x.1 (accept leaves kinds.ParenR x.1) _ _ (accepts leaves kinds.ParenR x.1)
      (first x.1 (r.dependency_argument leaves x.0 x.1) _ (dependency_argument_goes x.0 x.1) (λ a. keeps a.1 _ (h (x.0 ++ a.0 ∷ [], a.1))))
      (λ closer. there closer.1))

  pub dependency_arguments_is : (x : DependencyPlace) → r.dependency_arguments leaves x ≡ r.dependency_arguments_rule leaves (r.dependency_arguments leaves) x
  unfolding r.dependency_arguments r.dependency_arguments_rule
  dependency_arguments_is x =
      loop_is (λ x. x.1) (r.dependency_arguments_rule leaves) (λ x f g same.
      choose_alike (accept leaves kinds.ParenR x.1) _ _ _ _
      (λ _. bind_alike (r.dependency_argument leaves x.0 x.1) _ _
      (λ a is. same (x.0 ++ a.0 ∷ [], a.1) (past x.1 _ a (dependency_argument_goes x.0 x.1) is).0))
      (λ _ _. refl)) x

  -- ---- dependencies

  pub parenthesized_goes : (star : Option T) (s : State R T B) → Goes s (r.parenthesized leaves star s)
  unfolding r.parenthesized
  parenthesized_goes star s =
      first s (expect leaves kinds.ParenL s) _ (expects leaves kinds.ParenL s) (λ opener.
      then opener.1 (r.path leaves opener.1) _ (keeps opener.1 _ (path_goes opener.1)) (λ names.
      then names.1 (r.dependency_arguments leaves ([], names.1)) _ (keeps names.1 _ (dependency_arguments_go ([], names.1))) (λ arguments.
      let broken = misplaced_broken (option_map leaves.position star) (map leaves.position (stars arguments.0)) in
      then arguments.1 (obeying broken arguments.1) _ (obeying_keeps broken arguments.1) (λ checked. there checked.1))))

  pub bare_dependency_goes : (s : State R T B) → Goes s (r.bare_dependency leaves s)
  unfolding r.bare_dependency
  bare_dependency_goes s = first s (r.path leaves s) _ (path_goes s) (λ names. there names.1)

  pub dependency_goes : (s : State R T B) → Goes s (r.dependency leaves s)
  unfolding r.dependency
  dependency_goes s =
      after_test (next_are leaves (kinds.Identifier ∷ []) s) _ _ (Goes {X = Dependency A B S} s) (λ _. bare_dependency_goes s)
      (λ _. either_goes s (accept leaves kinds.Asterisk s) _ _ (accepts leaves kinds.Asterisk s) (parenthesized_goes None s)
      (λ star. keeps star.1 _ (parenthesized_goes (Some star.0) star.1)))

  abbrev Dependencies : Type 0
  Dependencies = List (Dependency A B S)

  pub dependencies_keep : (s : State R T B) → Keeps s (r.dependencies leaves s)
  unfolding r.dependencies r.dependencies_rule
  dependencies_keep =
      loop_keeps (λ s. s) (r.dependencies_rule leaves) (λ f h s.
      after_test (r.begins_dependency leaves s) _ _ (Keeps {X = Dependencies} s)
      (λ _. then s (r.dependency leaves s) _ (keeps s _ (dependency_goes s)) (λ d. after_keeps (d.0 ∷ []) d.1 (f d.1) (h d.1)))
      (λ _. there s))

  pub dependencies_is : (s : State R T B) → r.dependencies leaves s ≡ r.dependencies_rule leaves (r.dependencies leaves) s
  unfolding r.dependencies r.dependencies_rule
  dependencies_is s =
      loop_is (λ s. s) (r.dependencies_rule leaves) (λ s f g same.
      test_alike (r.begins_dependency leaves s) _ _ _ _
      (λ _. bind_alike (r.dependency leaves s) _ _
      (λ d is. ap (prepend (d.0 ∷ [])) (same d.1 (past s _ d (dependency_goes s) is).0)))
      (λ _. refl)) s

  some_dependency_keeps : (ds : Dependencies) (s : State R T B) → Keeps s (r.some_dependency leaves (ds, s))
  some_dependency_keeps [] s = tt
  some_dependency_keeps (d ∷ ds) s = there s

  pub subsequents_keep : (s : State R T B) → Keeps s (r.subsequents leaves s)
  unfolding r.subsequents
  subsequents_keep s =
      either s (accept leaves kinds.AmpersandAmpersand s) _ _ (accepts leaves kinds.AmpersandAmpersand s) (there s)
      (λ operator. then operator.1 (r.dependencies leaves operator.1) _ (dependencies_keep operator.1) (λ x. some_dependency_keeps x.0 x.1))

  -- ---- parameters

  pub default_value_keeps : (s : State R T B) → Keeps s (r.default_value leaves s)
  unfolding r.default_value
  default_value_keeps s =
      either s (accept leaves kinds.Equals s) _ _ (accepts leaves kinds.Equals s) (there s)
      (λ equals. then equals.1 (expressions.value leaves equals.1) _ (keeps equals.1 _ (value_goes equals.1)) (λ e. there e.1))

  pub nothing_after_keeps : (s : State R T B) → Keeps s (r.expect_no_name leaves s)
  unfolding r.expect_no_name
  nothing_after_keeps s = either s (accept leaves kinds.Identifier s) _ _ (accepts leaves kinds.Identifier s) (there s) (λ name. tt)

  module _ (view : R → LeafView A B) (rules : List (ArgumentRules A B)) where
    abbrev pub ParameterPlace : Type 0
    ParameterPlace = r.ParameterPlace leaves view rules

    abbrev pub Parameters : Type 0
    Parameters = r.Parameters leaves view rules

    pub named_parameter_goes : (kind : ParameterKind) (export : Bool) (x : Parameters) (s : State R T B)
        → Goes s (r.named_parameter leaves view rules kind export x s)
    unfolding r.named_parameter
    named_parameter_goes kind export x s =
        first s (expect leaves kinds.Identifier s) _ (expects leaves kinds.Identifier s) (λ name.
        then name.1 (r.default_value leaves name.1) _ (default_value_keeps name.1) (λ default.
        let broken = parameter_broken (view default.1.run) rules x.0 (r.parameter_of leaves kind export (leaves.name name.0) default.0) in
        then default.1 (obeying broken default.1) _ (obeying_keeps broken default.1) (λ checked.
        then checked.1 (next_binding_number leaves x.1 checked.1) _ (binding_keeps x.1 checked.1) (λ number. there number.1))))

    pub parameter_goes : (kind : ParameterKind) (x : ParameterPlace) → Goes x.1 (r.parameter leaves view rules kind x)
    unfolding r.parameter
    parameter_goes kind x =
        let dollar : Bool × State R T B = accepted leaves kinds.Dollar x.1 in
        goes_after x.1 dollar.1 _ (accepted_keeps kinds.Dollar x.1) (named_parameter_goes kind dollar.0 x.0 dollar.1)

    pub singulars_keep : (x : ParameterPlace) → Keeps x.1 (r.singulars leaves view rules x)
    unfolding r.singulars r.singulars_rule
    singulars_keep =
        loop_keeps (λ x. x.1) (r.singulars_rule leaves view rules) (λ f h x.
        after_test (r.begins_parameter leaves x.1) _ _ (Keeps {X = Parameters} x.1)
        (λ _. then x.1 (r.parameter leaves view rules Singular x) _ (keeps x.1 _ (parameter_goes Singular x)) (λ p. h p))
        (λ _. there x.1))

    pub singulars_is : (x : ParameterPlace) → r.singulars leaves view rules x ≡ r.singulars_rule leaves view rules (r.singulars leaves view rules) x
    unfolding r.singulars r.singulars_rule
    singulars_is x =
        loop_is (λ x. x.1) (r.singulars_rule leaves view rules) (λ x f g same.
        test_alike (r.begins_parameter leaves x.1) _ _ _ _
        (λ _. bind_alike (r.parameter leaves view rules Singular x) _ _
        (λ p is. same p (past x.1 _ p (parameter_goes Singular x) is).0))
        (λ _. refl)) x

    pub variadic_goes : (kind : ParameterKind) (x : ParameterPlace) → Goes x.1 (r.variadic leaves view rules kind x)
    unfolding r.variadic
    variadic_goes kind x =
        first x.1 (r.parameter leaves view rules kind x) _ (parameter_goes kind x) (λ p.
        then p.1 (r.expect_no_name leaves p.1) _ (nothing_after_keeps p.1) (λ end. there end.1))

    pub last_parameter_keeps : (x : ParameterPlace) → Keeps x.1 (r.last_parameter leaves view rules x)
    unfolding r.last_parameter
    last_parameter_keeps x =
        either x.1 (accept leaves kinds.Plus x.1) _ _ (accepts leaves kinds.Plus x.1)
        (either x.1 (accept leaves kinds.Asterisk x.1) _ _ (accepts leaves kinds.Asterisk x.1) (there x.1)
        (λ prefix. keeps prefix.1 _ (variadic_goes Star (x.0, prefix.1))))
        (λ prefix. keeps prefix.1 _ (variadic_goes Plus (x.0, prefix.1)))

    pub parameters_go : (n : Counters) (s : State R T B) → Goes s (r.parameters leaves view rules n s)
    unfolding r.parameters
    parameters_go n s =
        then_goes s (r.singulars leaves view rules (([], n), s)) _ (singulars_keep (([], n), s)) (λ ps.
        then_goes ps.1 (r.last_parameter leaves view rules ps) _ (last_parameter_keeps ps) (λ all.
        first all.1 (expect leaves kinds.Colon all.1) _ (expects leaves kinds.Colon all.1) (λ colon. there colon.1)))

    -- ---- headers

    pub header_goes : (n : Counters) (s : State R T B) → Goes s (r.header leaves view rules n s)
    unfolding r.header r.distinct_options
    header_goes n s =
        first s (expect leaves kinds.Identifier s) _ (expects leaves kinds.Identifier s) (λ name.
        then name.1 (r.distinct_options leaves view rules name.0 name.1) _ (obeying_keeps _ _) (λ options.
        then options.1 (r.parameters leaves view rules n options.1) _ (keeps options.1 _ (parameters_go n options.1)) (λ ps.
        let broken = undefined_broken (view ps.1.run) ps.0.0 rules in
        then ps.1 (obeying broken ps.1) _ (obeying_keeps broken ps.1) (λ checked.
        then checked.1 (r.dependencies leaves checked.1) _ (dependencies_keep checked.1) (λ priors.
        then priors.1 (r.subsequents leaves priors.1) _ (subsequents_keep priors.1) (λ others. there others.1))))))

  -- ---- a loop over the parts of a header: `done` was read before, and `s` is what is left

  module _ (done : List A) (s : State R T B) where
    -- a name of a path is read
    pub path_rest_go_on : (colons name : T) (next rest : State R T B) → accept leaves kinds.ColonColon s ≡ Some (colons, next)
        → expect leaves kinds.Identifier next ≡ Ok (name, rest)
        → prepend done (r.path_rest leaves s) ≡ prepend (done ++ leaves.name name ∷ []) (r.path_rest leaves rest)
    unfolding r.path_rest_rule
    path_rest_go_on colons name next rest h1 h2 = rw (path_rest_is s, h1, h2) (after_regroups done (leaves.name name ∷ []) (r.path_rest leaves rest))

    -- no colons follow
    pub path_rest_end : accept leaves kinds.ColonColon s ≡ None → prepend done (r.path_rest leaves s) ≡ Ok (done, s)
    unfolding r.path_rest_rule
    path_rest_end h = rw (path_rest_is s, h) (after_nothing done s)

    -- a name is missing
    pub path_rest_fail : (colons : T) (next : State R T B) (e : ReadError T B) → accept leaves kinds.ColonColon s ≡ Some (colons, next)
        → expect leaves kinds.Identifier next ≡ Err e → prepend done (r.path_rest leaves s) ≡ Err e
    unfolding r.path_rest_rule
    path_rest_fail colons next e h1 h2 = rw (path_rest_is s, h1, h2) (after_refused done e)

  module _ (done : List (Dependency A B S)) (s : State R T B) where
    -- a dependency is read
    pub dependencies_go_on : (d : Dependency A B S) (rest : State R T B) → r.begins_dependency leaves s ≡ true → r.dependency leaves s ≡ Ok (d, rest)
        → prepend done (r.dependencies leaves s) ≡ prepend (done ++ d ∷ []) (r.dependencies leaves rest)
    unfolding r.dependencies_rule
    dependencies_go_on d rest h1 h2 = rw (dependencies_is s, h1, h2) (after_regroups done (d ∷ []) (r.dependencies leaves rest))

    -- no dependency follows
    pub dependencies_end : r.begins_dependency leaves s ≡ false → prepend done (r.dependencies leaves s) ≡ Ok (done, s)
    unfolding r.dependencies_rule
    dependencies_end h = rw (dependencies_is s, h) (after_nothing done s)

    -- parsing a dependency fails
    pub dependencies_fail : (e : ReadError T B) → r.begins_dependency leaves s ≡ true → r.dependency leaves s ≡ Err e
        → prepend done (r.dependencies leaves s) ≡ Err e
    unfolding r.dependencies_rule
    dependencies_fail e h1 h2 = rw (dependencies_is s, h1, h2) (after_refused done e)

  module _ (x : DependencyPlace) where
    -- an argument is read
    pub dependency_arguments_go_on : (a : DependencyArgument A B T) (rest : State R T B) → accept leaves kinds.ParenR x.1 ≡ None
        → r.dependency_argument leaves x.0 x.1 ≡ Ok (a, rest) → r.dependency_arguments leaves x ≡ r.dependency_arguments leaves (x.0 ++ a ∷ [], rest)
    unfolding r.dependency_arguments_rule
    dependency_arguments_go_on a rest h1 h2 = rw (dependency_arguments_is x, h1, h2) refl

    -- the closing parenthesis is taken
    pub dependency_arguments_end : (closer : T) (rest : State R T B) → accept leaves kinds.ParenR x.1 ≡ Some (closer, rest)
        → r.dependency_arguments leaves x ≡ Ok (x.0, rest)
    unfolding r.dependency_arguments_rule
    dependency_arguments_end closer rest h = rw (dependency_arguments_is x, h) refl

    -- parsing an argument fails
    pub dependency_arguments_fail : (e : ReadError T B) → accept leaves kinds.ParenR x.1 ≡ None → r.dependency_argument leaves x.0 x.1 ≡ Err e
        → r.dependency_arguments leaves x ≡ Err e
    unfolding r.dependency_arguments_rule
    dependency_arguments_fail e h1 h2 = rw (dependency_arguments_is x, h1, h2) refl

  module _ (view : R → LeafView A B) (rules : List (ArgumentRules A B)) (x : ParameterPlace view rules) where
    -- a parameter is read
    pub singulars_go_on : (p : ParameterPlace view rules) → r.begins_parameter leaves x.1 ≡ true → r.parameter leaves view rules Singular x ≡ Ok p
        → r.singulars leaves view rules x ≡ r.singulars leaves view rules p
    unfolding r.singulars_rule
    singulars_go_on p h1 h2 = rw (singulars_is view rules x, h1, h2) refl

    -- no parameter that takes one argument follows
    pub singulars_end : r.begins_parameter leaves x.1 ≡ false → r.singulars leaves view rules x ≡ Ok x
    unfolding r.singulars_rule
    singulars_end h = rw (singulars_is view rules x, h) refl

    -- parsing a parameter fails
    pub singulars_fail : (e : ReadError T B) → r.begins_parameter leaves x.1 ≡ true → r.parameter leaves view rules Singular x ≡ Err e
        → r.singulars leaves view rules x ≡ Err e
    unfolding r.singulars_rule
    singulars_fail e h1 h2 = rw (singulars_is view rules x, h1, h2) refl
