-- Parses the headers of recipes from left to right, up to the first error, and numbers their parameters.
use Rattle.std.specs.Prelude.{ℕ, ◌+◌, Bool, false, ◌||◌, List, [], ◌∷◌, ◌++◌, length, map, Option, Some, None, Ok, Err, if◌then◌else◌}
use Rattle.std.specs.List.{flat_map}
use Rattle.std.specs.Option.{option_map}
use Rattle.justfile_model.specs.declared.parameter_kind.ParameterKind.{ParameterKind}
use Rattle.justfile_model.specs.declared.parameter_kind.ParameterKind.TheVariants.{Plus, Singular, Star}
use Rattle.justfile_vocabulary.specs.declared.token_kind.TokenKind.TheVariants as kinds
use Rattle.justfile_model.specs.declared.level.Level.TheVariants.{Expression}
use Rattle.justfile_model.specs.Readers.ExpressionReader as expressions
use Rattle.justfile_model.specs.Grammars.Features.{rules_features}
use Rattle.justfile_model.specs.Readers.ReaderState.{◌>>=◌, AfterVariadic, BreaksRule, Counters, Leaves, NoNumber, Read, State, Unexpected, accept, accepted, choose, expect, next_are, prepend, refused, with}
use Rattle.justfile_model.specs.Meanings.RecipeRules.{misplaced_broken, options_broken, parameter_broken, rules_for, second_broken, stars, undefined_broken}
use Rattle.justfile_model.specs.Lists.Recursive.{recursive}
use Rattle.justfile_model.specs.Meanings.Rules.{Broken}
use Rattle.justfile_model.specs.Trees.LeafView.{LeafView}
use Rattle.justfile_model.specs.Trees.Tree.{ArgumentRules, Dependency, DependencyArgument, Expr, Parameter, over_dependency_argument}

abbrev pub with_bindings : ℕ → Counters → Counters
with_bindings bindings n = record { bindings = bindings; constants = n.constants; recipes = n.recipes }

-- The first of these broken rules, if there is one, is the error.
abbrev pub obeying : {R T B : Type 0} → List (Broken B) → State R T B → Read R T B (Unit {0})
obeying [] s = Ok (tt, s)
obeying (b ∷ bs) s = Err (BreaksRule b)

-- the header of a recipe without its `@`, with the token of its name
pub record ReadHeader (T A B S : Type 0) : Type 0 where
  pub name : T
  pub parameters : List (Parameter A B)
  pub priors : List (Dependency A B S)
  pub subsequents : List (Dependency A B S)

module _ {R T A B S : Type 0} (leaves : Leaves R T A B S) where
  abbrev pub expression : State R T B → Read R T B (Expr A B)
  expression s = expressions.read leaves (expressions.At Expression false s)

  -- the number of the next binding
  unfoldable pub next_binding_number : Counters → State R T B → Read R T B (ℕ × Counters)
  next_binding_number n s = if leaves.has_number n.bindings then Ok ((n.bindings, with_bindings (n.bindings + 1) n), s) else Err (NoNumber n)

  -- ---- paths

  abbrev pub no_names : State R T B → Read R T B (List A)
  no_names s = Err (Unexpected None)

  unfoldable pub path_rest_rule : (State R T B → Read R T B (List A)) → State R T B → Read R T B (List A)
  path_rest_rule read s =
      choose (accept leaves kinds.ColonColon s) (Ok ([], s)) (λ colons. do
        name ← expect leaves kinds.Identifier colons.1
        prepend (leaves.name name.0 ∷ []) (read name.1))

  -- the names of a path after the first one
  unfoldable pub path_rest : State R T B → Read R T B (List A)
  path_rest = recursive (λ s. length s.left) no_names path_rest_rule

  unfoldable pub path : State R T B → Read R T B (List A)
  path s = do
    first ← expect leaves kinds.Identifier s
    prepend (leaves.name first.0 ∷ []) (path_rest first.1)

  -- ---- dependencies

  unfoldable pub plain_argument : State R T B → Read R T B (DependencyArgument A B T)
  plain_argument s = do
    e ← expression s
    Ok (record { star = None; value = e.0 }, e.1)

  -- an argument after its star; a second star among the arguments of a dependency is an error
  unfoldable pub starred_argument : (before : List (DependencyArgument A B T)) (star : T) → State R T B → Read R T B (DependencyArgument A B T)
  starred_argument before star s = do
    checked ← obeying (second_broken (map leaves.position (stars before ++ star ∷ []))) s
    e ← expressions.value leaves checked.1
    Ok (record { star = Some star; value = e.0 }, e.1)

  -- an argument of a dependency, after the earlier ones
  unfoldable pub dependency_argument : (before : List (DependencyArgument A B T)) → State R T B → Read R T B (DependencyArgument A B T)
  dependency_argument before s = choose (accept leaves kinds.Asterisk s) (plain_argument s) (λ star. starred_argument before star.0 star.1)

  -- the arguments so far, and the state after them
  abbrev pub DependencyPlace : Type 0
  DependencyPlace = List (DependencyArgument A B T) × State R T B

  abbrev pub no_dependency_arguments : DependencyPlace → Read R T B (List (DependencyArgument A B T))
  no_dependency_arguments x = Err (Unexpected None)

  unfoldable pub dependency_arguments_rule : (DependencyPlace → Read R T B (List (DependencyArgument A B T))) → DependencyPlace → Read R T B (List (DependencyArgument A B T))
  dependency_arguments_rule read x =
      choose (accept leaves kinds.ParenR x.1)
      (do
        a ← dependency_argument x.0 x.1
        read (x.0 ++ a.0 ∷ [], a.1))
      (λ closer. Ok (x.0, closer.1))

  -- the arguments after those so far, up to and including the closing parenthesis
  unfoldable pub dependency_arguments : DependencyPlace → Read R T B (List (DependencyArgument A B T))
  dependency_arguments = recursive (λ x. length x.1.left) no_dependency_arguments dependency_arguments_rule

  -- the dependency with these names and arguments, and with the projections of its stars
  abbrev pub dependency_of : Option T → List A → List (DependencyArgument A B T) → Dependency A B S
  dependency_of star names arguments =
      record { star = option_map leaves.star star; path = names; arguments = map (over_dependency_argument (λ x. x) (λ x. x) leaves.star) arguments }

  -- a path and arguments in parentheses, after an optional star
  unfoldable pub parenthesized : (star : Option T) → State R T B → Read R T B (Dependency A B S)
  parenthesized star s = do
    opener ← expect leaves kinds.ParenL s
    names ← path opener.1
    arguments ← dependency_arguments ([], names.1)
    checked ← obeying (misplaced_broken (option_map leaves.position star) (map leaves.position (stars arguments.0))) arguments.1
    Ok (dependency_of star names.0 arguments.0, checked.1)

  unfoldable pub bare_dependency : State R T B → Read R T B (Dependency A B S)
  bare_dependency s = do
    names ← path s
    Ok (dependency_of None names.0 [], names.1)

  unfoldable pub dependency : State R T B → Read R T B (Dependency A B S)
  dependency s =
      if next_are leaves (kinds.Identifier ∷ []) s then bare_dependency s
      else choose (accept leaves kinds.Asterisk s) (parenthesized None s) (λ star. parenthesized (Some star.0) star.1)

  -- the next token begins a dependency
  abbrev pub begins_dependency : State R T B → Bool
  begins_dependency s = next_are leaves (kinds.Identifier ∷ []) s || next_are leaves (kinds.Asterisk ∷ []) s || next_are leaves (kinds.ParenL ∷ []) s

  abbrev pub no_dependencies : State R T B → Read R T B (List (Dependency A B S))
  no_dependencies s = Err (Unexpected None)

  unfoldable pub dependencies_rule : (State R T B → Read R T B (List (Dependency A B S))) → State R T B → Read R T B (List (Dependency A B S))
  dependencies_rule read s =
      if begins_dependency s then (do
        d ← dependency s
        prepend (d.0 ∷ []) (read d.1))
      else Ok ([], s)

  -- dependencies, as long as the next token begins one
  unfoldable pub dependencies : State R T B → Read R T B (List (Dependency A B S))
  dependencies = recursive (λ s. length s.left) no_dependencies dependencies_rule

  abbrev pub some_dependency : List (Dependency A B S) × State R T B → Read R T B (List (Dependency A B S))
  some_dependency ([], s) = Err (refused Unexpected s)
  some_dependency (d ∷ ds, s) = Ok (d ∷ ds, s)

  -- the dependencies after `&&`, at least one, if `&&` is next
  unfoldable pub subsequents : State R T B → Read R T B (List (Dependency A B S))
  subsequents s = choose (accept leaves kinds.AmpersandAmpersand s) (Ok ([], s)) (λ operator. dependencies operator.1 >>= some_dependency)

  -- ---- parameters

  -- the default value of a parameter, if `=` is next
  unfoldable pub default_value : State R T B → Read R T B (Option (Expr A B))
  default_value s =
      choose (accept leaves kinds.Equals s) (Ok (None, s)) (λ equals. do
        e ← expressions.value leaves equals.1
        Ok (Some e.0, e.1))

  abbrev pub parameter_of : ParameterKind → (export : Bool) → A → Option (Expr A B) → Parameter A B
  parameter_of kind export name default = record { kind = kind; export = export; name = name; default = default }

  -- the next token begins a parameter that takes one argument
  abbrev pub begins_parameter : State R T B → Bool
  begins_parameter s = next_are leaves (kinds.Identifier ∷ []) s || next_are leaves (kinds.Dollar ∷ []) s

  -- A name after a variadic parameter is an error.
  unfoldable pub expect_no_name : State R T B → Read R T B (Unit {0})
  expect_no_name s = choose (accept leaves kinds.Identifier s) (Ok (tt, s)) (λ name. Err (AfterVariadic (leaves.position name.0)))

  module _ (view : R → LeafView A B) (rules : List (ArgumentRules A B)) where
    -- the parameters so far, and the counters
    abbrev pub Parameters : Type 0
    Parameters = List (Parameter A B) × Counters

    abbrev pub ParameterPlace : Type 0
    ParameterPlace = Parameters × State R T B

    -- the parameters with a new one that has this number
    abbrev pub numbered : ParameterKind → (export : Bool) → (before : List (Parameter A B)) → T → Option (Expr A B) → (ℕ × Counters) × State R T B → Read R T B Parameters
    numbered kind export before name default x =
        Ok ((before ++ parameter_of kind export (leaves.parameter x.1.run name (rules_for (view x.1.run) rules before (leaves.name name)) x.0.0) default ∷ [], x.0.1), x.1)

    -- a parameter after its optional `$`, added to those before it
    unfoldable pub named_parameter : ParameterKind → (export : Bool) → Parameters → State R T B → Read R T B Parameters
    named_parameter kind export x s = do
      name ← expect leaves kinds.Identifier s
      default ← default_value name.1
      checked ← obeying (parameter_broken (view default.1.run) rules x.0 (parameter_of kind export (leaves.name name.0) default.0)) default.1
      number ← next_binding_number x.1 checked.1
      numbered kind export x.0 name.0 default.0 number

    -- a parameter, added to those before it
    unfoldable pub parameter : ParameterKind → ParameterPlace → Read R T B Parameters
    parameter kind x = named_parameter kind (accepted leaves kinds.Dollar x.1).0 x.0 (accepted leaves kinds.Dollar x.1).1

    abbrev pub no_parameters : ParameterPlace → Read R T B Parameters
    no_parameters x = Err (Unexpected None)

    unfoldable pub singulars_rule : (ParameterPlace → Read R T B Parameters) → ParameterPlace → Read R T B Parameters
    singulars_rule read x =
        if begins_parameter x.1 then (do
          p ← parameter Singular x
          read p)
        else Ok x

    -- the parameters that take one argument, added to those before them
    unfoldable pub singulars : ParameterPlace → Read R T B Parameters
    singulars = recursive (λ x. length x.1.left) no_parameters singulars_rule

    -- the last parameter, which is variadic
    unfoldable pub variadic : ParameterKind → ParameterPlace → Read R T B Parameters
    variadic kind x = do
      p ← parameter kind x
      end ← expect_no_name p.1
      Ok (p.0, end.1)

    -- the last parameter, if it is variadic
    unfoldable pub last_parameter : ParameterPlace → Read R T B Parameters
    last_parameter x =
        choose (accept leaves kinds.Plus x.1)
        (choose (accept leaves kinds.Asterisk x.1) (Ok x) (λ prefix. variadic Star (x.0, prefix.1)))
        (λ prefix. variadic Plus (x.0, prefix.1))

    -- the parameters of a recipe, and the colon after them
    unfoldable pub parameters : Counters → State R T B → Read R T B Parameters
    parameters n s = do
      ps ← singulars (([], n), s)
      all ← last_parameter ps
      colon ← expect leaves kinds.Colon all.1
      Ok (all.0, colon.1)

    -- at the name of a recipe: notes the features of its `arg` attributes, and checks that its options have different names
    unfoldable pub distinct_options : (name : T) → State R T B → Read R T B (Unit {0})
    distinct_options name s = obeying (options_broken (view s.run) (leaves.position name) rules) (with (flat_map rules_features rules) s)

    abbrev pub header_of : (name : T) → List (Parameter A B) → List (Dependency A B S) → List (Dependency A B S) → ReadHeader T A B S
    header_of name parameters priors subsequents = record { name = name; parameters = parameters; priors = priors; subsequents = subsequents }

    -- a header from its name to its end
    unfoldable pub header : Counters → State R T B → Read R T B (ReadHeader T A B S × Counters)
    header n s = do
      name ← expect leaves kinds.Identifier s
      options ← distinct_options name.0 name.1
      ps ← parameters n options.1
      checked ← obeying (undefined_broken (view ps.1.run) ps.0.0 rules) ps.1
      priors ← dependencies checked.1
      others ← subsequents priors.1
      Ok ((header_of name.0 ps.0.0 priors.0 others.0, ps.0.1), others.1)
