-- The rules that a recipe breaks by its header and by the meaning of its attributes, each at a token. The rules that attributes break on
-- any item are in `AttributeRules`. All broken rules are listed. Their order has no meaning but among options, where the first is reported.
use Rattle.std.specs.Prelude.{ℕ, Bool, true, false, ◌&&◌, not, List, [], ◌∷◌, ◌++◌, Option, Some, None, nat_eq, if◌then◌else◌}
use Rattle.std.specs.List.{filter, find, filter_map, flat_map, list_any}
use Rattle.std.specs.Option.{is_some, option_map}
use Rattle.std.specs.Str.{bytes_eq, chars}
use Rattle.justfile_vocabulary.specs.declared.attribute_kind.AttributeKind.TheVariants as kinds
use Rattle.justfile_model.specs.declared.parameter_kind.ParameterKind.{ParameterKind}
use Rattle.justfile_model.specs.declared.parameter_kind.ParameterKind.TheVariants.{Plus, Singular, Star}
use Rattle.justfile_model.specs.Meanings.AttributeRules.{arg_rules, least, of_some}
use Rattle.justfile_model.specs.Trees.ContentKeys.{has_attribute}
use Rattle.justfile_model.specs.Grammars.Features.{bound_place}
use Rattle.justfile_model.specs.Meanings.Meaning.{first_of, text_of}
use Rattle.justfile_model.specs.Meanings.Rules.{Rule, UndefinedArgAttribute, DuplicateLongOption, DuplicateShortOption, FlagWithDefault, ArgAttributeRequiresMultipleOrVariadic, NoCdAndWorkingDirectoryAttribute, ExitMessageAndNoExitMessageAttribute, ScriptAndShellAttribute, MappedDependencyMultipleStarredArguments, MappedDependencyWithoutStarredArgument, StarredArgumentOutsideMappedDependency, Broken, broken_if}
use Rattle.justfile_model.specs.Trees.LeafView.{LeafView}
use Rattle.justfile_model.specs.Trees.Tree as tree
use Rattle.justfile_model.specs.Trees.Tree.{ArgumentRules, Dependency, DependencyArgument, Entry, Header, OptionName, Parameter, Quoted}

-- a parameter of this kind is variadic
abbrev pub is_variadic : ParameterKind → Bool
is_variadic Plus = true
is_variadic Singular = false
is_variadic Star = true

-- the first value if it is present, and otherwise the second
abbrev pub or_else : {X : Type 0} → Option X → Option X → Option X
or_else None second = second
or_else (Some x) second = Some x

-- an option by its name, and the position at which it is reported
abbrev pub Placed : (X B : Type 0) → Type 0
Placed X B = X × B

-- a function of an option, if there is one
abbrev pub if_named : {X Y : Type 0} → (X → Option Y) → Option X → Option Y
if_named of None = None
if_named of (Some option) = of option

-- these names, and that of an option after them, if there is one
abbrev pub and_named : {X B : Type 0} → (before : List X) → Option (Placed X B) → List X
and_named before None = before
and_named before (Some option) = before ++ option.0 ∷ []

-- An option has the same name as an earlier one.
module _ {X B : Type 0} (same : X → X → Bool) (rule : X → Rule B) where
  abbrev pub repeated_broken : (before : List X) → Option (Placed X B) → List (Broken B)
  repeated_broken before None = []
  repeated_broken before (Some option) = broken_if (list_any (same option.0) before) (rule option.0) option.1

module _ {B : Type 0} where
  -- The arguments of a dependency have a second star.
  abbrev pub second_broken : (stars : List B) → List (Broken B)
  second_broken (first ∷ second ∷ stars) = broken_if true MappedDependencyMultipleStarredArguments second
  second_broken _ = []

  -- A star before the parentheses requires one inside, and vice versa.
  abbrev pub misplaced_broken : (star : Option B) (stars : List B) → List (Broken B)
  misplaced_broken None [] = []
  misplaced_broken None (first ∷ stars) = broken_if true StarredArgumentOutsideMappedDependency first
  misplaced_broken (Some star) [] = broken_if true MappedDependencyWithoutStarredArgument star
  misplaced_broken (Some star) (first ∷ stars) = []

-- the stars of the arguments
abbrev pub stars : {A B S : Type 0} → List (DependencyArgument A B S) → List S
stars arguments = filter_map (λ (a : DependencyArgument _ _ _). a.star) arguments

abbrev pub dependency_broken : {A B : Type 0} → Dependency A B B → List (Broken B)
dependency_broken d = second_broken (stars d.arguments) ++ misplaced_broken d.star (stars d.arguments)

-- the rules that the stars in a header break
abbrev pub header_broken : {A B : Type 0} → Header A B B → List (Broken B)
header_broken h = flat_map dependency_broken h.priors ++ flat_map dependency_broken h.subsequents

module _ {A B : Type 0} (view : LeafView A B) where
  -- ---- options

  -- the literal that names an option, which can be the argument's name, and the position at which the option is reported
  abbrev pub option_of : (argument : Quoted A) → OptionName A B → Option (Placed (Quoted A) B)
  option_of argument tree.NoOption = None
  option_of argument (tree.OwnName key) = Some (argument, key)
  option_of argument (tree.Named name) = Some (name, view.place name.token)

  abbrev pub with_text : Placed (Quoted A) B → Placed (List ℕ) B
  with_text option = (text_of view option.0, option.1)

  -- an option that is named by a character: the first one of its text
  abbrev pub first_character : Placed (List ℕ) B → Option (Placed ℕ B)
  first_character option = option_map (λ (c : ℕ). (c, option.1)) (first_of (chars option.0))

  abbrev pub long_option : ArgumentRules A B → Option (Placed (List ℕ) B)
  long_option a = option_map with_text (option_of a.name a.long)

  abbrev pub short_option : ArgumentRules A B → Option (Placed ℕ B)
  short_option a = if_named first_character (option_map with_text (option_of a.name a.short))

  -- what the options of the recipe with this name break after those with these names: attribute by attribute, of each the long option first
  module _ (recipe : B) where
    abbrev pub options_after : (longs : List (List ℕ)) (shorts : List ℕ) → List (ArgumentRules A B) → List (Broken B)
    options_after longs shorts [] = []
    options_after longs shorts (a ∷ rules) =
        repeated_broken bytes_eq (λ option. DuplicateLongOption option recipe) longs (long_option a)
        ++ (repeated_broken nat_eq (λ option. DuplicateShortOption option recipe) shorts (short_option a)
        ++ options_after (and_named longs (long_option a)) (and_named shorts (short_option a)) rules)

    abbrev pub options_broken : List (ArgumentRules A B) → List (Broken B)
    options_broken rules = options_after [] [] rules

  -- ---- parameters

  -- there is a parameter with the name in the `arg` attribute
  abbrev pub is_parameter : List (Parameter A B) → ArgumentRules A B → Bool
  is_parameter parameters a = list_any (λ (p : Parameter A B). bytes_eq (view.bytes p.name) (text_of view a.name)) parameters

  -- An `arg` attribute names an unknown parameter. Of several ones, the least name is reported, at its literal.
  abbrev pub undefined_broken : List (Parameter A B) → List (ArgumentRules A B) → List (Broken B)
  undefined_broken parameters rules =
      of_some (λ (a : ArgumentRules A B). record { rule = UndefinedArgAttribute (text_of view a.name); token = view.place a.name.token } ∷ [])
      (least (λ (a : ArgumentRules A B). text_of view a.name) (filter (λ a. not (is_parameter parameters a)) rules))

  -- what an `arg` attribute sets for a parameter after the earlier ones: only the first parameter of a name gets it
  abbrev pub rules_for : List (ArgumentRules A B) → (before : List (Parameter A B)) → (name : A) → Option (ArgumentRules A B)
  rules_for rules before name =
      if list_any (λ (p : Parameter A B). bytes_eq (view.bytes p.name) (view.bytes name)) before then None
      else find (λ (a : ArgumentRules A B). bytes_eq (text_of view a.name) (view.bytes name)) rules

  -- the key of `max`, or otherwise that of `min`
  abbrev pub bound_key : ArgumentRules A B → Option B
  bound_key a = or_else (bound_place a.max) (bound_place a.min)

  -- What an `arg` attribute sets for a parameter conflicts with its default or its kind.
  abbrev pub ruled_broken : Parameter A B → ArgumentRules A B → List (Broken B)
  ruled_broken p a =
      broken_if (is_some a.flag && is_some p.default) (FlagWithDefault (view.place p.name)) (view.place p.name)
      ++ of_some (λ (key : B). broken_if (not (is_some a.multiple) && not (is_variadic p.kind)) (ArgAttributeRequiresMultipleOrVariadic key) key) (bound_key a)

  abbrev pub parameter_broken : List (ArgumentRules A B) → (before : List (Parameter A B)) → Parameter A B → List (Broken B)
  parameter_broken rules before p = of_some (ruled_broken p) (rules_for rules before p.name)

  abbrev pub parameters_broken : List (ArgumentRules A B) → (before parameters : List (Parameter A B)) → List (Broken B)
  parameters_broken rules before [] = []
  parameters_broken rules before (p ∷ ps) = parameter_broken rules before p ++ parameters_broken rules (before ++ p ∷ []) ps

  -- ---- attributes that exclude each other

  abbrev pub exclusions_broken : (recipe : B) → List (Entry A B) → List (Broken B)
  exclusions_broken recipe entries =
      broken_if (has_attribute kinds.NoCd entries && has_attribute kinds.WorkingDirectory entries) (NoCdAndWorkingDirectoryAttribute recipe) recipe
      ++ broken_if (has_attribute kinds.ExitMessage entries && has_attribute kinds.NoExitMessage entries) (ExitMessageAndNoExitMessageAttribute recipe) recipe
      ++ broken_if (has_attribute kinds.Script entries && has_attribute kinds.Shell entries) (ScriptAndShellAttribute recipe) recipe

  -- the rules that a recipe breaks, by the meaning of its attributes
  abbrev pub recipe_broken : {S : Type 0} → Header A B S → List (Entry A B) → List (Broken B)
  recipe_broken h entries =
      options_broken (view.place h.name) (arg_rules entries)
      ++ parameters_broken (arg_rules entries) [] h.parameters
      ++ undefined_broken h.parameters (arg_rules entries)
      ++ exclusions_broken (view.place h.name) entries
