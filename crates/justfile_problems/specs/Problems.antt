-- What is wrong with the names of a file.
use Rattle.std.specs.Prelude.{◌&&◌, ◌||◌, ℕ, Bool, true, false, not, List, [], ◌∷◌, ◌++◌, Option, Some, None, cond, is_some, nat_eq, nat_lt, option_to_list}
use Rattle.std.specs.List.{flat_map, list_any}
use Rattle.std.specs.Str.{bytes_eq}
use Rattle.justfile_builtins.specs.Constants.{is_constant}
use Rattle.justfile_builtins.specs.Functions.{arguments_of}
use Rattle.justfile_builtins.specs.declared.functions.Arguments.{Arguments}
use Rattle.justfile_vocabulary.specs.Keyword.{keyword_text}
use Rattle.justfile_vocabulary.specs.declared.item_kind.ItemKind.{ItemKind}
use Rattle.justfile_vocabulary.specs.declared.item_kind.ItemKind.TheVariants as kinds
use Rattle.justfile_vocabulary.specs.declared.keyword.Keyword.{Keyword}
use Rattle.justfile_vocabulary.specs.declared.list_feature.ListFeature.{ListFeature}
use Rattle.justfile_vocabulary.specs.ListFeature.{is_function}
use Rattle.justfile_token.specs.Name.{name_text}
use Rattle.justfile_token.specs.Token.{lexeme_of}
use Rattle.justfile_token.specs.declared.name.Name.{Name}
use Rattle.justfile_token.specs.declared.token.Token.{Token}
use Rattle.justfile_problems.specs.declared.facts.Definition.{Definition}
use Rattle.justfile_problems.specs.declared.facts.Role.{Role}
use Rattle.justfile_problems.specs.declared.facts.Role.TheVariants as roles
use Rattle.justfile_problems.specs.declared.facts.Rules.{Rules}
use Rattle.justfile_problems.specs.declared.facts.Space.{Space}
use Rattle.justfile_problems.specs.declared.facts.Space.TheVariants as spaces
use Rattle.justfile_problems.specs.declared.facts.Suspect.{Suspect}
use Rattle.justfile_problems.specs.declared.facts.SuspectKind.{SuspectKind}
use Rattle.justfile_problems.specs.declared.facts.SuspectKind.TheVariants as suspects
use Rattle.justfile_problems.specs.declared.facts.Use.{Use}
use Rattle.justfile_problems.specs.declared.problem.Problem.{Problem}
use Rattle.justfile_problems.specs.declared.problem.What.{What}
use Rattle.justfile_problems.specs.declared.problem.What.TheVariants as whats
use Rattle.justfile_problems.specs.Names.{first, scope_in, text_in}
use Rattle.justfile_problems.specs.Overridden.{is_overridden, is_recipe, offset_of}

abbrev pub at_token : Token → What → Problem
at_token token what = record { token = token; what = what }

abbrev pub at : Name → What → Problem
at name what = at_token name.token what

-- nothing, if there is a reason to be silent
abbrev pub unless : Bool → Problem → Option Problem
unless silent p = cond silent None (Some p)

-- whether a number of arguments is one that is taken
abbrev pub is_within : ℕ → Option ℕ → Bool
is_within found None = true
is_within found (Some most) = not (nat_lt most found)

abbrev pub fits : Arguments → ℕ → Bool
fits takes found = not (nat_lt found takes.least) && is_within found takes.most

abbrev pub are_recipes : (first again : Definition) → Bool
are_recipes f d = is_recipe f.kind && is_recipe d.kind

-- whether one name is before another one in the text
abbrev pub is_before : Name → Name → Bool
is_before first name = nat_lt (offset_of first) (offset_of name)

-- whether a variable is a parameter of its item, where this is the first one of its name: in a default only if it is before the default's own
abbrev pub is_seen : (end : Option ℕ) → Option Definition → Bool
is_seen end None = false
is_seen None (Some parameter) = true
is_seen (Some end) (Some parameter) = nat_lt (offset_of parameter.name) end

-- a recipe's parameter or a function's that has the name of an earlier one
abbrev pub parameter_again : ItemKind → (item first : Name) → What
parameter_again kinds.Recipe item first = whats.DuplicateParameter item first
parameter_again other item first = whats.DuplicateFunctionParameter item first

-- whether a use is judged beside its own item alone, also where that is overridden
abbrev pub is_own : Role → Bool
is_own roles.Required = true
is_own other = false

module _ (rules : Rules) where
  -- whether a recipe may be defined again, here or in another file
  abbrev pub recipes_repeat : Bool
  recipes_repeat = rules.duplicate_recipes || rules.open

  abbrev pub variables_repeat : Bool
  variables_repeat = rules.duplicate_variables || rules.open

  -- what is wrong with a second definition in a set of names
  abbrev pub again : (first second : Definition) → Space → Option Problem
  again f d spaces.Commands = unless (are_recipes f d && recipes_repeat) (at d.name (whats.Redefinition d.kind f.kind f.name))
  again f d spaces.DefaultRecipes = unless (bytes_eq (name_text f.name) (name_text d.name) && recipes_repeat) (at d.name (whats.DuplicateDefault f.name))
  again f d spaces.Functions = Some (at d.name (whats.Redefinition d.kind f.kind f.name))
  again f d spaces.Parameters = Some (at d.name (parameter_again d.kind d.item f.name))
  again f d spaces.Settings = Some (at d.name (whats.DuplicateSet f.name))
  again f d spaces.Unexports = Some (at d.name (whats.DuplicateUnexport f.name))
  again f d spaces.Variables = unless variables_repeat (at d.name (whats.DuplicateVariable f.name))
  again f d other = None

  -- what is wrong with a definition, where this is the first one of its name
  abbrev pub against : Definition → Option Definition → Option Problem
  against d None = None
  against d (Some f) = cond (nat_eq (offset_of f.name) (offset_of d.name)) None (again f d d.space)

  -- a problem that isn't one if another file or another system defines the name
  abbrev pub missing : (hidden : Option Definition) → Problem → Option Problem
  missing hidden p = unless (rules.open || is_some hidden) p

  abbrev pub counted : (hidden : Option Definition) → Bool → Problem → Option Problem
  counted hidden right p = cond right None (missing hidden p)

  abbrev pub miscalled : Use → ℕ → (hidden : Option Definition) → Arguments → Option Problem
  miscalled u found hidden takes = counted hidden (fits takes found) (at u.name (whats.FunctionCount found takes))

  abbrev pub built_in : Use → ℕ → (hidden : Option Definition) → Option Arguments → Option Problem
  built_in u found hidden None = missing hidden (at u.name whats.UndefinedFunction)
  built_in u found hidden (Some takes) = miscalled u found hidden takes

  -- a call, beside the definition of its function
  abbrev pub called : Use → ℕ → (hidden definition : Option Definition) → Option Problem
  called u found hidden None = built_in u found hidden (arguments_of (name_text u.name))
  called u found hidden (Some d) = miscalled u found hidden d.takes

  -- a dependency on an item of a kind
  abbrev pub depended_on : Use → ℕ → (hidden : Option Definition) → Definition → ItemKind → Option Problem
  depended_on u found hidden d kinds.Recipe = counted hidden (fits d.takes found || recipes_repeat) (at u.name (whats.DependencyCount u.name found d.takes))
  depended_on u found hidden d kinds.Alias = None
  depended_on u found hidden d other = missing hidden (at u.name (whats.UnknownDependency u.item u.name))

  -- a dependency, beside the definition of its name
  abbrev pub depended : Use → ℕ → (hidden definition : Option Definition) → Option Problem
  depended u found hidden None = missing hidden (at u.name (whats.UnknownDependency u.item u.name))
  depended u found hidden (Some d) = depended_on u found hidden d d.kind

  -- the target of an alias that is an item of a kind
  abbrev pub aimed_at : Use → (hidden : Option Definition) → ItemKind → Option Problem
  aimed_at u hidden kinds.Recipe = None
  aimed_at u hidden kinds.Alias = None
  aimed_at u hidden other = missing hidden (at u.item (whats.UnknownAliasTarget u.name))

  -- the target of an alias, beside the definition of its name
  abbrev pub aimed : Use → (hidden definition : Option Definition) → Option Problem
  aimed u hidden None = missing hidden (at u.item (whats.UnknownAliasTarget u.name))
  aimed u hidden (Some d) = aimed_at u hidden d.kind

  -- a variable, beside the parameter of its item and the assignment that have its name
  abbrev pub valued : Use → (end : Option ℕ) → (hidden parameter assignment : Option Definition) → Option Problem
  valued u end hidden parameter assignment =
      cond (is_seen end parameter || (is_some assignment || is_constant (name_text u.name))) None (missing hidden (at u.name whats.UndefinedVariable))

  -- whether a use may be in a comment
  abbrev pub may_be_comment : Use → Bool
  may_be_comment u = u.commented && (rules.ignore_comments || rules.open)

  -- whether nothing is said of a use: it may be in a comment, or its item is overridden
  abbrev pub is_skipped : (overridden : (offset : ℕ) → Bool) → Use → Bool
  is_skipped overridden u = may_be_comment u || (overridden (offset_of u.item) && not (is_own u.role))

  -- whether a recipe may be run as a script, by a setting here or in another file
  abbrev pub may_be_script : (shell : Bool) → Bool
  may_be_script shell = not shell && (rules.default_script || rules.open)

-- an assignment that is exported, beside what removes its name from the environment
abbrev pub exported : Use → Option Definition → Option Problem
exported u None = None
exported u (Some f) = Some (at u.name (whats.ExportUnexported f.name))

-- a required parameter, beside the first one of its item with a default
abbrev pub required : Use → Option Definition → Option Problem
required u None = None
required u (Some f) = cond (is_before f.name u.name) (Some (at u.name (whats.RequiredParameter f.name))) None

-- a setting that excludes another one, beside that one, which excludes others, too
abbrev pub excluded : Use → (own other : Keyword) → Option Definition → Option Problem
excluded u own other None = None
excluded u own other (Some f) = cond (is_before f.name u.name) (Some (at u.name (whats.IncompatibleSettings own other f.name))) None

-- what the file defines as a name, where `known` has the first definition of each one
abbrev pub defined : (known : Space → (scope : ℕ) → (text : List ℕ) → Option Definition) → Space → Name → Option Definition
defined known space name = known space 0 (name_text name)

-- whether the file defines a function with the name that a token has
abbrev pub has_function : (known : Space → (scope : ℕ) → (text : List ℕ) → Option Definition) → Token → Bool
has_function known t = is_some (known spaces.Functions 0 (lexeme_of t))

module _ (rules : Rules) (known : Space → (scope : ℕ) → (text : List ℕ) → Option Definition) where
  -- what is wrong with a use
  abbrev pub by_role : Use → Role → Option Problem
  by_role u (roles.Dependency found) = depended rules u found (defined known spaces.HiddenCommands u.name) (defined known spaces.Commands u.name)
  by_role u (roles.Exclusive keyword other) = excluded u keyword other (known spaces.ExclusiveSettings 0 (keyword_text other))
  by_role u roles.Export = exported u (defined known spaces.Unexports u.name)
  by_role u (roles.Function found) = called rules u found (defined known spaces.HiddenFunctions u.name) (defined known spaces.Functions u.name)
  by_role u roles.Required = required u (known spaces.Defaults (offset_of u.item) [])
  by_role u roles.Target = aimed rules u (defined known spaces.HiddenCommands u.name) (defined known spaces.Commands u.name)
  by_role u (roles.Variable end) =
      valued rules u end (defined known spaces.HiddenVariables u.name) (known spaces.Parameters (offset_of u.item) (name_text u.name)) (defined known spaces.Variables u.name)

  -- whether a feature may be used: by a setting here or in another file, or since it is a function of the file's own
  abbrev pub is_allowed : Token → ListFeature → Bool
  is_allowed t feature = rules.lists || (rules.open || (is_function feature && has_function known t))

  -- what is wrong at a token that may be wrong in this way
  abbrev pub by_kind : Token → SuspectKind → Option Problem
  by_kind t (suspects.Blanks shell) = unless (may_be_script rules shell) (at_token t whats.ExtraLeadingWhitespace)
  by_kind t (suspects.ListFeature feature) = unless (is_allowed t feature) (at_token t (whats.ListFeature feature))
  by_kind t suspects.MappedDependency = unless (rules.lists || rules.open) (at_token t whats.MappedDependency)
  by_kind t (suspects.ScriptAttribute attribute shell) = unless (may_be_script rules shell) (at_token t (whats.InvalidShellRecipeAttribute attribute))
  by_kind t (suspects.Sigils shell) = unless (not rules.guards || may_be_script rules shell) (at_token t whats.GuardAndInfallibleSigil)

  -- what is wrong with a suspect
  abbrev pub suspect_problem : Suspect → Option Problem
  suspect_problem s = by_kind s.token s.kind

  -- what is wrong with a definition
  abbrev pub definition_problem : Definition → Option Problem
  definition_problem d = against rules d (known d.space (scope_in d.space d.item) (text_in d.space d.name))

  abbrev pub definition_problems : List Definition → List Problem
  definition_problems ds = flat_map (λ d. option_to_list (definition_problem d)) ds

  abbrev pub suspect_problems : List Suspect → List Problem
  suspect_problems ss = flat_map (λ s. option_to_list (suspect_problem s)) ss

  module _ (overridden : (offset : ℕ) → Bool) where
    abbrev pub use_problem : Use → Option Problem
    use_problem u = cond (is_skipped rules overridden u) None (by_role u u.role)

    abbrev pub use_problems : List Use → List Problem
    use_problems us = flat_map (λ u. option_to_list (use_problem u)) us

-- all that is wrong
abbrev pub all_problems : Rules → List Definition → List Use → List Suspect → List Problem
all_problems rules ds us ss =
    definition_problems rules (first ds) ds ++ use_problems rules (first ds) (is_overridden [] ds) us ++ suspect_problems rules (first ds) ss

-- whether the files of a module share the names of a set: an item has its own, and what is compared by places is in one file
abbrev pub is_shared : Space → Bool
is_shared spaces.Defaults = false
is_shared spaces.ExclusiveSettings = false
is_shared spaces.Parameters = false
is_shared other = true

abbrev pub shared_of : Definition → List Definition
shared_of d = cond (is_shared d.space) (d ∷ []) []

-- what a file of a module knows: first what the module's files share, in their order, and then its own
abbrev pub within : (all own : List Definition) → List Definition
within all own = flat_map shared_of all ++ own

-- All that is wrong with a file of a module. Its definitions are judged among themselves, and all else by what the module defines; nothing is said of uses in items that are overridden.
abbrev pub problems_within : Rules → (overridden : (offset : ℕ) → Bool) → (all own : List Definition) → List Use → List Suspect → List Problem
problems_within rules overridden all own us ss =
    definition_problems rules (first own) own ++ use_problems rules (first (within all own)) overridden us ++ suspect_problems rules (first (within all own)) ss

-- what files allow together, where other ones may define names or not
abbrev pub joined : (may_be_more : Bool) → List Rules → Rules
joined may_be_more all =
    record {
      default_script = list_any (λ (r : Rules). r.default_script) all;
      duplicate_recipes = list_any (λ (r : Rules). r.duplicate_recipes) all;
      duplicate_variables = list_any (λ (r : Rules). r.duplicate_variables) all;
      guards = list_any (λ (r : Rules). r.guards) all;
      ignore_comments = list_any (λ (r : Rules). r.ignore_comments) all;
      lists = list_any (λ (r : Rules). r.lists) all;
      «open» = may_be_more;
    }
