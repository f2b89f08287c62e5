-- The rules that a written tree can break, with the data for their messages, over a projection of tokens.
use Rattle.std.specs.Prelude.{ℕ, Bool, List, [], ◌∷◌, Option, if◌then◌else◌}
use Rattle.justfile_vocabulary.specs.declared.attribute_kind.AttributeKind.{AttributeKind}
use Rattle.justfile_vocabulary.specs.declared.item_kind.ItemKind.{ItemKind}
use Rattle.justfile_vocabulary.specs.declared.keyword.Keyword.{Keyword}
use Rattle.justfile_model.specs.Grammars.Conditions.{VersionNumbers}
use Rattle.justfile_model.specs.Trees.ContentLeaf.{LiteralValue}

-- A rule that is broken. A text is that of a literal; `T` is the projection of tokens.
pub data Rule (T : Type 0) : Type 0 where
  -- rules of one attribute
  UnknownAttribute : (name : T) → Rule T
  AttributeArgumentCountMismatch : (attribute : T) (found least : ℕ) (most : Option ℕ) → Rule T
  AttributeArgumentExpression : (attribute : T) → Rule T
  AttributePositionalFollowsKeyword : Rule T
  DuplicateAttributeKey : (attribute key : T) → Rule T
  UnknownAttributeKey : (attribute key : T) → Rule T
  AttributeKeyMissingValue : (key : T) → Rule T
  AttributeKeyTakesNoValue : (key : T) → Rule T
  InvalidSignal : (signal : List ℕ) → Rule T
  OptionNameContainsEqualSign : (parameter : List ℕ) → Rule T
  OptionNameStartsWithDash : (parameter : List ℕ) → Rule T
  OptionNameEmpty : (parameter : List ℕ) → Rule T
  ShortOptionWithMultipleCharacters : (parameter : List ℕ) → Rule T
  ArgAttributeRequiresOption : (key : T) → Rule T
  FlagAttributeTakesNoValue : (parameter : List ℕ) → Rule T
  FlagAndValueArgAttribute : (parameter : List ℕ) → Rule T
  FlagAndPatternArgAttribute : (parameter : List ℕ) → Rule T
  ArgumentCountValue : (key : T) (value : List ℕ) → Rule T
  ArgumentCountParse : (key : T) (value : List ℕ) → Rule T
  ArgAttributeMinExceedsMax : (min max : ℕ) → Rule T
  -- rules of the attributes of one item
  DuplicateAttribute : (attribute first : T) → Rule T
  DuplicateArgAttribute : (arg : List ℕ) (first : T) → Rule T
  -- the value and the token of the literal that names the group
  DuplicateGroupAttribute : (value : LiteralValue) (group first : T) → Rule T
  InvalidAttribute : (item : ItemKind) (attribute : AttributeKind) → Rule T
  -- rules of a recipe: an `arg` attribute doesn't name a parameter
  UndefinedArgAttribute : (argument : List ℕ) → Rule T
  -- two options have the same name
  DuplicateLongOption : (option : List ℕ) (recipe : T) → Rule T
  DuplicateShortOption : (option : ℕ) (recipe : T) → Rule T
  FlagWithDefault : (parameter : T) → Rule T
  ArgAttributeRequiresMultipleOrVariadic : (key : T) → Rule T
  NoCdAndWorkingDirectoryAttribute : (recipe : T) → Rule T
  ExitMessageAndNoExitMessageAttribute : (recipe : T) → Rule T
  ScriptAndShellAttribute : (recipe : T) → Rule T
  -- rules of the stars of a dependency
  MappedDependencyMultipleStarredArguments : Rule T
  MappedDependencyWithoutStarredArgument : Rule T
  StarredArgumentOutsideMappedDependency : Rule T
  -- rules of a setting that takes a plain literal: it has another value, or the literal's text is invalid for the setting
  SettingExpression : (setting : Keyword) → Rule T
  InvalidIndentation : (message : List ℕ) → Rule T
  InvalidMinimumVersion : (version : List ℕ) → Rule T
  MinimumVersion : (minimum current : VersionNumbers) → Rule T

-- a broken rule, and the token at which it is reported
pub record Broken (T : Type 0) : Type 0 where
  pub rule : Rule T
  pub token : T

-- the rule at the token, if it is broken
abbrev pub broken_if : {T : Type 0} → (is_broken : Bool) → Rule T → T → List (Broken T)
broken_if is_broken rule token = if is_broken then record { rule = rule; token = token } ∷ [] else []

-- the rules with another projection of their tokens
module _ {T U : Type 0} (g : T → U) where
  abbrev pub over_rule : Rule T → Rule U
  over_rule (UnknownAttribute name) = UnknownAttribute (g name)
  over_rule (AttributeArgumentCountMismatch attribute found least most) = AttributeArgumentCountMismatch (g attribute) found least most
  over_rule (AttributeArgumentExpression attribute) = AttributeArgumentExpression (g attribute)
  over_rule AttributePositionalFollowsKeyword = AttributePositionalFollowsKeyword
  over_rule (DuplicateAttributeKey attribute key) = DuplicateAttributeKey (g attribute) (g key)
  over_rule (UnknownAttributeKey attribute key) = UnknownAttributeKey (g attribute) (g key)
  over_rule (AttributeKeyMissingValue key) = AttributeKeyMissingValue (g key)
  over_rule (AttributeKeyTakesNoValue key) = AttributeKeyTakesNoValue (g key)
  over_rule (InvalidSignal signal) = InvalidSignal signal
  over_rule (OptionNameContainsEqualSign parameter) = OptionNameContainsEqualSign parameter
  over_rule (OptionNameStartsWithDash parameter) = OptionNameStartsWithDash parameter
  over_rule (OptionNameEmpty parameter) = OptionNameEmpty parameter
  over_rule (ShortOptionWithMultipleCharacters parameter) = ShortOptionWithMultipleCharacters parameter
  over_rule (ArgAttributeRequiresOption key) = ArgAttributeRequiresOption (g key)
  over_rule (FlagAttributeTakesNoValue parameter) = FlagAttributeTakesNoValue parameter
  over_rule (FlagAndValueArgAttribute parameter) = FlagAndValueArgAttribute parameter
  over_rule (FlagAndPatternArgAttribute parameter) = FlagAndPatternArgAttribute parameter
  over_rule (ArgumentCountValue key value) = ArgumentCountValue (g key) value
  over_rule (ArgumentCountParse key value) = ArgumentCountParse (g key) value
  over_rule (ArgAttributeMinExceedsMax min max) = ArgAttributeMinExceedsMax min max
  over_rule (DuplicateAttribute attribute first) = DuplicateAttribute (g attribute) (g first)
  over_rule (DuplicateArgAttribute arg first) = DuplicateArgAttribute arg (g first)
  over_rule (DuplicateGroupAttribute value group first) = DuplicateGroupAttribute value (g group) (g first)
  over_rule (InvalidAttribute item attribute) = InvalidAttribute item attribute
  over_rule (UndefinedArgAttribute argument) = UndefinedArgAttribute argument
  over_rule (DuplicateLongOption option recipe) = DuplicateLongOption option (g recipe)
  over_rule (DuplicateShortOption option recipe) = DuplicateShortOption option (g recipe)
  over_rule (FlagWithDefault parameter) = FlagWithDefault (g parameter)
  over_rule (ArgAttributeRequiresMultipleOrVariadic key) = ArgAttributeRequiresMultipleOrVariadic (g key)
  over_rule (NoCdAndWorkingDirectoryAttribute recipe) = NoCdAndWorkingDirectoryAttribute (g recipe)
  over_rule (ExitMessageAndNoExitMessageAttribute recipe) = ExitMessageAndNoExitMessageAttribute (g recipe)
  over_rule (ScriptAndShellAttribute recipe) = ScriptAndShellAttribute (g recipe)
  over_rule MappedDependencyMultipleStarredArguments = MappedDependencyMultipleStarredArguments
  over_rule MappedDependencyWithoutStarredArgument = MappedDependencyWithoutStarredArgument
  over_rule StarredArgumentOutsideMappedDependency = StarredArgumentOutsideMappedDependency
  over_rule (SettingExpression setting) = SettingExpression setting
  over_rule (InvalidIndentation message) = InvalidIndentation message
  over_rule (InvalidMinimumVersion version) = InvalidMinimumVersion version
  over_rule (MinimumVersion minimum current) = MinimumVersion minimum current

  abbrev pub over_broken : Broken T → Broken U
  over_broken b = record { rule = over_rule b.rule; token = g b.token }
