-- Which error reports which broken rule.
use Rattle.std.specs.Prelude.{◌≡◌, ℕ, ◌+◌, ◌^◌, Option, Some, None, codes, string_bytes}
use Rattle.justfile_token.specs.Token.{lexeme_of}
use Rattle.justfile_token.specs.declared.compile_error.CompileError.{CompileError}
use Rattle.justfile_token.specs.declared.compile_error_kind.CompileErrorKind.{CompileErrorKind}
use Rattle.justfile_token.specs.declared.compile_error_kind.CompileErrorKind.TheVariants as errors
use Rattle.justfile_vocabulary.specs.declared.switch.Switch.TheVariants as switches
use Rattle.justfile_token.specs.declared.token.Token.{Token}
use Rattle.justfile_model.specs.Trees.ContentLeaf.{literal_value}
use Rattle.justfile_model.specs.Meanings.Rules as rules
use Rattle.justfile_model.specs.Meanings.Rules.{Broken, Rule}
use Rattle.justfile_model.specs.Meanings.Versions.{version_numbers}
use Rattle.justfile_leaves.specs.LeafContent.{literal_content}

-- the greatest number of arguments as the code has it, where 2^64 - 1 means no limit
abbrev pub IsMost : Option ℕ → ℕ → Type 0
IsMost None max = max + 1 ≡ 2 ^ 64
IsMost (Some most) max = max ≡ most

-- the error reports this rule, broken at this token
abbrev pub IsKindOfRule : (at : Token) → Rule Token → CompileErrorKind → Type 0
IsKindOfRule at (rules.UnknownAttribute name) (errors.UnknownAttribute attribute) = attribute.now ≡ lexeme_of name
IsKindOfRule at (rules.AttributeArgumentCountMismatch name found least most) (errors.AttributeArgumentCountMismatch attribute found' min max) =
    (attribute.token ≡ name) × (found' ≡ found) × (min ≡ least) × IsMost most max
IsKindOfRule at (rules.AttributeArgumentExpression name) (errors.AttributeArgumentExpression attribute) = attribute.token ≡ name
IsKindOfRule at rules.AttributePositionalFollowsKeyword errors.AttributePositionalFollowsKeyword = Unit {0}
IsKindOfRule at (rules.DuplicateAttributeKey name key) (errors.DuplicateAttributeKey attribute key') = (attribute.now ≡ lexeme_of name) × (key'.now ≡ lexeme_of key)
IsKindOfRule at (rules.UnknownAttributeKey name key) (errors.UnknownAttributeKey attribute key') = (attribute.now ≡ lexeme_of name) × (key'.now ≡ lexeme_of key)
IsKindOfRule at (rules.AttributeKeyMissingValue key) (errors.AttributeKeyMissingValue key') = key'.token ≡ key
IsKindOfRule at (rules.AttributeKeyTakesNoValue key) (errors.AttributeKeyTakesNoValue key') = key'.token ≡ key
IsKindOfRule at (rules.InvalidSignal signal) (errors.InvalidSignal signal') = string_bytes signal' ≡ signal
IsKindOfRule at (rules.OptionNameContainsEqualSign parameter) (errors.OptionNameContainsEqualSign parameter') = string_bytes parameter' ≡ parameter
IsKindOfRule at (rules.OptionNameStartsWithDash parameter) (errors.OptionNameStartsWithDash parameter') = string_bytes parameter' ≡ parameter
IsKindOfRule at (rules.OptionNameEmpty parameter) (errors.OptionNameEmpty parameter') = string_bytes parameter' ≡ parameter
IsKindOfRule at (rules.ShortOptionWithMultipleCharacters parameter) (errors.ShortOptionWithMultipleCharacters parameter') = string_bytes parameter' ≡ parameter
IsKindOfRule at (rules.ArgAttributeRequiresOption key) (errors.ArgAttributeRequiresOption key') = key'.token ≡ key
IsKindOfRule at (rules.FlagAttributeTakesNoValue parameter) (errors.FlagAttributeTakesNoValue parameter') = string_bytes parameter' ≡ parameter
IsKindOfRule at (rules.FlagAndValueArgAttribute parameter) (errors.FlagAndValueArgAttribute parameter') = string_bytes parameter' ≡ parameter
IsKindOfRule at (rules.FlagAndPatternArgAttribute parameter) (errors.FlagAndPatternArgAttribute parameter') = string_bytes parameter' ≡ parameter
IsKindOfRule at (rules.ArgumentCountValue key value) (errors.ArgumentCountValue key' value') = (key'.token ≡ key) × (string_bytes value' ≡ value)
IsKindOfRule at (rules.ArgumentCountParse key value) (errors.ArgumentCountParse key' source value') =
    (key'.token ≡ key) × (source.now ≡ codes "number too large to fit in target type") × (string_bytes value' ≡ value)
IsKindOfRule at (rules.ArgAttributeMinExceedsMax min max) (errors.ArgAttributeMinExceedsMax min' max') = (min' ≡ min) × (max' ≡ max)
IsKindOfRule at (rules.DuplicateAttribute name first) (errors.DuplicateAttribute attribute line) = (attribute.token ≡ name) × (line ≡ first.line)
IsKindOfRule at (rules.DuplicateArgAttribute arg first) (errors.DuplicateArgAttribute arg' line) = (string_bytes arg' ≡ arg) × (line ≡ first.line)
IsKindOfRule at (rules.DuplicateGroupAttribute value name first) (errors.DuplicateGroupAttribute line group) =
    (literal_value (literal_content group) ≡ value) × (group.token ≡ name) × (line ≡ first.line)
IsKindOfRule at (rules.InvalidAttribute item kind) (errors.InvalidAttribute item' name attribute) = (item' ≡ item) × (name.now ≡ lexeme_of at) × (attribute ≡ kind)
IsKindOfRule at (rules.UndefinedArgAttribute argument) (errors.UndefinedArgAttribute argument') = string_bytes argument' ≡ argument
IsKindOfRule at (rules.DuplicateLongOption option recipe) (errors.DuplicateOption recipe' (switches.Long name)) = (recipe'.now ≡ lexeme_of recipe) × (string_bytes name ≡ option)
IsKindOfRule at (rules.DuplicateShortOption option recipe) (errors.DuplicateOption recipe' (switches.Short character)) = (recipe'.now ≡ lexeme_of recipe) × (character ≡ option)
IsKindOfRule at (rules.FlagWithDefault parameter) (errors.FlagWithDefault parameter') = string_bytes parameter' ≡ lexeme_of parameter
IsKindOfRule at (rules.ArgAttributeRequiresMultipleOrVariadic key) (errors.ArgAttributeRequiresMultipleOrVariadic key') = key'.token ≡ key
IsKindOfRule at (rules.NoCdAndWorkingDirectoryAttribute recipe) (errors.NoCdAndWorkingDirectoryAttribute recipe') = recipe'.now ≡ lexeme_of recipe
IsKindOfRule at (rules.ExitMessageAndNoExitMessageAttribute recipe) (errors.ExitMessageAndNoExitMessageAttribute recipe') = recipe'.now ≡ lexeme_of recipe
IsKindOfRule at (rules.ScriptAndShellAttribute recipe) (errors.ScriptAndShellAttribute recipe') = recipe'.now ≡ lexeme_of recipe
IsKindOfRule at rules.MappedDependencyMultipleStarredArguments errors.MappedDependencyMultipleStarredArguments = Unit {0}
IsKindOfRule at rules.MappedDependencyWithoutStarredArgument errors.MappedDependencyWithoutStarredArgument = Unit {0}
IsKindOfRule at rules.StarredArgumentOutsideMappedDependency errors.StarredArgumentOutsideMappedDependency = Unit {0}
IsKindOfRule at (rules.SettingExpression keyword) (errors.SettingExpression setting) = setting ≡ keyword
IsKindOfRule at (rules.InvalidIndentation reason) (errors.InvalidIndentation message) = message.now ≡ reason
IsKindOfRule at (rules.InvalidMinimumVersion text) (errors.InvalidMinimumVersion source version) = (source.now ≡ codes "invalid version") × (string_bytes version ≡ text)
IsKindOfRule at (rules.MinimumVersion least running) (errors.MinimumVersion current minimum) = (version_numbers minimum ≡ least) × (version_numbers current ≡ running)
IsKindOfRule at rule kind = ⊥

-- the error reports the broken rule, at its token
pub record IsErrorOfRule (broken : Broken Token) (e : CompileError) : Type 0 where
  pub token : e.token ≡ broken.token
  pub says : IsKindOfRule broken.token broken.rule e.kind
