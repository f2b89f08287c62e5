use Rattle.justfile_token.proofs.messages.write_kind.Goals as goal

pub returns-in-ArgAttributeMinExceedsMax : goal.returns-in-ArgAttributeMinExceedsMax
returns-in-ArgAttributeMinExceedsMax g c = rw c.in-ArgAttributeMinExceedsMax.is c.write_both.ensures

pub returns-in-ArgAttributeRequiresMultipleOrVariadic : goal.returns-in-ArgAttributeRequiresMultipleOrVariadic
returns-in-ArgAttributeRequiresMultipleOrVariadic g c = rw c.in-ArgAttributeRequiresMultipleOrVariadic.is c.write_around.ensures

pub returns-in-ArgAttributeRequiresOption : goal.returns-in-ArgAttributeRequiresOption
returns-in-ArgAttributeRequiresOption g c = rw c.in-ArgAttributeRequiresOption.is c.write_around-in-ArgAttributeRequiresOption.ensures

pub returns-in-ArgumentCountParse : goal.returns-in-ArgumentCountParse
returns-in-ArgumentCountParse g c = rw c.in-ArgumentCountParse.is c.write_invalid_count.ensures

pub returns-in-ArgumentCountValue : goal.returns-in-ArgumentCountValue
returns-in-ArgumentCountValue g c = rw c.in-ArgumentCountValue.is c.write_both-in-ArgumentCountValue.ensures

pub returns-in-AttributeArgumentCountMismatch : goal.returns-in-AttributeArgumentCountMismatch
returns-in-AttributeArgumentCountMismatch g c = rw c.in-AttributeArgumentCountMismatch.is c.write_count_mismatch.ensures

pub returns-in-AttributeArgumentExpression : goal.returns-in-AttributeArgumentExpression
returns-in-AttributeArgumentExpression g c = rw c.in-AttributeArgumentExpression.is c.write_around-in-AttributeArgumentExpression.ensures

pub returns-in-AttributeKeyMissingValue : goal.returns-in-AttributeKeyMissingValue
returns-in-AttributeKeyMissingValue g c = rw c.in-AttributeKeyMissingValue.is c.write_around-in-AttributeKeyMissingValue.ensures

pub returns-in-AttributeKeyTakesNoValue : goal.returns-in-AttributeKeyTakesNoValue
returns-in-AttributeKeyTakesNoValue g c = rw c.in-AttributeKeyTakesNoValue.is c.write_around-in-AttributeKeyTakesNoValue.ensures

pub returns-in-AttributePositionalFollowsKeyword : goal.returns-in-AttributePositionalFollowsKeyword
returns-in-AttributePositionalFollowsKeyword g c = rw c.in-AttributePositionalFollowsKeyword.is c.write_str.ensures.writes

pub returns-in-BacktickShebang : goal.returns-in-BacktickShebang
returns-in-BacktickShebang g c = rw c.in-BacktickShebang.is c.write_str-in-BacktickShebang.ensures.writes

pub returns-in-DependencyArgumentCountMismatch : goal.returns-in-DependencyArgumentCountMismatch
returns-in-DependencyArgumentCountMismatch g c = rw c.in-DependencyArgumentCountMismatch.is c.write_count_mismatch-in-DependencyArgumentCountMismatch.ensures

pub returns-in-DuplicateArgAttribute : goal.returns-in-DuplicateArgAttribute
returns-in-DuplicateArgAttribute g c = rw c.in-DuplicateArgAttribute.is c.write_duplicate.ensures

pub returns-in-DuplicateAttribute : goal.returns-in-DuplicateAttribute
returns-in-DuplicateAttribute g c = rw c.in-DuplicateAttribute.is c.write_duplicate-in-DuplicateAttribute.ensures

pub returns-in-DuplicateAttributeKey : goal.returns-in-DuplicateAttributeKey
returns-in-DuplicateAttributeKey g c = rw c.in-DuplicateAttributeKey.is c.write_both-in-DuplicateAttributeKey.ensures

pub returns-in-DuplicateDefault : goal.returns-in-DuplicateDefault
returns-in-DuplicateDefault g c = rw c.in-DuplicateDefault.is c.write_around-in-DuplicateDefault.ensures

pub returns-in-DuplicateFunctionParameter : goal.returns-in-DuplicateFunctionParameter
returns-in-DuplicateFunctionParameter g c = rw c.in-DuplicateFunctionParameter.is c.write_both-in-DuplicateFunctionParameter.ensures

pub returns-in-DuplicateGroupAttribute : goal.returns-in-DuplicateGroupAttribute
returns-in-DuplicateGroupAttribute g c = rw c.in-DuplicateGroupAttribute.is c.write_duplicate-in-DuplicateGroupAttribute.ensures

pub returns-in-DuplicateOption : goal.returns-in-DuplicateOption
returns-in-DuplicateOption g c = rw c.in-DuplicateOption.is c.write_both-in-DuplicateOption.ensures

pub returns-in-DuplicateParameter : goal.returns-in-DuplicateParameter
returns-in-DuplicateParameter g c = rw c.in-DuplicateParameter.is c.write_both-in-DuplicateParameter.ensures

pub returns-in-DuplicateSet : goal.returns-in-DuplicateSet
returns-in-DuplicateSet g c = rw c.in-DuplicateSet.is c.write_duplicate_set.ensures

pub returns-in-DuplicateUnexport : goal.returns-in-DuplicateUnexport
returns-in-DuplicateUnexport g c = rw c.in-DuplicateUnexport.is c.write_around-in-DuplicateUnexport.ensures

pub returns-in-DuplicateVariable : goal.returns-in-DuplicateVariable
returns-in-DuplicateVariable g c = rw c.in-DuplicateVariable.is c.write_around-in-DuplicateVariable.ensures

pub returns-in-EscapeEndOfFile : goal.returns-in-EscapeEndOfFile
returns-in-EscapeEndOfFile g c = rw c.in-EscapeEndOfFile.is c.write_str-in-EscapeEndOfFile.ensures.writes

pub returns-in-ExitMessageAndNoExitMessageAttribute : goal.returns-in-ExitMessageAndNoExitMessageAttribute
returns-in-ExitMessageAndNoExitMessageAttribute g c = rw c.in-ExitMessageAndNoExitMessageAttribute.is c.write_around-in-ExitMessageAndNoExitMessageAttribute.ensures

pub returns-in-ExportUnexported : goal.returns-in-ExportUnexported
returns-in-ExportUnexported g c = rw c.in-ExportUnexported.is c.write_around-in-ExportUnexported.ensures

pub returns-in-ExtraLeadingWhitespace : goal.returns-in-ExtraLeadingWhitespace
returns-in-ExtraLeadingWhitespace g c = rw c.in-ExtraLeadingWhitespace.is c.write_str-in-ExtraLeadingWhitespace.ensures.writes

pub returns-in-ExtraneousAttributes : goal.returns-in-ExtraneousAttributes
returns-in-ExtraneousAttributes g c = rw c.in-ExtraneousAttributes.is c.write_extraneous.ensures

pub returns-in-FlagAndPatternArgAttribute : goal.returns-in-FlagAndPatternArgAttribute
returns-in-FlagAndPatternArgAttribute g c = rw c.in-FlagAndPatternArgAttribute.is c.write_around-in-FlagAndPatternArgAttribute.ensures

pub returns-in-FlagAndValueArgAttribute : goal.returns-in-FlagAndValueArgAttribute
returns-in-FlagAndValueArgAttribute g c = rw c.in-FlagAndValueArgAttribute.is c.write_around-in-FlagAndValueArgAttribute.ensures

pub returns-in-FlagAttributeTakesNoValue : goal.returns-in-FlagAttributeTakesNoValue
returns-in-FlagAttributeTakesNoValue g c = rw c.in-FlagAttributeTakesNoValue.is c.write_around-in-FlagAttributeTakesNoValue.ensures

pub returns-in-FlagWithDefault : goal.returns-in-FlagWithDefault
returns-in-FlagWithDefault g c = rw c.in-FlagWithDefault.is c.write_around-in-FlagWithDefault.ensures

pub returns-in-FunctionArgumentCountMismatch : goal.returns-in-FunctionArgumentCountMismatch
returns-in-FunctionArgumentCountMismatch g c = rw c.in-FunctionArgumentCountMismatch.is c.write_function_mismatch.ensures

pub returns-in-GuardAndInfallibleSigil : goal.returns-in-GuardAndInfallibleSigil
returns-in-GuardAndInfallibleSigil g c = rw c.in-GuardAndInfallibleSigil.is c.write_str-in-GuardAndInfallibleSigil.ensures.writes

pub returns-in-IncompatibleSettings : goal.returns-in-IncompatibleSettings
returns-in-IncompatibleSettings g c = rw c.in-IncompatibleSettings.is c.write_incompatible.ensures

pub returns-in-InconsistentLeadingWhitespace : goal.returns-in-InconsistentLeadingWhitespace
returns-in-InconsistentLeadingWhitespace g c = rw c.in-InconsistentLeadingWhitespace.is c.write_inconsistent.ensures

pub returns-in-Internal : goal.returns-in-Internal
returns-in-Internal g c = rw c.in-Internal.is c.write_around-in-Internal.ensures

pub returns-in-InvalidAttribute : goal.returns-in-InvalidAttribute
returns-in-InvalidAttribute g c = rw c.in-InvalidAttribute.is c.write_invalid_attribute.ensures

pub returns-in-InvalidEscapeSequence : goal.returns-in-InvalidEscapeSequence
returns-in-InvalidEscapeSequence g c = rw c.in-InvalidEscapeSequence.is c.write_around-in-InvalidEscapeSequence.ensures

pub returns-in-InvalidIndentation : goal.returns-in-InvalidIndentation
returns-in-InvalidIndentation g c = rw c.in-InvalidIndentation.is c.write_str-in-InvalidIndentation.ensures.writes

pub returns-in-InvalidMinimumVersion : goal.returns-in-InvalidMinimumVersion
returns-in-InvalidMinimumVersion g c = rw c.in-InvalidMinimumVersion.is c.write_invalid_version.ensures

pub returns-in-InvalidSignal : goal.returns-in-InvalidSignal
returns-in-InvalidSignal g c = rw c.in-InvalidSignal.is c.write_around-in-InvalidSignal.ensures

pub returns-in-MappedDependencyMultipleStarredArguments : goal.returns-in-MappedDependencyMultipleStarredArguments
returns-in-MappedDependencyMultipleStarredArguments g c = rw c.in-MappedDependencyMultipleStarredArguments.is c.write_str-in-MappedDependencyMultipleStarredArguments.ensures.writes

pub returns-in-MappedDependencyWithoutListsSetting : goal.returns-in-MappedDependencyWithoutListsSetting
returns-in-MappedDependencyWithoutListsSetting g c = rw c.in-MappedDependencyWithoutListsSetting.is c.write_str-in-MappedDependencyWithoutListsSetting.ensures.writes

pub returns-in-MappedDependencyWithoutStarredArgument : goal.returns-in-MappedDependencyWithoutStarredArgument
returns-in-MappedDependencyWithoutStarredArgument g c = rw c.in-MappedDependencyWithoutStarredArgument.is c.write_str-in-MappedDependencyWithoutStarredArgument.ensures.writes

pub returns-in-MinimumVersion : goal.returns-in-MinimumVersion
returns-in-MinimumVersion g c = rw c.in-MinimumVersion.is c.write_minimum_version.ensures

pub returns-in-MismatchedClosingDelimiter : goal.returns-in-MismatchedClosingDelimiter
returns-in-MismatchedClosingDelimiter g c = rw c.in-MismatchedClosingDelimiter.is c.write_mismatched.ensures

pub returns-in-MixedLeadingWhitespace : goal.returns-in-MixedLeadingWhitespace
returns-in-MixedLeadingWhitespace g c = rw c.in-MixedLeadingWhitespace.is c.write_mixed.ensures

pub returns-in-NoCdAndWorkingDirectoryAttribute : goal.returns-in-NoCdAndWorkingDirectoryAttribute
returns-in-NoCdAndWorkingDirectoryAttribute g c = rw c.in-NoCdAndWorkingDirectoryAttribute.is c.write_around-in-NoCdAndWorkingDirectoryAttribute.ensures

pub returns-in-OptionNameContainsEqualSign : goal.returns-in-OptionNameContainsEqualSign
returns-in-OptionNameContainsEqualSign g c = rw c.in-OptionNameContainsEqualSign.is c.write_around-in-OptionNameContainsEqualSign.ensures

pub returns-in-OptionNameEmpty : goal.returns-in-OptionNameEmpty
returns-in-OptionNameEmpty g c = rw c.in-OptionNameEmpty.is c.write_around-in-OptionNameEmpty.ensures

pub returns-in-OptionNameStartsWithDash : goal.returns-in-OptionNameStartsWithDash
returns-in-OptionNameStartsWithDash g c = rw c.in-OptionNameStartsWithDash.is c.write_around-in-OptionNameStartsWithDash.ensures

pub returns-in-ParameterFollowsVariadicParameter : goal.returns-in-ParameterFollowsVariadicParameter
returns-in-ParameterFollowsVariadicParameter g c = rw c.in-ParameterFollowsVariadicParameter.is c.write_around-in-ParameterFollowsVariadicParameter.ensures

pub returns-in-ParsingRecursionDepthExceeded : goal.returns-in-ParsingRecursionDepthExceeded
returns-in-ParsingRecursionDepthExceeded g c = rw c.in-ParsingRecursionDepthExceeded.is c.write_str-in-ParsingRecursionDepthExceeded.ensures.writes

pub returns-in-Redefinition : goal.returns-in-Redefinition
returns-in-Redefinition g c = rw c.in-Redefinition.is c.write_redefinition.ensures

pub returns-in-RequiredParameterFollowsDefaultParameter : goal.returns-in-RequiredParameterFollowsDefaultParameter
returns-in-RequiredParameterFollowsDefaultParameter g c = rw c.in-RequiredParameterFollowsDefaultParameter.is c.write_around-in-RequiredParameterFollowsDefaultParameter.ensures

pub returns-in-ScriptAndShellAttribute : goal.returns-in-ScriptAndShellAttribute
returns-in-ScriptAndShellAttribute g c = rw c.in-ScriptAndShellAttribute.is c.write_around-in-ScriptAndShellAttribute.ensures

pub returns-in-SettingExpression : goal.returns-in-SettingExpression
returns-in-SettingExpression g c = rw c.in-SettingExpression.is c.write_around-in-SettingExpression.ensures

pub returns-in-ShortOptionWithMultipleCharacters : goal.returns-in-ShortOptionWithMultipleCharacters
returns-in-ShortOptionWithMultipleCharacters g c = rw c.in-ShortOptionWithMultipleCharacters.is c.write_around-in-ShortOptionWithMultipleCharacters.ensures

pub returns-in-StarredArgumentOutsideMappedDependency : goal.returns-in-StarredArgumentOutsideMappedDependency
returns-in-StarredArgumentOutsideMappedDependency g c = rw c.in-StarredArgumentOutsideMappedDependency.is c.write_str-in-StarredArgumentOutsideMappedDependency.ensures.writes

pub returns-in-UndefinedArgAttribute : goal.returns-in-UndefinedArgAttribute
returns-in-UndefinedArgAttribute g c = rw c.in-UndefinedArgAttribute.is c.write_around-in-UndefinedArgAttribute.ensures

pub returns-in-UndefinedFunction : goal.returns-in-UndefinedFunction
returns-in-UndefinedFunction g c = rw c.in-UndefinedFunction.is c.write_around-in-UndefinedFunction.ensures

pub returns-in-UndefinedVariable : goal.returns-in-UndefinedVariable
returns-in-UndefinedVariable g c = rw c.in-UndefinedVariable.is c.write_around-in-UndefinedVariable.ensures

pub returns-in-UnicodeEscapeCharacter : goal.returns-in-UnicodeEscapeCharacter
returns-in-UnicodeEscapeCharacter g c = rw c.in-UnicodeEscapeCharacter.is c.write_around-in-UnicodeEscapeCharacter.ensures

pub returns-in-UnicodeEscapeDelimiter : goal.returns-in-UnicodeEscapeDelimiter
returns-in-UnicodeEscapeDelimiter g c = rw c.in-UnicodeEscapeDelimiter.is c.write_around-in-UnicodeEscapeDelimiter.ensures

pub returns-in-UnicodeEscapeEmpty : goal.returns-in-UnicodeEscapeEmpty
returns-in-UnicodeEscapeEmpty g c = rw c.in-UnicodeEscapeEmpty.is c.write_str-in-UnicodeEscapeEmpty.ensures.writes

pub returns-in-UnicodeEscapeLength : goal.returns-in-UnicodeEscapeLength
returns-in-UnicodeEscapeLength g c = rw c.in-UnicodeEscapeLength.is c.write_around-in-UnicodeEscapeLength.ensures

pub returns-in-UnicodeEscapeRange : goal.returns-in-UnicodeEscapeRange
returns-in-UnicodeEscapeRange g c = rw c.in-UnicodeEscapeRange.is c.write_around-in-UnicodeEscapeRange.ensures

pub returns-in-UnicodeEscapeUnterminated : goal.returns-in-UnicodeEscapeUnterminated
returns-in-UnicodeEscapeUnterminated g c = rw c.in-UnicodeEscapeUnterminated.is c.write_str-in-UnicodeEscapeUnterminated.ensures.writes

pub returns-in-UnknownAliasTarget : goal.returns-in-UnknownAliasTarget
returns-in-UnknownAliasTarget g c = rw c.in-UnknownAliasTarget.is c.write_both-in-UnknownAliasTarget.ensures

pub returns-in-UnknownAttribute : goal.returns-in-UnknownAttribute
returns-in-UnknownAttribute g c = rw c.in-UnknownAttribute.is c.write_around-in-UnknownAttribute.ensures

pub returns-in-UnknownAttributeKey : goal.returns-in-UnknownAttributeKey
returns-in-UnknownAttributeKey g c = rw c.in-UnknownAttributeKey.is c.write_both-in-UnknownAttributeKey.ensures

pub returns-in-UnknownDependency : goal.returns-in-UnknownDependency
returns-in-UnknownDependency g c = rw c.in-UnknownDependency.is c.write_both-in-UnknownDependency.ensures

pub returns-in-UnknownSetting : goal.returns-in-UnknownSetting
returns-in-UnknownSetting g c = rw c.in-UnknownSetting.is c.write_around-in-UnknownSetting.ensures

pub returns-in-UnpairedCarriageReturn : goal.returns-in-UnpairedCarriageReturn
returns-in-UnpairedCarriageReturn g c = rw c.in-UnpairedCarriageReturn.is c.write_str-in-UnpairedCarriageReturn.ensures.writes

pub returns-in-UnterminatedBacktick : goal.returns-in-UnterminatedBacktick
returns-in-UnterminatedBacktick g c = rw c.in-UnterminatedBacktick.is c.write_str-in-UnterminatedBacktick.ensures.writes

pub returns-in-UnterminatedInterpolation : goal.returns-in-UnterminatedInterpolation
returns-in-UnterminatedInterpolation g c = rw c.in-UnterminatedInterpolation.is c.write_str-in-UnterminatedInterpolation.ensures.writes

pub returns-in-UnterminatedString : goal.returns-in-UnterminatedString
returns-in-UnterminatedString g c = rw c.in-UnterminatedString.is c.write_str-in-UnterminatedString.ensures.writes
