-- Equality of values without an order: by case, and within a case by the fields in declared order.
use Rattle.std.specs.Prelude.{ℕ, Bool, true, false, ◌&&◌, ◌==◌, List, String}
use denote.Enum.Declared.{tag_of}
use denote.Signature.{static_lft}
use Rattle.std.specs.Bool.{beq, nat_eq}
use Rattle.std.specs.Borrow.{Bor}
use Rattle.std.specs.Cmp.Lexicographic.{pointwise}
use Rattle.std.specs.Global.{Box, Global, Vec}
use Rattle.std.specs.Range.{range_inclusive_end, range_inclusive_exhausted, range_inclusive_start}
use Rattle.std.specs.String.{string_eq}
use Rattle.justfile_vocabulary.specs.contracts.attribute_kind.AttributeKindPartialEq.TheImpl as attribute_kinds
use Rattle.justfile_vocabulary.specs.contracts.item_kind.ItemKindPartialEq.TheImpl as item_kinds
use Rattle.justfile_vocabulary.specs.contracts.keyword.KeywordPartialEq.TheImpl as keywords
use Rattle.justfile_vocabulary.specs.contracts.list_feature.ListFeaturePartialEq.TheImpl as list_features
use Rattle.justfile_vocabulary.specs.contracts.switch.SwitchPartialEq.TheImpl as switches
use Rattle.justfile_vocabulary.specs.contracts.token_kind.TokenKindPartialEq.TheImpl as token_kinds
use Rattle.justfile_numbers.specs.contracts.version.VersionPartialEq.TheImpl as versions
use Rattle.justfile_vocabulary.specs.declared.attribute_kind.AttributeKind.{AttributeKind}
use Rattle.justfile_vocabulary.specs.declared.indentation.Indentation.{Indentation}
use Rattle.justfile_vocabulary.specs.declared.item_kind.ItemKind.{ItemKind}
use Rattle.justfile_vocabulary.specs.declared.keyword.Keyword.{Keyword}
use Rattle.justfile_vocabulary.specs.declared.list_feature.ListFeature.{ListFeature as Feature}
use Rattle.justfile_vocabulary.specs.declared.switch.Switch.{Switch}
use Rattle.justfile_vocabulary.specs.declared.switch.Switch.TheVariants.{Long, Short}
use Rattle.justfile_vocabulary.specs.declared.token_kind.TokenKind.{TokenKind}
use Rattle.justfile_numbers.specs.declared.version.Version.{Version}
use Rattle.justfile_token.specs.contracts.compile_error_kind.CompileErrorKind as error_kinds
use Rattle.justfile_token.specs.contracts.delimiter.DelimiterPartialEq.TheImpl as delimiters
use Rattle.justfile_token.specs.contracts.name.NamePartialEq.TheImpl as names
use Rattle.justfile_token.specs.contracts.namepath.NamepathPartialEq.TheImpl as namepaths
use Rattle.justfile_token.specs.contracts.string_literal.StringLiteralPartialEq.TheImpl as literals
use Rattle.justfile_token.specs.contracts.string_kind.StringKindPartialEq.TheImpl as string_kinds
use Rattle.justfile_token.specs.contracts.token.TokenPartialEq.TheImpl as tokens
use Rattle.justfile_token.specs.declared.compile_error_kind.CompileErrorKind.{CompileErrorKind}
use Rattle.justfile_token.specs.declared.compile_error_kind.CompileErrorKind.TheVariants as kinds
use Rattle.justfile_token.specs.declared.delimiter.Delimiter.{Delimiter}
use Rattle.justfile_token.specs.declared.delimiter.Delimiter.TheVariants.{Brace, Bracket, FormatString, Paren}
use Rattle.justfile_token.specs.declared.name.Name.{Name}
use Rattle.justfile_token.specs.declared.namepath.Namepath.{Namepath}
use Rattle.justfile_token.specs.declared.string_literal.StringLiteral.{StringLiteral}
use Rattle.justfile_token.specs.declared.token.Token.{Token}
use Rattle.justfile_expression.specs.contracts.order.ExpressionPartialEq.TheImpl as expressions
use Rattle.justfile_expression.specs.declared.expression.Expression.{Expression}

abbrev pub token_eq : Token → Token → Bool
token_eq = tokens.eq-value.it

abbrev pub name_eq : Name → Name → Bool
name_eq = names.eq-value.it

abbrev pub namepath_eq : Namepath → Namepath → Bool
namepath_eq = namepaths.eq-value.it

abbrev pub literal_eq : StringLiteral → StringLiteral → Bool
literal_eq = literals.eq-value.it

abbrev pub expression_eq : Expression → Expression → Bool
expression_eq = expressions.eq-value.it

-- expressions in boxes, compared by value
abbrev pub boxed_eq : Box Expression → Box Expression → Bool
boxed_eq x y = expression_eq x.value y.value

abbrev pub indentation_eq : Indentation → Indentation → Bool
indentation_eq i j = (i.character == j.character) && (i.count == j.count)

abbrev pub switch_eq : Switch → Switch → Bool
switch_eq (Long name) (Long other) = string_eq name other
switch_eq (Short character) (Short other) = character == other
switch_eq s t = false

abbrev pub delimiter_eq : Delimiter → Delimiter → Bool
delimiter_eq Brace Brace = true
delimiter_eq Bracket Bracket = true
delimiter_eq (FormatString kind) (FormatString other) = string_kinds.eq-value.it kind other
delimiter_eq Paren Paren = true
delimiter_eq a b = false

-- ---- kinds of errors

-- texts, compared by their bytes
abbrev pub text_eq : Bor (List ℕ) → Bor (List ℕ) → Bool
text_eq x y = pointwise nat_eq x.now y.now

abbrev pub attribute_kind_eq : AttributeKind → AttributeKind → Bool
attribute_kind_eq = attribute_kinds.eq-value.it

abbrev pub item_kind_eq : ItemKind → ItemKind → Bool
item_kind_eq = item_kinds.eq-value.it

abbrev pub keyword_eq : Keyword → Keyword → Bool
keyword_eq = keywords.eq-value.it

abbrev pub list_feature_eq : Feature → Feature → Bool
list_feature_eq = list_features.eq-value.it

abbrev pub token_kind_eq : TokenKind → TokenKind → Bool
token_kind_eq = token_kinds.eq-value.it

abbrev pub version_eq : Version → Version → Bool
version_eq = versions.eq-value.it

-- the index of a kind of errors among the cases, in declared order
abbrev pub case_index : CompileErrorKind → ℕ
case_index = tag_of (error_kinds.the_type static_lft)

-- two kinds of errors of the same case, and whether all their fields are equal
pub data AreCompared : (a b : CompileErrorKind) → (equal : Bool) → Type 0 where
  ArgAttributeMinExceedsMax : {min min' max max' : ℕ}
      → AreCompared (kinds.ArgAttributeMinExceedsMax min max) (kinds.ArgAttributeMinExceedsMax min' max') ((min == min') && (max == max'))
  ArgAttributeRequiresMultipleOrVariadic : {key key' : Name}
      → AreCompared (kinds.ArgAttributeRequiresMultipleOrVariadic key) (kinds.ArgAttributeRequiresMultipleOrVariadic key') (name_eq key key')
  ArgAttributeRequiresOption : {key key' : Name}
      → AreCompared (kinds.ArgAttributeRequiresOption key) (kinds.ArgAttributeRequiresOption key') (name_eq key key')
  ArgumentCountParse : {key key' : Name} {source source' : Bor (List ℕ)} {value value' : String Global}
      → AreCompared (kinds.ArgumentCountParse key source value) (kinds.ArgumentCountParse key' source' value') (name_eq key key' && (text_eq source source' && string_eq value value'))
  ArgumentCountValue : {key key' : Name} {value value' : String Global}
      → AreCompared (kinds.ArgumentCountValue key value) (kinds.ArgumentCountValue key' value') (name_eq key key' && string_eq value value')
  AttributeArgumentCountMismatch : {attribute attribute' : Name} {found found' min min' max max' : ℕ}
      → AreCompared (kinds.AttributeArgumentCountMismatch attribute found min max) (kinds.AttributeArgumentCountMismatch attribute' found' min' max') (name_eq attribute attribute' && ((found == found') && ((min == min') && (max == max'))))
  AttributeArgumentExpression : {attribute attribute' : Name}
      → AreCompared (kinds.AttributeArgumentExpression attribute) (kinds.AttributeArgumentExpression attribute') (name_eq attribute attribute')
  AttributeKeyMissingValue : {key key' : Name}
      → AreCompared (kinds.AttributeKeyMissingValue key) (kinds.AttributeKeyMissingValue key') (name_eq key key')
  AttributeKeyTakesNoValue : {key key' : Name}
      → AreCompared (kinds.AttributeKeyTakesNoValue key) (kinds.AttributeKeyTakesNoValue key') (name_eq key key')
  AttributePositionalFollowsKeyword : AreCompared kinds.AttributePositionalFollowsKeyword kinds.AttributePositionalFollowsKeyword true
  BacktickShebang : AreCompared kinds.BacktickShebang kinds.BacktickShebang true
  CircularRecipeDependency : {recipe recipe' : Bor (List ℕ)} {circle circle' : Vec (Bor (List ℕ))}
      → AreCompared (kinds.CircularRecipeDependency recipe circle) (kinds.CircularRecipeDependency recipe' circle') (text_eq recipe recipe' && pointwise text_eq circle.items circle'.items)
  CircularVariableDependency : {variable variable' : Bor (List ℕ)} {circle circle' : Vec (Bor (List ℕ))}
      → AreCompared (kinds.CircularVariableDependency variable circle) (kinds.CircularVariableDependency variable' circle') (text_eq variable variable' && pointwise text_eq circle.items circle'.items)
  DependencyArgumentCountMismatch : {dependency dependency' : Namepath} {found found' min min' max max' : ℕ}
      → AreCompared (kinds.DependencyArgumentCountMismatch dependency found min max) (kinds.DependencyArgumentCountMismatch dependency' found' min' max') (namepath_eq dependency dependency' && ((found == found') && ((min == min') && (max == max'))))
  DuplicateArgAttribute : {arg arg' : String Global} {first first' : ℕ}
      → AreCompared (kinds.DuplicateArgAttribute arg first) (kinds.DuplicateArgAttribute arg' first') (string_eq arg arg' && (first == first'))
  DuplicateAttribute : {attribute attribute' : Name} {first first' : ℕ}
      → AreCompared (kinds.DuplicateAttribute attribute first) (kinds.DuplicateAttribute attribute' first') (name_eq attribute attribute' && (first == first'))
  DuplicateAttributeKey : {attribute attribute' key key' : Bor (List ℕ)}
      → AreCompared (kinds.DuplicateAttributeKey attribute key) (kinds.DuplicateAttributeKey attribute' key') (text_eq attribute attribute' && text_eq key key')
  DuplicateDefault : {recipe recipe' : Bor (List ℕ)}
      → AreCompared (kinds.DuplicateDefault recipe) (kinds.DuplicateDefault recipe') (text_eq recipe recipe')
  DuplicateFunctionParameter : {function function' parameter parameter' : Bor (List ℕ)}
      → AreCompared (kinds.DuplicateFunctionParameter function parameter) (kinds.DuplicateFunctionParameter function' parameter') (text_eq function function' && text_eq parameter parameter')
  DuplicateGroupAttribute : {first first' : ℕ} {group group' : StringLiteral}
      → AreCompared (kinds.DuplicateGroupAttribute first group) (kinds.DuplicateGroupAttribute first' group') ((first == first') && literal_eq group group')
  DuplicateOption : {recipe recipe' : Bor (List ℕ)} {option option' : Switch}
      → AreCompared (kinds.DuplicateOption recipe option) (kinds.DuplicateOption recipe' option') (text_eq recipe recipe' && switches.eq-value.it option option')
  DuplicateParameter : {recipe recipe' parameter parameter' : Bor (List ℕ)}
      → AreCompared (kinds.DuplicateParameter recipe parameter) (kinds.DuplicateParameter recipe' parameter') (text_eq recipe recipe' && text_eq parameter parameter')
  DuplicateSet : {setting setting' : Bor (List ℕ)} {first first' : ℕ}
      → AreCompared (kinds.DuplicateSet setting first) (kinds.DuplicateSet setting' first') (text_eq setting setting' && (first == first'))
  DuplicateUnexport : {variable variable' : Bor (List ℕ)}
      → AreCompared (kinds.DuplicateUnexport variable) (kinds.DuplicateUnexport variable') (text_eq variable variable')
  DuplicateVariable : {variable variable' : Bor (List ℕ)}
      → AreCompared (kinds.DuplicateVariable variable) (kinds.DuplicateVariable variable') (text_eq variable variable')
  EscapeEndOfFile : AreCompared kinds.EscapeEndOfFile kinds.EscapeEndOfFile true
  ExitMessageAndNoExitMessageAttribute : {recipe recipe' : Bor (List ℕ)}
      → AreCompared (kinds.ExitMessageAndNoExitMessageAttribute recipe) (kinds.ExitMessageAndNoExitMessageAttribute recipe') (text_eq recipe recipe')
  ExpectedKeyword : {expected expected' : Vec Keyword} {found found' : Token}
      → AreCompared (kinds.ExpectedKeyword expected found) (kinds.ExpectedKeyword expected' found') (pointwise keyword_eq expected.items expected'.items && token_eq found found')
  ExportUnexported : {variable variable' : Bor (List ℕ)}
      → AreCompared (kinds.ExportUnexported variable) (kinds.ExportUnexported variable') (text_eq variable variable')
  ExtraLeadingWhitespace : AreCompared kinds.ExtraLeadingWhitespace kinds.ExtraLeadingWhitespace true
  ExtraneousAttributes : {count count' : ℕ}
      → AreCompared (kinds.ExtraneousAttributes count) (kinds.ExtraneousAttributes count') (count == count')
  FlagAndPatternArgAttribute : {parameter parameter' : String Global}
      → AreCompared (kinds.FlagAndPatternArgAttribute parameter) (kinds.FlagAndPatternArgAttribute parameter') (string_eq parameter parameter')
  FlagAndValueArgAttribute : {parameter parameter' : String Global}
      → AreCompared (kinds.FlagAndValueArgAttribute parameter) (kinds.FlagAndValueArgAttribute parameter') (string_eq parameter parameter')
  FlagAttributeTakesNoValue : {parameter parameter' : String Global}
      → AreCompared (kinds.FlagAttributeTakesNoValue parameter) (kinds.FlagAttributeTakesNoValue parameter') (string_eq parameter parameter')
  FlagWithDefault : {parameter parameter' : String Global}
      → AreCompared (kinds.FlagWithDefault parameter) (kinds.FlagWithDefault parameter') (string_eq parameter parameter')
  FunctionArgumentCountMismatch : {arguments arguments' : ℕ} {expected expected' : _} {function function' : Bor (List ℕ)}
      → AreCompared (kinds.FunctionArgumentCountMismatch arguments expected function) (kinds.FunctionArgumentCountMismatch arguments' expected' function') ((arguments == arguments') && (((range_inclusive_start expected == range_inclusive_start expected') && ((range_inclusive_end expected == range_inclusive_end expected') && beq (range_inclusive_exhausted expected) (range_inclusive_exhausted expected'))) && text_eq function function'))
  GuardAndInfallibleSigil : AreCompared kinds.GuardAndInfallibleSigil kinds.GuardAndInfallibleSigil true
  IncompatibleSettings : {first first' : Keyword} {first_line first_line' : ℕ} {second second' : Keyword}
      → AreCompared (kinds.IncompatibleSettings first first_line second) (kinds.IncompatibleSettings first' first_line' second') (keyword_eq first first' && ((first_line == first_line') && keyword_eq second second'))
  InconsistentLeadingWhitespace : {expected expected' found found' : Bor (List ℕ)}
      → AreCompared (kinds.InconsistentLeadingWhitespace expected found) (kinds.InconsistentLeadingWhitespace expected' found') (text_eq expected expected' && text_eq found found')
  Internal : {message message' : Bor (List ℕ)}
      → AreCompared (kinds.Internal message) (kinds.Internal message') (text_eq message message')
  InvalidAttribute : {item_kind item_kind' : ItemKind} {item_name item_name' : Bor (List ℕ)} {attribute attribute' : AttributeKind}
      → AreCompared (kinds.InvalidAttribute item_kind item_name attribute) (kinds.InvalidAttribute item_kind' item_name' attribute') (item_kind_eq item_kind item_kind' && (text_eq item_name item_name' && attribute_kind_eq attribute attribute'))
  InvalidEscapeSequence : {character character' : ℕ}
      → AreCompared (kinds.InvalidEscapeSequence character) (kinds.InvalidEscapeSequence character') (character == character')
  InvalidIndentation : {message message' : Bor (List ℕ)}
      → AreCompared (kinds.InvalidIndentation message) (kinds.InvalidIndentation message') (text_eq message message')
  InvalidMinimumVersion : {source source' : Bor (List ℕ)} {version version' : String Global}
      → AreCompared (kinds.InvalidMinimumVersion source version) (kinds.InvalidMinimumVersion source' version') (text_eq source source' && string_eq version version')
  InvalidShellRecipeAttribute : {attribute attribute' : AttributeKind} {recipe recipe' : Bor (List ℕ)}
      → AreCompared (kinds.InvalidShellRecipeAttribute attribute recipe) (kinds.InvalidShellRecipeAttribute attribute' recipe') (attribute_kind_eq attribute attribute' && text_eq recipe recipe')
  InvalidSignal : {signal signal' : String Global}
      → AreCompared (kinds.InvalidSignal signal) (kinds.InvalidSignal signal') (string_eq signal signal')
  ListFeature : {feature feature' : Feature}
      → AreCompared (kinds.ListFeature feature) (kinds.ListFeature feature') (list_feature_eq feature feature')
  MappedDependencyMultipleStarredArguments : AreCompared kinds.MappedDependencyMultipleStarredArguments kinds.MappedDependencyMultipleStarredArguments true
  MappedDependencyWithoutListsSetting : AreCompared kinds.MappedDependencyWithoutListsSetting kinds.MappedDependencyWithoutListsSetting true
  MappedDependencyWithoutStarredArgument : AreCompared kinds.MappedDependencyWithoutStarredArgument kinds.MappedDependencyWithoutStarredArgument true
  MinimumVersion : {current current' minimum minimum' : Version}
      → AreCompared (kinds.MinimumVersion current minimum) (kinds.MinimumVersion current' minimum') (version_eq current current' && version_eq minimum minimum')
  MismatchedClosingDelimiter : {close close' : Delimiter} {open_line open_line' : ℕ} {opener opener' : Delimiter}
      → AreCompared (kinds.MismatchedClosingDelimiter close open_line opener) (kinds.MismatchedClosingDelimiter close' open_line' opener') (delimiters.eq-value.it close close' && ((open_line == open_line') && delimiters.eq-value.it opener opener'))
  MixedLeadingWhitespace : {whitespace whitespace' : Bor (List ℕ)}
      → AreCompared (kinds.MixedLeadingWhitespace whitespace) (kinds.MixedLeadingWhitespace whitespace') (text_eq whitespace whitespace')
  NoCdAndWorkingDirectoryAttribute : {recipe recipe' : Bor (List ℕ)}
      → AreCompared (kinds.NoCdAndWorkingDirectoryAttribute recipe) (kinds.NoCdAndWorkingDirectoryAttribute recipe') (text_eq recipe recipe')
  OptionNameContainsEqualSign : {parameter parameter' : String Global}
      → AreCompared (kinds.OptionNameContainsEqualSign parameter) (kinds.OptionNameContainsEqualSign parameter') (string_eq parameter parameter')
  OptionNameEmpty : {parameter parameter' : String Global}
      → AreCompared (kinds.OptionNameEmpty parameter) (kinds.OptionNameEmpty parameter') (string_eq parameter parameter')
  OptionNameStartsWithDash : {parameter parameter' : String Global}
      → AreCompared (kinds.OptionNameStartsWithDash parameter) (kinds.OptionNameStartsWithDash parameter') (string_eq parameter parameter')
  ParameterFollowsVariadicParameter : {parameter parameter' : Bor (List ℕ)}
      → AreCompared (kinds.ParameterFollowsVariadicParameter parameter) (kinds.ParameterFollowsVariadicParameter parameter') (text_eq parameter parameter')
  ParsingRecursionDepthExceeded : AreCompared kinds.ParsingRecursionDepthExceeded kinds.ParsingRecursionDepthExceeded true
  Redefinition : {first first' : ℕ} {first_type first_type' : ItemKind} {name name' : Bor (List ℕ)} {second_type second_type' : ItemKind}
      → AreCompared (kinds.Redefinition first first_type name second_type) (kinds.Redefinition first' first_type' name' second_type') ((first == first') && (item_kind_eq first_type first_type' && (text_eq name name' && item_kind_eq second_type second_type')))
  RequiredParameterFollowsDefaultParameter : {parameter parameter' : Bor (List ℕ)}
      → AreCompared (kinds.RequiredParameterFollowsDefaultParameter parameter) (kinds.RequiredParameterFollowsDefaultParameter parameter') (text_eq parameter parameter')
  ScriptAndShellAttribute : {recipe recipe' : Bor (List ℕ)}
      → AreCompared (kinds.ScriptAndShellAttribute recipe) (kinds.ScriptAndShellAttribute recipe') (text_eq recipe recipe')
  SettingExpression : {setting setting' : Keyword}
      → AreCompared (kinds.SettingExpression setting) (kinds.SettingExpression setting') (keyword_eq setting setting')
  ShellExpansion : {err err' : String Global}
      → AreCompared (kinds.ShellExpansion err) (kinds.ShellExpansion err') (string_eq err err')
  ShortOptionWithMultipleCharacters : {parameter parameter' : String Global}
      → AreCompared (kinds.ShortOptionWithMultipleCharacters parameter) (kinds.ShortOptionWithMultipleCharacters parameter') (string_eq parameter parameter')
  StarredArgumentOutsideMappedDependency : AreCompared kinds.StarredArgumentOutsideMappedDependency kinds.StarredArgumentOutsideMappedDependency true
  UndefinedArgAttribute : {argument argument' : String Global}
      → AreCompared (kinds.UndefinedArgAttribute argument) (kinds.UndefinedArgAttribute argument') (string_eq argument argument')
  UndefinedFunction : {function function' : Bor (List ℕ)}
      → AreCompared (kinds.UndefinedFunction function) (kinds.UndefinedFunction function') (text_eq function function')
  UndefinedVariable : {variable variable' : Bor (List ℕ)}
      → AreCompared (kinds.UndefinedVariable variable) (kinds.UndefinedVariable variable') (text_eq variable variable')
  UnexpectedCharacter : {expected expected' : Vec ℕ}
      → AreCompared (kinds.UnexpectedCharacter expected) (kinds.UnexpectedCharacter expected') (pointwise nat_eq expected.items expected'.items)
  UnexpectedClosingDelimiter : {close close' : Delimiter}
      → AreCompared (kinds.UnexpectedClosingDelimiter close) (kinds.UnexpectedClosingDelimiter close') (delimiters.eq-value.it close close')
  UnexpectedEndOfToken : {expected expected' : Vec ℕ}
      → AreCompared (kinds.UnexpectedEndOfToken expected) (kinds.UnexpectedEndOfToken expected') (pointwise nat_eq expected.items expected'.items)
  UnexpectedToken : {expected expected' : Vec TokenKind} {found found' : TokenKind}
      → AreCompared (kinds.UnexpectedToken expected found) (kinds.UnexpectedToken expected' found') (pointwise token_kind_eq expected.items expected'.items && token_kind_eq found found')
  UnicodeEscapeCharacter : {character character' : ℕ}
      → AreCompared (kinds.UnicodeEscapeCharacter character) (kinds.UnicodeEscapeCharacter character') (character == character')
  UnicodeEscapeDelimiter : {character character' : ℕ}
      → AreCompared (kinds.UnicodeEscapeDelimiter character) (kinds.UnicodeEscapeDelimiter character') (character == character')
  UnicodeEscapeEmpty : AreCompared kinds.UnicodeEscapeEmpty kinds.UnicodeEscapeEmpty true
  UnicodeEscapeLength : {hex hex' : String Global}
      → AreCompared (kinds.UnicodeEscapeLength hex) (kinds.UnicodeEscapeLength hex') (string_eq hex hex')
  UnicodeEscapeRange : {hex hex' : String Global}
      → AreCompared (kinds.UnicodeEscapeRange hex) (kinds.UnicodeEscapeRange hex') (string_eq hex hex')
  UnicodeEscapeUnterminated : AreCompared kinds.UnicodeEscapeUnterminated kinds.UnicodeEscapeUnterminated true
  UnknownAliasTarget : {alias alias' : Bor (List ℕ)} {target target' : Namepath}
      → AreCompared (kinds.UnknownAliasTarget alias target) (kinds.UnknownAliasTarget alias' target') (text_eq alias alias' && namepath_eq target target')
  UnknownAttribute : {attribute attribute' : Bor (List ℕ)}
      → AreCompared (kinds.UnknownAttribute attribute) (kinds.UnknownAttribute attribute') (text_eq attribute attribute')
  UnknownAttributeKey : {attribute attribute' key key' : Bor (List ℕ)}
      → AreCompared (kinds.UnknownAttributeKey attribute key) (kinds.UnknownAttributeKey attribute' key') (text_eq attribute attribute' && text_eq key key')
  UnknownDependency : {recipe recipe' : Bor (List ℕ)} {unknown unknown' : Namepath}
      → AreCompared (kinds.UnknownDependency recipe unknown) (kinds.UnknownDependency recipe' unknown') (text_eq recipe recipe' && namepath_eq unknown unknown')
  UnknownSetting : {setting setting' : Bor (List ℕ)}
      → AreCompared (kinds.UnknownSetting setting) (kinds.UnknownSetting setting') (text_eq setting setting')
  UnknownStartOfToken : {start start' : ℕ}
      → AreCompared (kinds.UnknownStartOfToken start) (kinds.UnknownStartOfToken start') (start == start')
  UnpairedCarriageReturn : AreCompared kinds.UnpairedCarriageReturn kinds.UnpairedCarriageReturn true
  UnterminatedBacktick : AreCompared kinds.UnterminatedBacktick kinds.UnterminatedBacktick true
  UnterminatedInterpolation : AreCompared kinds.UnterminatedInterpolation kinds.UnterminatedInterpolation true
  UnterminatedString : AreCompared kinds.UnterminatedString kinds.UnterminatedString true
