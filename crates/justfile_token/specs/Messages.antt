-- The messages of errors.
use Rattle.std.specs.Prelude.{ℕ, Bool, true, false, List, codes, decimal, encode_utf8, string_bytes, if◌then◌else◌}
use Rattle.std.specs.Range.{range_inclusive_start, range_inclusive_end}
use Rattle.justfile_vocabulary.specs.Text.{◌&◌}
use Rattle.justfile_vocabulary.specs.AttributeKind.{attribute_name}
use Rattle.justfile_vocabulary.specs.Count.{noun_text}
use Rattle.justfile_token.specs.Delimiter.{open_text, close_text}
use Rattle.justfile_vocabulary.specs.ItemKind.{item_kind_text}
use Rattle.justfile_vocabulary.specs.Keyword.{keyword_text}
use Rattle.justfile_vocabulary.specs.ListFeature.{feature_text}
use Rattle.justfile_message.specs.Parts.{arguments_text, duplicate_text, expected_characters, expected_keywords, expected_tokens, range_text, recipe_circle_text, redefinition_text, taken_text, variable_circle_text}
use Rattle.justfile_token.specs.Name.{name_text}
use Rattle.justfile_token.specs.Namepath.{namepath_text}
use Rattle.justfile_message.specs.Shown.{blanks_text, escaped_text, line_text, start_text}
use Rattle.justfile_token.specs.StringLiteral.{literal_text}
use Rattle.justfile_vocabulary.specs.Switch.{switch_text}
use Rattle.justfile_token.specs.Token.{lexeme_of}
use Rattle.justfile_vocabulary.specs.TokenKind.{kind_text}
use Rattle.justfile_numbers.specs.Version.{version_text}
use Rattle.justfile_token.specs.declared.compile_error.CompileError.{CompileError}
use Rattle.justfile_token.specs.declared.compile_error_kind.CompileErrorKind.{CompileErrorKind}
use Rattle.justfile_token.specs.declared.compile_error_kind.CompileErrorKind.TheVariants as kinds
use Rattle.justfile_token.specs.declared.token.Token.{Token}
use Rattle.justfile_vocabulary.specs.declared.token_kind.TokenKind.{TokenKind}
use Rattle.justfile_vocabulary.specs.declared.token_kind.TokenKind.TheVariants.{Identifier}

abbrev pub is_identifier : TokenKind → Bool
is_identifier Identifier = true
is_identifier _ = false

-- a token that was found instead of a keyword: its kind, or for an identifier its text
abbrev pub found_text : Token → List ℕ
found_text token = if is_identifier token.kind then codes "identifier `" & lexeme_of token & codes "`" else codes "`" & kind_text token.kind & codes "`"

-- the message of an error kind at a token on this line
abbrev pub kind_message : ℕ → CompileErrorKind → List ℕ
kind_message _ (kinds.ArgAttributeMinExceedsMax min max) = codes "argument attribute `min` `" & decimal min & codes "` exceeds `max` `" & decimal max & codes "`"
kind_message _ (kinds.ArgAttributeRequiresMultipleOrVariadic key) = codes "argument attribute `" & name_text key & codes "` only valid with `multiple` or a variadic parameter"
kind_message _ (kinds.ArgAttributeRequiresOption key) = codes "argument attribute `" & name_text key & codes "` only valid with `long` or `short`"
kind_message _ (kinds.ArgumentCountParse key source value) =
    codes "invalid `" & name_text key & codes "` value `" & string_bytes value & codes "`: " & source.now
kind_message _ (kinds.ArgumentCountValue key value) = codes "invalid `" & name_text key & codes "` value `" & string_bytes value & codes "`"
kind_message _ (kinds.AttributeArgumentCountMismatch attribute found min max) = codes "attribute `" & name_text attribute & codes "` got " & arguments_text found & codes " but takes " & taken_text found min max
kind_message _ (kinds.AttributeArgumentExpression attribute) = codes "attribute `" & name_text attribute & codes "` arguments must be string literals"
kind_message _ (kinds.AttributeKeyMissingValue key) = codes "attribute key `" & name_text key & codes "` requires value"
kind_message _ (kinds.AttributeKeyTakesNoValue key) = codes "attribute key `" & name_text key & codes "` takes no value"
kind_message _ kinds.AttributePositionalFollowsKeyword = codes "positional attribute arguments cannot follow keyword attribute arguments"
kind_message _ kinds.BacktickShebang = codes "backticks may not start with `#!`"
kind_message _ (kinds.CircularRecipeDependency recipe circle) = recipe_circle_text recipe.now circle.items
kind_message _ (kinds.CircularVariableDependency variable circle) = variable_circle_text variable.now circle.items
kind_message _ (kinds.DependencyArgumentCountMismatch dependency found min max) = codes "dependency `" & namepath_text dependency & codes "` got " & arguments_text found & codes " but takes " & taken_text found min max
kind_message line (kinds.DuplicateArgAttribute arg first) = codes "attribute for argument `" & string_bytes arg & codes "`" & duplicate_text first line
kind_message line (kinds.DuplicateAttribute attribute first) = codes "attribute `" & name_text attribute & codes "`" & duplicate_text first line
kind_message _ (kinds.DuplicateAttributeKey attribute key) = codes "duplicate key `" & key.now & codes "` for `" & attribute.now & codes "` attribute"
kind_message _ (kinds.DuplicateDefault recipe) = codes "recipe `" & recipe.now & codes "` has duplicate `[default]` attribute, which may only appear once per module"
kind_message _ (kinds.DuplicateFunctionParameter function parameter) = codes "function `" & function.now & codes "` has duplicate parameter `" & parameter.now & codes "`"
kind_message line (kinds.DuplicateGroupAttribute first group) = codes "`[group(" & literal_text group & codes ")]` attribute" & duplicate_text first line
kind_message _ (kinds.DuplicateOption recipe option) = codes "recipe `" & recipe.now & codes "` defines option `" & switch_text option & codes "` multiple times"
kind_message _ (kinds.DuplicateParameter recipe parameter) = codes "recipe `" & recipe.now & codes "` has duplicate parameter `" & parameter.now & codes "`"
kind_message line (kinds.DuplicateSet setting first) = codes "setting `" & setting.now & codes "` first set on line " & line_text first & codes " is redefined on line " & line_text line
kind_message _ (kinds.DuplicateUnexport variable) = codes "variable `" & variable.now & codes "` is unexported multiple times"
kind_message _ (kinds.DuplicateVariable variable) = codes "variable `" & variable.now & codes "` has multiple definitions"
kind_message _ kinds.EscapeEndOfFile = codes "expected escape sequence but found end-of-file"
kind_message _ (kinds.ExitMessageAndNoExitMessageAttribute recipe) = codes "recipe `" & recipe.now & codes "` has both `[exit-message]` and `[no-exit-message]` attributes"
kind_message _ (kinds.ExpectedKeyword expected found) = codes "expected keyword " & expected_keywords expected.items & codes " but found " & found_text found
kind_message _ (kinds.ExportUnexported variable) = codes "variable " & variable.now & codes " is both exported and unexported"
kind_message _ kinds.ExtraLeadingWhitespace = codes "recipe line has extra leading whitespace"
kind_message _ (kinds.ExtraneousAttributes count) = codes "extraneous " & noun_text (codes "attribute") count
kind_message _ (kinds.FlagAndPatternArgAttribute parameter) = codes "argument `" & string_bytes parameter & codes "` may not have both `flag` and `pattern` attributes"
kind_message _ (kinds.FlagAndValueArgAttribute parameter) = codes "argument `" & string_bytes parameter & codes "` may not have both `flag` and `value` attributes"
kind_message _ (kinds.FlagAttributeTakesNoValue parameter) = codes "`flag` attribute for argument `" & string_bytes parameter & codes "` takes no value"
kind_message _ (kinds.FlagWithDefault parameter) = codes "flag parameter `" & string_bytes parameter & codes "` may not have a default"
kind_message _ (kinds.FunctionArgumentCountMismatch arguments expected function) = codes "function `" & function.now & codes "` called with " & arguments_text arguments & codes " but takes " & range_text (range_inclusive_start expected) (range_inclusive_end expected)
kind_message _ kinds.GuardAndInfallibleSigil = codes "the guard `?` and infallible `-` sigils may not be used together"
kind_message _ (kinds.IncompatibleSettings first first_line second) = codes "`" & keyword_text first & codes "` set on line " & line_text first_line & codes " is incompatible with `" & keyword_text second & codes "`"
kind_message _ (kinds.InconsistentLeadingWhitespace expected found) = codes "recipe line has inconsistent leading whitespace, started with `" & blanks_text expected.now & codes "` but found line with `" & blanks_text found.now & codes "`"
kind_message _ (kinds.Internal message) = codes "internal error, this may indicate a bug in just: " & message.now & codes "\nconsider filing an issue: https://github.com/casey/just/issues/new"
kind_message _ (kinds.InvalidAttribute item_kind item_name attribute) = item_kind_text item_kind & codes " `" & item_name.now & codes "` has invalid attribute `" & attribute_name attribute & codes "`"
kind_message _ (kinds.InvalidEscapeSequence character) = codes "`\\" & escaped_text character & codes "` is not a valid escape sequence"
kind_message _ (kinds.InvalidIndentation message) = message.now
kind_message _ (kinds.InvalidMinimumVersion source version) = codes "`minimum-version` setting has invalid version `" & string_bytes version & codes "`: " & source.now
kind_message _ (kinds.InvalidShellRecipeAttribute attribute recipe) = codes "shell recipe `" & recipe.now & codes "` has script recipe attribute `" & attribute_name attribute & codes "`"
kind_message _ (kinds.InvalidSignal signal) = codes "invalid signal `" & string_bytes signal & codes "`: expected `SIGHUP`, `SIGINT`, or `SIGQUIT`"
kind_message _ (kinds.ListFeature feature) = feature_text feature
kind_message _ kinds.MappedDependencyMultipleStarredArguments = codes "mapped dependencies may not have multiple starred arguments"
kind_message _ kinds.MappedDependencyWithoutListsSetting = codes "mapped dependencies require `set lists`"
kind_message _ kinds.MappedDependencyWithoutStarredArgument = codes "mapped dependencies must have starred argument"
kind_message _ (kinds.MinimumVersion current minimum) = codes "justfile requires just " & version_text minimum & codes " or later, but using " & version_text current
kind_message _ (kinds.MismatchedClosingDelimiter close open_line opener) = codes "mismatched closing delimiter `" & close_text close & codes "`, did you mean to close the `" & open_text opener & codes "` on line " & line_text open_line & codes "?"
kind_message _ (kinds.MixedLeadingWhitespace whitespace) = codes "found a mix of tabs and spaces in leading whitespace: `" & blanks_text whitespace.now & codes "`\nleading whitespace may consist of tabs or spaces, but not both"
kind_message _ (kinds.NoCdAndWorkingDirectoryAttribute recipe) = codes "recipe `" & recipe.now & codes "` has both `[no-cd]` and `[working-directory]` attributes"
kind_message _ (kinds.OptionNameContainsEqualSign parameter) = codes "option name for parameter `" & string_bytes parameter & codes "` contains equal sign"
kind_message _ (kinds.OptionNameEmpty parameter) = codes "option name for parameter `" & string_bytes parameter & codes "` is empty"
kind_message _ (kinds.OptionNameStartsWithDash parameter) = codes "option name for parameter `" & string_bytes parameter & codes "` starts with dash"
kind_message _ (kinds.ParameterFollowsVariadicParameter parameter) = codes "parameter `" & parameter.now & codes "` follows variadic parameter"
kind_message _ kinds.ParsingRecursionDepthExceeded = codes "parsing recursion depth exceeded"
kind_message line (kinds.Redefinition first first_type name second_type) = redefinition_text first_type name.now first second_type line
kind_message _ (kinds.RequiredParameterFollowsDefaultParameter parameter) = codes "non-default parameter `" & parameter.now & codes "` follows default parameter"
kind_message _ (kinds.ScriptAndShellAttribute recipe) = codes "recipe `" & recipe.now & codes "` has both `[script]` and `[shell]` attributes"
kind_message _ (kinds.SettingExpression setting) = codes "`" & keyword_text setting & codes "` setting must be a plain string literal"
kind_message _ (kinds.ShellExpansion err) = codes "shell expansion failed: " & string_bytes err
kind_message _ (kinds.ShortOptionWithMultipleCharacters parameter) = codes "short option name for parameter `" & string_bytes parameter & codes "` contains multiple characters"
kind_message _ kinds.StarredArgumentOutsideMappedDependency = codes "starred arguments may not be used outside mapped dependencies"
kind_message _ (kinds.UndefinedArgAttribute argument) = codes "argument attribute for undefined argument `" & string_bytes argument & codes "`"
kind_message _ (kinds.UndefinedFunction function) = codes "call to undefined function `" & function.now & codes "`"
kind_message _ (kinds.UndefinedVariable variable) = codes "variable `" & variable.now & codes "` not defined"
kind_message _ (kinds.UnexpectedCharacter expected) = codes "expected character " & expected_characters expected.items
kind_message _ (kinds.UnexpectedClosingDelimiter close) = codes "unexpected closing delimiter `" & close_text close & codes "`"
kind_message _ (kinds.UnexpectedEndOfToken expected) = codes "expected character " & expected_characters expected.items & codes " but found end-of-file"
kind_message _ (kinds.UnexpectedToken expected found) = codes "expected " & expected_tokens expected.items & codes ", but found " & kind_text found
kind_message _ (kinds.UnicodeEscapeCharacter character) = codes "expected hex digit [0-9A-Fa-f] but found `" & encode_utf8 character & codes "`"
kind_message _ (kinds.UnicodeEscapeDelimiter character) = codes "expected unicode escape sequence delimiter `{` but found `" & encode_utf8 character & codes "`"
kind_message _ kinds.UnicodeEscapeEmpty = codes "unicode escape sequences must not be empty"
kind_message _ (kinds.UnicodeEscapeLength hex) = codes "unicode escape sequence starting with `\\u{" & string_bytes hex & codes "` longer than six hex digits"
kind_message _ (kinds.UnicodeEscapeRange hex) = codes "unicode escape sequence value `" & string_bytes hex & codes "` greater than maximum valid code point `10FFFF`"
kind_message _ kinds.UnicodeEscapeUnterminated = codes "unterminated unicode escape sequence"
kind_message _ (kinds.UnknownAliasTarget alias target) = codes "alias `" & alias.now & codes "` has an unknown target `" & namepath_text target & codes "`"
kind_message _ (kinds.UnknownAttribute attribute) = codes "unknown attribute `" & attribute.now & codes "`"
kind_message _ (kinds.UnknownAttributeKey attribute key) = codes "unknown key `" & key.now & codes "` for `" & attribute.now & codes "` attribute"
kind_message _ (kinds.UnknownDependency recipe unknown) = codes "recipe `" & recipe.now & codes "` has unknown dependency `" & namepath_text unknown & codes "`"
kind_message _ (kinds.UnknownSetting setting) = codes "unknown setting `" & setting.now & codes "`"
kind_message _ (kinds.UnknownStartOfToken start) = codes "unknown start of token " & start_text start
kind_message _ kinds.UnpairedCarriageReturn = codes "unpaired carriage return"
kind_message _ kinds.UnterminatedBacktick = codes "unterminated backtick"
kind_message _ kinds.UnterminatedInterpolation = codes "unterminated interpolation"
kind_message _ kinds.UnterminatedString = codes "unterminated string"

abbrev pub message_text : CompileError → List ℕ
message_text error = kind_message error.token.line error.kind
