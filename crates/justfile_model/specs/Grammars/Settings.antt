-- The forms of settings.
use Rattle.std.specs.Prelude.{Option, Some, None}
use Rattle.justfile_vocabulary.specs.declared.keyword.Keyword.{Keyword}
use Rattle.justfile_vocabulary.specs.declared.keyword.Keyword.TheVariants.{Alias, AllowDuplicateRecipes, AllowDuplicateVariables, Assert, DefaultList, DefaultScript, DotenvCommand, DotenvFilename, DotenvLoad, DotenvOverride, DotenvPath, DotenvRequired, Eager, Else, Export, F, Fallback, False, Guards, If, IgnoreComments, Import, Indentation, Lazy, Lists, MinimumVersion, Mod, NoCd, NoExitMessage, PositionalArguments, Quiet, ScriptInterpreter, Set, Shell, Tempdir, True, Unexport, Unstable, WindowsPowershell, WindowsShell, WorkingDirectory, X}

-- the form of the value after the name of a setting
pub data SettingForm : Type 0 where
  -- nothing, or `:=` and `true` or `false`
  TruthForm : SettingForm
  -- `:=` and an expression
  ExpressionForm : SettingForm
  -- `:=` and a list of expressions in brackets, at least one
  InterpreterForm : SettingForm
  -- `:=` and an expression that has to be a plain literal
  PlainForm : SettingForm

-- the form of the setting with this keyword, if there is one
abbrev pub setting_form : Keyword → Option SettingForm
setting_form Alias = None
setting_form AllowDuplicateRecipes = Some TruthForm
setting_form AllowDuplicateVariables = Some TruthForm
setting_form Assert = None
setting_form DefaultList = Some TruthForm
setting_form DefaultScript = Some TruthForm
setting_form DotenvCommand = Some ExpressionForm
setting_form DotenvFilename = Some ExpressionForm
setting_form DotenvLoad = Some TruthForm
setting_form DotenvOverride = Some TruthForm
setting_form DotenvPath = Some ExpressionForm
setting_form DotenvRequired = Some TruthForm
setting_form Eager = None
setting_form Else = None
setting_form Export = Some TruthForm
setting_form F = None
setting_form Fallback = Some TruthForm
setting_form False = None
setting_form Guards = Some TruthForm
setting_form If = None
setting_form IgnoreComments = Some TruthForm
setting_form Import = None
setting_form Indentation = Some PlainForm
setting_form Lazy = Some TruthForm
setting_form Lists = Some TruthForm
setting_form MinimumVersion = Some PlainForm
setting_form Mod = None
setting_form NoCd = Some TruthForm
setting_form NoExitMessage = Some TruthForm
setting_form PositionalArguments = Some TruthForm
setting_form Quiet = Some TruthForm
setting_form ScriptInterpreter = Some InterpreterForm
setting_form Set = None
setting_form Shell = Some InterpreterForm
setting_form Tempdir = Some ExpressionForm
setting_form True = None
setting_form Unexport = None
setting_form Unstable = Some TruthForm
setting_form WindowsPowershell = Some TruthForm
setting_form WindowsShell = Some InterpreterForm
setting_form WorkingDirectory = Some ExpressionForm
setting_form X = None
