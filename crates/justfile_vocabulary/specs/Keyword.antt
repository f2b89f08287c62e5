-- The spelling of keywords.
use Rattle.std.specs.Prelude.{ℕ, Bool, true, false, List, [], ◌∷◌, codes, Option}
use Rattle.std.specs.List.{find}
use Rattle.std.specs.Str.{bytes_eq}
use Rattle.justfile_vocabulary.specs.declared.keyword.Keyword.{Keyword}
use Rattle.justfile_vocabulary.specs.declared.keyword.Keyword.TheVariants.{Alias, AllowDuplicateRecipes, AllowDuplicateVariables, Assert, DefaultList, DefaultScript, DotenvCommand, DotenvFilename, DotenvLoad, DotenvOverride, DotenvPath, DotenvRequired, Eager, Else, Export, F, Fallback, False, Guards, If, IgnoreComments, Import, Indentation, Lazy, Lists, MinimumVersion, Mod, NoCd, NoExitMessage, PositionalArguments, Quiet, ScriptInterpreter, Set, Shell, Tempdir, True, Unexport, Unstable, WindowsPowershell, WindowsShell, WorkingDirectory, X}

abbrev pub keyword_text : Keyword → List ℕ
keyword_text Alias = codes "alias"
keyword_text AllowDuplicateRecipes = codes "allow-duplicate-recipes"
keyword_text AllowDuplicateVariables = codes "allow-duplicate-variables"
keyword_text Assert = codes "assert"
keyword_text DefaultList = codes "default-list"
keyword_text DefaultScript = codes "default-script"
keyword_text DotenvCommand = codes "dotenv-command"
keyword_text DotenvFilename = codes "dotenv-filename"
keyword_text DotenvLoad = codes "dotenv-load"
keyword_text DotenvOverride = codes "dotenv-override"
keyword_text DotenvPath = codes "dotenv-path"
keyword_text DotenvRequired = codes "dotenv-required"
keyword_text Eager = codes "eager"
keyword_text Else = codes "else"
keyword_text Export = codes "export"
keyword_text F = codes "f"
keyword_text Fallback = codes "fallback"
keyword_text False = codes "false"
keyword_text Guards = codes "guards"
keyword_text If = codes "if"
keyword_text IgnoreComments = codes "ignore-comments"
keyword_text Import = codes "import"
keyword_text Indentation = codes "indentation"
keyword_text Lazy = codes "lazy"
keyword_text Lists = codes "lists"
keyword_text MinimumVersion = codes "minimum-version"
keyword_text Mod = codes "mod"
keyword_text NoCd = codes "no-cd"
keyword_text NoExitMessage = codes "no-exit-message"
keyword_text PositionalArguments = codes "positional-arguments"
keyword_text Quiet = codes "quiet"
keyword_text ScriptInterpreter = codes "script-interpreter"
keyword_text Set = codes "set"
keyword_text Shell = codes "shell"
keyword_text Tempdir = codes "tempdir"
keyword_text True = codes "true"
keyword_text Unexport = codes "unexport"
keyword_text Unstable = codes "unstable"
keyword_text WindowsPowershell = codes "windows-powershell"
keyword_text WindowsShell = codes "windows-shell"
keyword_text WorkingDirectory = codes "working-directory"
keyword_text X = codes "x"

-- all keywords, in declaration order
abbrev pub keywords : List Keyword
keywords = Alias ∷ AllowDuplicateRecipes ∷ AllowDuplicateVariables ∷ Assert ∷ DefaultList ∷ DefaultScript ∷ DotenvCommand ∷ DotenvFilename ∷ DotenvLoad ∷ DotenvOverride ∷ DotenvPath ∷ DotenvRequired ∷ Eager ∷ Else ∷ Export ∷ F ∷ Fallback ∷ False ∷ Guards ∷ If ∷ IgnoreComments ∷ Import ∷ Indentation ∷ Lazy ∷ Lists ∷ MinimumVersion ∷ Mod ∷ NoCd ∷ NoExitMessage ∷ PositionalArguments ∷ Quiet ∷ ScriptInterpreter ∷ Set ∷ Shell ∷ Tempdir ∷ True ∷ Unexport ∷ Unstable ∷ WindowsPowershell ∷ WindowsShell ∷ WorkingDirectory ∷ X ∷ []

-- the keyword with this spelling
unfoldable pub keyword_named : List ℕ → Option Keyword
keyword_named text = find (λ keyword. bytes_eq (keyword_text keyword) text) keywords

-- the parser takes the keyword as the name of a setting
abbrev pub is_setting_name : Keyword → Bool
is_setting_name AllowDuplicateRecipes = true
is_setting_name AllowDuplicateVariables = true
is_setting_name DefaultList = true
is_setting_name DefaultScript = true
is_setting_name DotenvCommand = true
is_setting_name DotenvFilename = true
is_setting_name DotenvLoad = true
is_setting_name DotenvOverride = true
is_setting_name DotenvPath = true
is_setting_name DotenvRequired = true
is_setting_name Export = true
is_setting_name Fallback = true
is_setting_name Guards = true
is_setting_name IgnoreComments = true
is_setting_name Indentation = true
is_setting_name Lazy = true
is_setting_name Lists = true
is_setting_name MinimumVersion = true
is_setting_name NoCd = true
is_setting_name NoExitMessage = true
is_setting_name PositionalArguments = true
is_setting_name Quiet = true
is_setting_name ScriptInterpreter = true
is_setting_name Shell = true
is_setting_name Tempdir = true
is_setting_name Unstable = true
is_setting_name WindowsPowershell = true
is_setting_name WindowsShell = true
is_setting_name WorkingDirectory = true
is_setting_name _ = false
