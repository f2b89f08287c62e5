-- The table of keywords contains each keyword.
use Rattle.std.proofs.Common.{◌≡◌, ℕ, ◌<◌, Option, Some, None, MatchOption, arith, length}
use Rattle.std.specs.List.{AllWithin, HoldsAt}
use Rattle.justfile_vocabulary.specs.declared.keyword.TheConstants.{KEYWORDS}
use Rattle.justfile_vocabulary.specs.declared.keyword.Keyword.{Keyword}
use Rattle.justfile_vocabulary.specs.declared.keyword.Keyword.TheVariants.{Alias, AllowDuplicateRecipes, AllowDuplicateVariables, Assert, DefaultList, DefaultScript, DotenvCommand, DotenvFilename, DotenvLoad, DotenvOverride, DotenvPath, DotenvRequired, Eager, Else, Export, F, Fallback, False, Guards, If, IgnoreComments, Import, Indentation, Lazy, Lists, MinimumVersion, Mod, NoCd, NoExitMessage, PositionalArguments, Quiet, ScriptInterpreter, Set, Shell, Tempdir, True, Unexport, Unstable, WindowsPowershell, WindowsShell, WorkingDirectory, X}

-- what holds for each entry of the table holds for each keyword
of_each : (P : Keyword → Type 0) → AllWithin P KEYWORDS 0 42 → (k : Keyword) → P k
of_each P all Alias = all 0 Alias (omega arith) (omega arith)
of_each P all AllowDuplicateRecipes = all 1 AllowDuplicateRecipes (omega arith) (omega arith)
of_each P all AllowDuplicateVariables = all 2 AllowDuplicateVariables (omega arith) (omega arith)
of_each P all Assert = all 3 Assert (omega arith) (omega arith)
of_each P all DefaultList = all 4 DefaultList (omega arith) (omega arith)
of_each P all DefaultScript = all 5 DefaultScript (omega arith) (omega arith)
of_each P all DotenvCommand = all 6 DotenvCommand (omega arith) (omega arith)
of_each P all DotenvFilename = all 7 DotenvFilename (omega arith) (omega arith)
of_each P all DotenvLoad = all 8 DotenvLoad (omega arith) (omega arith)
of_each P all DotenvOverride = all 9 DotenvOverride (omega arith) (omega arith)
of_each P all DotenvPath = all 10 DotenvPath (omega arith) (omega arith)
of_each P all DotenvRequired = all 11 DotenvRequired (omega arith) (omega arith)
of_each P all Eager = all 12 Eager (omega arith) (omega arith)
of_each P all Else = all 13 Else (omega arith) (omega arith)
of_each P all Export = all 14 Export (omega arith) (omega arith)
of_each P all F = all 15 F (omega arith) (omega arith)
of_each P all Fallback = all 16 Fallback (omega arith) (omega arith)
of_each P all False = all 17 False (omega arith) (omega arith)
of_each P all Guards = all 18 Guards (omega arith) (omega arith)
of_each P all If = all 19 If (omega arith) (omega arith)
of_each P all IgnoreComments = all 20 IgnoreComments (omega arith) (omega arith)
of_each P all Import = all 21 Import (omega arith) (omega arith)
of_each P all Indentation = all 22 Indentation (omega arith) (omega arith)
of_each P all Lazy = all 23 Lazy (omega arith) (omega arith)
of_each P all Lists = all 24 Lists (omega arith) (omega arith)
of_each P all MinimumVersion = all 25 MinimumVersion (omega arith) (omega arith)
of_each P all Mod = all 26 Mod (omega arith) (omega arith)
of_each P all NoCd = all 27 NoCd (omega arith) (omega arith)
of_each P all NoExitMessage = all 28 NoExitMessage (omega arith) (omega arith)
of_each P all PositionalArguments = all 29 PositionalArguments (omega arith) (omega arith)
of_each P all Quiet = all 30 Quiet (omega arith) (omega arith)
of_each P all ScriptInterpreter = all 31 ScriptInterpreter (omega arith) (omega arith)
of_each P all Set = all 32 Set (omega arith) (omega arith)
of_each P all Shell = all 33 Shell (omega arith) (omega arith)
of_each P all Tempdir = all 34 Tempdir (omega arith) (omega arith)
of_each P all True = all 35 True (omega arith) (omega arith)
of_each P all Unexport = all 36 Unexport (omega arith) (omega arith)
of_each P all Unstable = all 37 Unstable (omega arith) (omega arith)
of_each P all WindowsPowershell = all 38 WindowsPowershell (omega arith) (omega arith)
of_each P all WindowsShell = all 39 WindowsShell (omega arith) (omega arith)
of_each P all WorkingDirectory = all 40 WorkingDirectory (omega arith) (omega arith)
of_each P all X = all 41 X (omega arith) (omega arith)

-- a search of the table finds the keyword, or no keyword passes
pub either_way : (found : Option Keyword) (is : Keyword → Type 0)
    → MatchOption found (AllWithin (λ k. ¬ is k) KEYWORDS 0 (length KEYWORDS)) (λ x. is x × (i : ℕ) × (i < length KEYWORDS) × HoldsAt (λ y. y ≡ x) KEYWORDS i × AllWithin (λ k. ¬ is k) KEYWORDS 0 i)
    → MatchOption found ((k : Keyword) → ¬ is k) is
either_way None is h = of_each (λ k. ¬ is k) h
either_way (Some x) is h = h.0
