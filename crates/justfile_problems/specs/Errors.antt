-- The errors that problems are.
use Rattle.std.specs.Prelude.{◌≡◌, ℕ, List, [], ◌∷◌, Option, None, Some, unwrap_or}
use Rattle.std.specs.declared.ops.RangeInclusive.{RangeInclusive}
use Rattle.std.specs.Range.{range_inclusive_start, range_inclusive_end}
use denote.Ref.{Bor}
use Rattle.justfile_token.specs.Name.{name_text}
use Rattle.justfile_token.specs.Namepath.{names_in}
use Rattle.justfile_token.specs.declared.compile_error.CompileError.{CompileError}
use Rattle.justfile_token.specs.declared.compile_error_kind.CompileErrorKind.{CompileErrorKind}
use Rattle.justfile_token.specs.declared.compile_error_kind.CompileErrorKind.TheVariants as kinds
use Rattle.justfile_token.specs.declared.name.Name.{Name}
use Rattle.justfile_token.specs.declared.namepath.Namepath.{Namepath}
use Rattle.justfile_token.specs.Token.{lexeme_of}
use Rattle.justfile_token.specs.declared.token.Token.{Token}
use Rattle.justfile_problems.specs.declared.problem.Problem.{Problem}
use Rattle.justfile_problems.specs.declared.problem.What.{What}
use Rattle.justfile_problems.specs.declared.problem.What.TheVariants as whats

-- the greatest number, where there is no limit
abbrev pub most_of : Option ℕ → ℕ
most_of most = unwrap_or most 18446744073709551615

-- a kind that names a text
pub record Names (make : Bor (List ℕ) → CompileErrorKind) (text : List ℕ) (kind : CompileErrorKind) : Type 0 where
  pub said : Bor (List ℕ)
  pub is : kind ≡ make said
  pub has : said.now ≡ text

-- a kind that names two texts
pub record Pairs (make : (first second : Bor (List ℕ)) → CompileErrorKind) (first second : List ℕ) (kind : CompileErrorKind) : Type 0 where
  pub said : Bor (List ℕ)
  pub other : Bor (List ℕ)
  pub is : kind ≡ make said other
  pub has_first : said.now ≡ first
  pub has_second : other.now ≡ second

-- the path of a name of a module, or of a name alone
abbrev pub path_to : (owner : Option Name) → Name → List Name
path_to None name = name ∷ []
path_to (Some owner) name = owner ∷ name ∷ []

-- a kind that names the path of a name
pub record Leads (owner : Option Name) (make : Namepath → CompileErrorKind) (name : Name) (kind : CompileErrorKind) : Type 0 where
  pub path : Namepath
  pub is : kind ≡ make path
  pub has : names_in path ≡ path_to owner name

-- a kind that names both
pub record Both (owner : Option Name) (make : Bor (List ℕ) → Namepath → CompileErrorKind) (text : List ℕ) (name : Name) (kind : CompileErrorKind) : Type 0 where
  pub said : Bor (List ℕ)
  pub path : Namepath
  pub is : kind ≡ make said path
  pub has_text : said.now ≡ text
  pub has_path : names_in path ≡ path_to owner name

-- a kind that says numbers of arguments
pub record Counts (found least most : ℕ) (text : List ℕ) (kind : CompileErrorKind) : Type 0 where
  pub said : Bor (List ℕ)
  pub range : RangeInclusive ℕ
  pub is : kind ≡ kinds.FunctionArgumentCountMismatch found range said
  pub start : range_inclusive_start range ≡ least
  pub end : range_inclusive_end range ≡ most
  pub has : said.now ≡ text

-- the kind says what is wrong at a token, with a name of a module or of none
abbrev pub Says : (owner : Option Name) → Token → What → CompileErrorKind → Type 0
Says m t (whats.DependencyCount name found takes) = Leads m (λ path. kinds.DependencyArgumentCountMismatch path found takes.least (most_of takes.most)) name
Says m t (whats.DuplicateDefault first) = Names kinds.DuplicateDefault (lexeme_of t)
Says m t (whats.DuplicateFunctionParameter function first) = Pairs kinds.DuplicateFunctionParameter (name_text function) (lexeme_of t)
Says m t (whats.DuplicateParameter recipe first) = Pairs kinds.DuplicateParameter (name_text recipe) (lexeme_of t)
Says m t (whats.DuplicateSet first) = Names (λ text. kinds.DuplicateSet text first.token.line) (lexeme_of t)
Says m t (whats.DuplicateUnexport first) = Names kinds.DuplicateUnexport (lexeme_of t)
Says m t (whats.DuplicateVariable first) = Names kinds.DuplicateVariable (lexeme_of t)
Says m t (whats.ExportUnexported first) = Names kinds.ExportUnexported (lexeme_of t)
Says m t whats.ExtraLeadingWhitespace = λ kind. kind ≡ kinds.ExtraLeadingWhitespace
Says m t (whats.FunctionCount found takes) = Counts found takes.least (most_of takes.most) (lexeme_of t)
Says m t whats.GuardAndInfallibleSigil = λ kind. kind ≡ kinds.GuardAndInfallibleSigil
Says m t (whats.IncompatibleSettings own other first) = λ kind. kind ≡ kinds.IncompatibleSettings other first.token.line own
Says m t (whats.InvalidShellRecipeAttribute attribute) = Names (λ text. kinds.InvalidShellRecipeAttribute attribute text) (lexeme_of t)
Says m t (whats.ListFeature feature) = λ kind. kind ≡ kinds.ListFeature feature
Says m t whats.MappedDependency = λ kind. kind ≡ kinds.MappedDependencyWithoutListsSetting
Says m t (whats.Redefinition kind first_kind first) = Names (λ text. kinds.Redefinition first.token.line first_kind text kind) (lexeme_of t)
Says m t (whats.RequiredParameter first) = Names kinds.RequiredParameterFollowsDefaultParameter (lexeme_of t)
Says m t whats.UndefinedFunction = Names kinds.UndefinedFunction (lexeme_of t)
Says m t whats.UndefinedVariable = Names kinds.UndefinedVariable (lexeme_of t)
Says m t (whats.UnknownAliasTarget target) = Both m kinds.UnknownAliasTarget (lexeme_of t) target
Says m t (whats.UnknownDependency item name) = Both m kinds.UnknownDependency (name_text item) name

-- the error of a problem with a name of a module, or of none
pub record IsErrorWithin (owner : Option Name) (p : Problem) (error : CompileError) : Type 0 where
  pub at : error.token ≡ p.token
  pub says : Says owner p.token p.what error.kind

-- the error of a problem
abbrev pub IsErrorOf : Problem → CompileError → Type 0
IsErrorOf = IsErrorWithin None
