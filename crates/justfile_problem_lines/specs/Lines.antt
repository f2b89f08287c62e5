-- The lines that tell problems.
use Rattle.std.specs.Prelude.{◌≡◌, ℕ, List, ◌++◌, Option, None, codes}
use Rattle.std.specs.List.{AllZip, flat_map}
use Rattle.justfile_message.specs.Columns.{line_at}
use Rattle.justfile_token.specs.Excerpt.{excerpt_on}
use Rattle.justfile_token.specs.Messages.{message_text}
use Rattle.justfile_token.specs.declared.compile_error.CompileError.{CompileError}
use Rattle.justfile_token.specs.declared.name.Name.{Name}
use Rattle.justfile_problems.specs.Errors.{IsErrorWithin}
use Rattle.justfile_problems.specs.Circular.{IsErrorOfCircle}
use Rattle.justfile_problems.specs.declared.circular.Circle.{Circle}
use Rattle.justfile_problems.specs.declared.problem.Problem.{Problem}

-- the message of an error, and the excerpt of its token over a line
abbrev pub error_on : CompileError → (line : List ℕ) → List ℕ
error_on e line = codes "error: " ++ message_text e ++ codes "\n" ++ excerpt_on e.token line ++ codes "\n"

-- the same over the line of a text that has the number of the token's
abbrev pub error_text : (source : List ℕ) → CompileError → List ℕ
error_text source e = error_on e (line_at source e.token.line)

-- the lines are those of the errors of some things in a text, one after the other
pub record TellErrors (source : List ℕ) {X : Type 0} (IsErrorOfOne : X → CompileError → Type 0) (these : List X) (lines : List ℕ) : Type 0 where
  pub errors : List CompileError
  pub each : AllZip IsErrorOfOne these errors
  pub are : lines ≡ flat_map (error_text source) errors

-- those of the error of one of them were appended
pub record AddsLines (source : List ℕ) {X : Type 0} (IsErrorOfOne : X → CompileError → Type 0) (one : X) (old new : List ℕ) : Type 0 where
  pub error : CompileError
  pub is : IsErrorOfOne one error
  pub added : new ≡ old ++ error_text source error

-- problems with names that have the name of a module before them, or none
abbrev pub TellProblemsWithin : (owner : Option Name) (source : List ℕ) → List Problem → (lines : List ℕ) → Type 0
TellProblemsWithin owner source = TellErrors source (IsErrorWithin owner)

abbrev pub TellProblems : (source : List ℕ) → List Problem → (lines : List ℕ) → Type 0
TellProblems = TellProblemsWithin None

abbrev pub TellCircles : (source : List ℕ) → List Circle → (lines : List ℕ) → Type 0
TellCircles source = TellErrors source IsErrorOfCircle

-- the lines tell problems in a text, and then circles
pub record TellAll (source : List ℕ) (problems : List Problem) (circles : List Circle) (lines : List ℕ) : Type 0 where
  pub of_problems : List ℕ
  pub of_circles : List ℕ
  pub problems_told : TellProblems source problems of_problems
  pub circles_told : TellCircles source circles of_circles
  pub are : lines ≡ of_problems ++ of_circles
