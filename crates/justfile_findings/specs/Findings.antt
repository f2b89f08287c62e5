-- What an editor is told of problems and of circles.
use Rattle.std.specs.Prelude.{◌≡◌, ◌++◌, ℕ, List, Option, None, drop, option_map, string_bytes, take, IsPermutation}
use Rattle.std.specs.List.{AllZip}
use Rattle.std.specs.List.Sorted.{IsNonDecreasingBy}
use Rattle.justfile_token.specs.Messages.{message_text}
use Rattle.justfile_token.specs.declared.compile_error.CompileError.{CompileError}
use Rattle.justfile_problems.specs.Circular.{IsErrorOfCircle}
use Rattle.justfile_problems.specs.Errors.{IsErrorOf}
use Rattle.justfile_problems.specs.declared.circular.Circle.{Circle}
use Rattle.justfile_problems.specs.declared.facts.Definition.{Definition}
use Rattle.justfile_problems.specs.declared.facts.Use.{Use}
use Rattle.justfile_problems.specs.declared.problem.Problem.{Problem}
use Rattle.editor_language.specs.declared.parts.Finding.{Finding}
use Rattle.justfile_findings.specs.Codes.{circle_code, code_of, next_of, other_of, placed, span_of}
use Rattle.justfile_findings.specs.Suggestions.{question, suggestion}

-- A problem is told at its token, with the message of the error that it is, and at its end the name that may be meant, if there is one.
pub record Tells (name : Option (List ℕ)) (p : Problem) (f : Finding) : Type 0 where
  pub error : CompileError
  pub is_error : IsErrorOf p error
  pub message : string_bytes f.message ≡ message_text error ++ question name
  pub span : f.span ≡ span_of p.token
  pub code : f.code.now ≡ code_of p.what
  pub other : option_map placed f.other ≡ other_of p.what

-- for how many problems a name is looked for that may be meant
abbrev pub most_suggested : ℕ
most_suggested = 16

-- with that name, and without one
abbrev pub Suggests : List Definition → List Use → Problem → Finding → Type 0
Suggests ds us p f = Tells (suggestion ds us p) p f

abbrev pub Reports : Problem → Finding → Type 0
Reports p f = Tells None p f

-- Each problem is told, in their order; only for the first ones a name is looked for that may be meant.
pub record AreOfProblems (ds : List Definition) (us : List Use) (problems : List Problem) (found : List Finding) : Type 0 where
  pub first : List Finding
  pub others : List Finding
  pub are : found ≡ first ++ others
  pub are_first : AllZip (Suggests ds us) (take most_suggested problems) first
  pub are_others : AllZip Reports (drop most_suggested problems) others

-- A circle is told where its error is, with the error's message.
pub record TellsCircle (c : Circle) (f : Finding) : Type 0 where
  pub error : CompileError
  pub is_error : IsErrorOfCircle c error
  pub message : string_bytes f.message ≡ message_text error
  pub span : f.span ≡ span_of error.token
  pub code : f.code.now ≡ circle_code c.first.role
  pub other : option_map placed f.other ≡ next_of c

-- Exactly the problems and the circles are told, in the order of the text.
pub record AreFindings (ds : List Definition) (us : List Use) (problems : List Problem) (circles : List Circle) (found : List Finding) : Type 0 where
  pub of_problems : List Finding
  pub of_circles : List Finding
  pub problems_told : AreOfProblems ds us problems of_problems
  pub circles_told : AllZip TellsCircle circles of_circles
  pub all : IsPermutation (of_problems ++ of_circles) found
  pub in_order : IsNonDecreasingBy (λ (f : Finding). f.span.start) found
