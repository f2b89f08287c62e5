-- The problems of the parts of a text, where they are in the text.
use Rattle.std.specs.Prelude.{◌≡◌, ℕ, ◌-◌, false, List, [], ◌∷◌, ◌++◌, Option, None, Some, string_bytes}
use Rattle.text_parts.specs.declared.part.Part.{Part}
use Rattle.editor_language.specs.declared.parts.Known.{Known}
use Rattle.editor_language.specs.declared.parts.PartProblem.{PartProblem}
use Rattle.editor_language.specs.declared.parts.Problem.{Problem}
use Rattle.editor_language.specs.Items.{moved_offset, moved_span}

-- The problem of what was read from an offset on is told so in the text: where it is there, with its message, unless that names lines.
pub record IsToldAt (base : ℕ) (p : PartProblem) (told : Problem) : Type 0 where
  pub place : told.span ≡ moved_span base p.span
  pub message : p.names_lines ≡ false → string_bytes told.message ≡ string_bytes p.message

-- a problem of what was read from an offset on
pub record ProblemAt : Type 0 where
  pub base : ℕ
  pub problem : PartProblem

abbrev pub problem_at : (base : ℕ) → Option PartProblem → List ProblemAt
problem_at base None = []
problem_at base (Some p) = record { base = base; problem = p } ∷ []

-- the problems of parts, of which the first begins at an offset
abbrev pub problems_from : (start : ℕ) → List (Part Known) → List ProblemAt
problems_from start [] = []
problems_from start (p ∷ parts) = problem_at (start - 1) p.known.problem ++ problems_from (moved_offset start p.size) parts

-- these problems are told so, in their order
abbrev pub AreToldAs : List ProblemAt → List Problem → Type 0
AreToldAs [] [] = Unit {0}
AreToldAs (p ∷ ps) (told ∷ more) = IsToldAt p.base p.problem told × AreToldAs ps more
AreToldAs _ _ = ⊥

-- the problems of the parts of a text are told so
abbrev pub AreTold : List (Part Known) → List Problem → Type 0
AreTold parts told = AreToldAs (problems_from 0 parts) told
