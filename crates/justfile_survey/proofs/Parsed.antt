-- What parsing a part of a text does.
use Rattle.std.proofs.Common.{◌≡◌, ◌≤◌, ℕ, ◌-◌, List, length, Option, Some, None, Result, Ok, Err, subst, arith}
use Rattle.std.specs.Prelude.{IfOk}
use Rattle.justfile_ast.specs.declared.ast.Ast.{Ast}
use Rattle.justfile_canonical.specs.Root.{IsRoot}
use Rattle.justfile_recovery.specs.Places.{LiesIn}
use Rattle.justfile_chunks.specs.Spans.{text_from_feed}
use Rattle.justfile_chunks.specs.declared.span.Span.{Span}
use Rattle.justfile_survey.specs.Parts.{AddsFile, AddsPart, Parses}
use Rattle.justfile_survey.specs.Surveys.{IsRejectionIn}
use Rattle.justfile_survey.specs.declared.errors.Rejection.{Rejection}
use Rattle.justfile_survey.specs.declared.surveys.SurveyedItem.{SurveyedItem}

module _ (path text : List ℕ) (new old : List SurveyedItem) where
  -- the items of a file
  of_its_file : (part : Span) (ast : Ast) (r : Option Rejection) → LiesIn (length text) part → IsRoot path (text_from_feed text part) ast → AddsFile (length text) (part.start - 1) new old ast r
      → Parses path text part new old r
  of_its_file part ast None inside root adds = AddsPart.file part ast (omega arith) (omega arith) (record { inside = inside; root = root }) adds
  of_its_file part ast (Some rejection) inside root adds = absurd adds

  pub of_file : {E : Type 0} (part : Span) (base : ℕ) (parsed : List ℕ) (ast : Ast) (r : Result (Option Rejection) E) → LiesIn (length text) part → base ≡ part.start - 1
      → parsed ≡ text_from_feed text part → IsRoot path parsed ast → IfOk r (AddsFile (length text) base new old ast) → IfOk r (Parses path text part new old)
  of_file part base parsed ast (Ok r) inside from is root adds =
      of_its_file part ast r inside (subst (λ src. IsRoot path src ast) is root) (subst (λ b. AddsFile (length text) b new old ast r) from adds)
  of_file part base parsed ast (Err e) inside from is root adds = tt

  -- none, and why
  of_its_rejection : (part : Span) (r : Option Rejection) → new ≡ old → IsRejectionIn (length text) r → Parses path text part new old r
  of_its_rejection part None same inside = AddsPart.none same
  of_its_rejection part (Some rejection) same inside = (same, inside)

  pub of_rejection : {E : Type 0} (part : Span) (r : Result (Option Rejection) E) → new ≡ old → IfOk r (IsRejectionIn (length text)) → IfOk r (Parses path text part new old)
  of_rejection part (Ok r) same inside = of_its_rejection part r same inside
  of_rejection part (Err e) same inside = tt

  -- those of what lies in a part
  in_part : (part lines : Span) → part.start ≤ lines.start → lines.end ≤ part.end → AddsPart path text lines new old → AddsPart path text part new old
  in_part part lines from to (AddsPart.none same) = AddsPart.none same
  in_part part lines from to (AddsPart.file inner ast first last is adds) = AddsPart.file inner ast (omega (arith, from, first)) (omega (arith, to, last)) is adds

  within_it : (part lines : Span) (r : Option Rejection) → part.start ≤ lines.start → lines.end ≤ part.end → Parses path text lines new old r → Parses path text part new old r
  within_it part lines None from to parses = in_part part lines from to parses
  within_it part lines (Some rejection) from to parses = parses

  pub within : {E : Type 0} (part lines : Span) (r : Result (Option Rejection) E) → part.start ≤ lines.start → lines.end ≤ part.end → IfOk r (Parses path text lines new old)
      → IfOk r (Parses path text part new old)
  within part lines (Ok r) from to parses = within_it part lines r from to parses
  within part lines (Err e) from to parses = tt
