-- What is found in the parts of a text.
use Rattle.std.specs.Prelude.{◌≡◌, ◌≤◌, ◌<◌, ℕ, ◌-◌, List, [], ◌∷◌, ◌++◌, map, length, All, Option, None, Some}
use Rattle.justfile_ast.specs.declared.ast.Ast.{Ast}
use Rattle.justfile_canonical.specs.Root.{IsRoot}
use Rattle.justfile_recovery.specs.Places.{LiesIn}
use Rattle.justfile_chunks.specs.Spans.{text_from_feed}
use Rattle.justfile_chunks.specs.declared.span.Span.{Span}
use Rattle.justfile_survey.specs.Items.{file_seen}
use Rattle.justfile_survey.specs.Seen.{Adds, PlacesIn, Seen, seen}
use Rattle.justfile_survey.specs.declared.errors.Rejection.{Rejection}
use Rattle.justfile_survey.specs.declared.recovery.Found.{Found}
use Rattle.justfile_survey.specs.declared.surveys.Survey.{Survey}
use Rattle.justfile_survey.specs.declared.surveys.SurveyedError.{SurveyedError}
use Rattle.justfile_survey.specs.declared.surveys.SurveyedItem.{SurveyedItem}

-- The part lies in the text. By itself, from the byte before it on, it is a justfile, with this file.
pub record IsFileOfPart (path text : List ℕ) (part : Span) (ast : Ast) : Type 0 where
  pub inside : LiesIn (length text) part
  pub root : IsRoot path (text_from_feed text part) ast

-- what is shown of the file of a part, whose offsets count from the byte before the part
abbrev pub seen_in : (text : List ℕ) → Span → Ast → List Seen
seen_in text part ast = file_seen (length text) (part.start - 1) ast

-- This is shown of the items of parts of the text that are justfiles by themselves. No part begins before the end of the one before it, and
-- the last one ends at this offset or before it.
pub data AreOfParts (path text : List ℕ) : (end : ℕ) → List Seen → Type 0 where
  none : {end : ℕ} → AreOfParts path text end []
  more : {before end : ℕ} {views : List Seen} → AreOfParts path text before views → (part : Span) (ast : Ast) → before ≤ part.start → part.end ≤ end
      → IsFileOfPart path text part ast → AreOfParts path text end (views ++ seen_in text part ast)

-- the errors lie in a text of this length, and are at most this many
pub record ErrorsIn (length_of_text most : ℕ) (errors : List SurveyedError) : Type 0 where
  pub places : All (λ (e : SurveyedError). LiesIn length_of_text e.span) errors
  pub few : length errors ≤ most

-- what is found in the parts of the text before an offset
pub record IsFoundBefore (path text : List ℕ) (end : ℕ) (found : Found) : Type 0 where
  pub within : end ≤ length text
  pub of_parts : AreOfParts path text end (map seen found.items.items)
  pub places : All (PlacesIn (length text)) found.items.items
  pub errors : ErrorsIn (length text) 99 found.errors.items

-- the items of the file of what lies in a part were appended, or none
pub data AddsPart (path text : List ℕ) (part : Span) (new old : List SurveyedItem) : Type 0 where
  none : new ≡ old → AddsPart path text part new old
  file : (lines : Span) (ast : Ast) → part.start ≤ lines.start → lines.end ≤ part.end → IsFileOfPart path text lines ast
      → Adds (length text) new old (seen_in text lines ast) → AddsPart path text part new old

-- what parsing a part does: its items are appended, or it is rejected for an error in the text
abbrev pub Parses : (path text : List ℕ) → Span → (new old : List SurveyedItem) → Option Rejection → Type 0
Parses path text part new old None = AddsPart path text part new old
Parses path text part new old (Some rejection) = (new ≡ old) × LiesIn (length text) rejection.error.span

-- a file's items were appended, and there is no rejection
abbrev pub AddsFile : (length base : ℕ) (new old : List SurveyedItem) → Ast → Option Rejection → Type 0
AddsFile length base new old ast None = Adds length new old (file_seen length base ast)
AddsFile length base new old ast (Some rejection) = ⊥

-- where to go on after a part: past its end, with what was found up to there; or nowhere, with what was found before it
abbrev pub GoesOn : (path text : List ℕ) → Span → Found → Option ℕ → Type 0
GoesOn path text part found None = IsFoundBefore path text part.start found
GoesOn path text part found (Some next) = IsFoundBefore path text next found × (part.end < next)

-- the survey has this error first, and what is found in the parts of the text
pub record BeginsWith (path text : List ℕ) (first : SurveyedError) (s : Survey) : Type 0 where
  pub others : List SurveyedError
  pub is : s.errors.items ≡ first ∷ others
  pub of_parts : AreOfParts path text (length text) (map seen s.items.items)
  pub places : All (PlacesIn (length text)) s.items.items
  pub errors : ErrorsIn (length text) 100 s.errors.items
