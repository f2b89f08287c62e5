-- The survey of a text.
use Rattle.std.specs.Prelude.{◌≡◌, ℕ, ◌+◌, List, [], ◌∷◌, map, length, All, Option, IfSome, string_bytes, codes}
use Rattle.justfile_token.specs.Messages.{message_text}
use Rattle.justfile_token.specs.declared.fault.Fault.{Fault}
use Rattle.justfile_token.specs.declared.fault.Fault.TheVariants.{Compile, Memory, Numbers}
use Rattle.justfile_ast.specs.declared.ast.Ast.{Ast}
use Rattle.justfile_canonical.specs.Root.{HasNoRoot, IsRoot}
use Rattle.justfile_recovery.specs.Places.{LiesIn}
use Rattle.justfile_chunks.specs.Spans.{span}
use Rattle.justfile_survey.specs.Items.{file_seen}
use Rattle.justfile_survey.specs.Parts.{AreOfParts, ErrorsIn}
use Rattle.justfile_survey.specs.Seen.{PlacesIn, Seen, seen}
use Rattle.justfile_survey.specs.declared.errors.Rejection.{Rejection}
use Rattle.justfile_survey.specs.declared.surveys.Survey.{Survey}
use Rattle.justfile_survey.specs.declared.surveys.SurveyedError.{SurveyedError}
use Rattle.justfile_survey.specs.declared.surveys.SurveyedItem.{SurveyedItem}
use Rattle.justfile_survey.specs.declared.whole.Whole.{Whole}
use Rattle.justfile_survey.specs.declared.whole.Whole.TheVariants as wholes

-- the text is a justfile, and this is what is shown of its items
pub record Shows (path text : List ℕ) (views : List Seen) : Type 0 where
  pub ast : Ast
  pub root : IsRoot path text ast
  pub views_are : views ≡ file_seen (length text) 0 ast

-- the error is at these offsets, at this line and column, with this message
pub record Says (e : SurveyedError) (start end line column : ℕ) (message : List ℕ) : Type 0 where
  pub span_is : e.span ≡ span start end
  pub line_is : e.line ≡ line
  pub column_is : e.column ≡ column
  pub message_is : string_bytes e.message ≡ message

-- the surveyed error is that of a fault: it is at the token of an error, with its message
abbrev pub IsOfFault : Fault → SurveyedError → Type 0
IsOfFault (Compile e) s = Says s e.token.offset (e.token.offset + e.token.length) e.token.line e.token.column (message_text e)
IsOfFault Memory s = ⊥
IsOfFault Numbers s = Says s 0 0 0 0 (codes "out of numbers")

-- the text is no justfile, and the surveyed error tells why
pub record TellsWhy (path text : List ℕ) (s : SurveyedError) : Type 0 where
  pub fault : Fault
  pub no_root : HasNoRoot path text fault
  pub is : IsOfFault fault s

-- the items of a file of a text of this length
abbrev pub IsJustfile : (length : ℕ) → Ast → Whole → Type 0
IsJustfile length ast (wholes.Justfile items) = (map seen items.items ≡ file_seen length 0 ast) × All (PlacesIn length) items.items
IsJustfile length ast (wholes.Rejected error) = ⊥

-- the error for a fault
abbrev pub IsRejected : Fault → Whole → Type 0
IsRejected fault (wholes.Justfile items) = ⊥
IsRejected fault (wholes.Rejected error) = IsOfFault fault error

-- the rejection of a part of a text of this length is in it
abbrev pub IsRejectionIn : (length : ℕ) → Option Rejection → Type 0
IsRejectionIn length rejection = IfSome rejection (λ r. LiesIn length r.error.span)

-- what a text is as a whole
abbrev pub IsWhole : (path text : List ℕ) → Whole → Type 0
IsWhole path text (wholes.Justfile items) = Shows path text (map seen items.items) × All (PlacesIn (length text)) items.items
IsWhole path text (wholes.Rejected error) = TellsWhy path text error × LiesIn (length text) error.span

-- Without errors the text is a justfile, and the survey shows its items. Otherwise it is none, the first error tells why, and the survey
-- shows the items of parts of the text.
abbrev pub IsFound : (path text : List ℕ) → List SurveyedItem → List SurveyedError → Type 0
IsFound path text items [] = Shows path text (map seen items)
IsFound path text items (first ∷ others) = TellsWhy path text first × AreOfParts path text (length text) (map seen items)

-- The survey of a text: what it found. All its places lie in the text, and it has at most 100 errors.
pub record IsSurvey (path text : List ℕ) (s : Survey) : Type 0 where
  pub found : IsFound path text s.items.items s.errors.items
  pub items_in : All (PlacesIn (length text)) s.items.items
  pub errors_in : ErrorsIn (length text) 100 s.errors.items
