-- What is answered about a text.
use Rattle.std.specs.Prelude.{◌≡◌, ℕ, List, [], None, Option, map}
use Rattle.std.specs.List.{filter_map}
use Rattle.justfile_lines.specs.Positions.{IsOffset}
use Rattle.justfile_lines.specs.declared.encoding.Encoding.{Encoding}
use Rattle.justfile_lines.specs.declared.position.Position.{Position}
use Rattle.editor_messages.specs.declared.answer.Answer.{Answer}
use Rattle.editor_messages.specs.declared.answer.Answer.TheVariants as answers
use Rattle.editor_messages.specs.declared.error_code.ErrorCode.{ErrorCode}
use Rattle.editor_messages.specs.declared.error_code.ErrorCode.TheVariants.{InvalidParams, RequestFailed}
use Rattle.editor_messages.specs.declared.message.Query.{Query}
use Rattle.editor_messages.specs.declared.message.Query.TheVariants as queries
use Rattle.editor_language.specs.Items.{OfItems}
use Rattle.editor_language.specs.declared.mention.Mention.{Mention}
use Rattle.editor_language.specs.declared.parts.Analysis.{Analysis}
use Rattle.editor_language.specs.declared.parts.Choices.{Choices}
use Rattle.editor_language.specs.declared.parts.FileLink.{FileLink}
use Rattle.editor_language.specs.declared.parts.Item.{Item}
use Rattle.editor_language.specs.declared.parts.QuickFix.{QuickFix}
use Rattle.editor_language.specs.declared.parts.Run.{Run}
use Rattle.editor_messages.specs.declared.answer.Signature.{Signature}
use Rattle.editor_answers.specs.Called.{Signs}
use Rattle.editor_answers.specs.Fixes.{FixesIn}
use Rattle.editor_answers.specs.Formatting.{Formats, FormatsRange}
use Rattle.editor_answers.specs.Links.{LinksIn}
use Rattle.editor_answers.specs.Names.{Bounds, Describes, IsDefinedAt, Lights, Locates, definitions_of, mentions_of}
use Rattle.editor_answers.specs.Ranges.{fold_of, range_of, shown, to_show}
use Rattle.editor_answers.specs.Renames.{Declines, Renames}
use Rattle.editor_answers.specs.Runs.{RunsIn}
use Rattle.editor_answers.specs.declared.failure.Failure.{Failure}
use Rattle.editor_answers.specs.declared.failure.Failure.TheVariants.{Memory, Refused}

-- the answer shows the items
abbrev pub ShowsItems : Encoding → (text : List ℕ) → List Item → Answer → Type 0
ShowsItems encoding text items (answers.Symbols symbols) = map shown symbols.items ≡ map (to_show encoding text) items
ShowsItems encoding text items other = ⊥

-- the answer shows the lines of the items that can be folded
abbrev pub ShowsFolds : Encoding → (text : List ℕ) → List Item → Answer → Type 0
ShowsFolds encoding text items (answers.Folds folds) = folds.items ≡ filter_map (λ (i : Item). fold_of encoding text i.span) items
ShowsFolds encoding text items other = ⊥

-- this holds of the mentions in a text
pub record Among (mentioned : List ℕ → Analysis → List Mention → Type 0) (text : List ℕ) (analysis : Analysis) (holds : List Mention → Type 0) : Type 0 where
  pub mentions : List Mention
  pub are_mentions : mentioned text analysis mentions
  pub is : holds mentions

-- the answer offers these texts, in the place of that part of the text
abbrev pub Offers : Encoding → (text : List ℕ) → Choices → Answer → Type 0
Offers encoding text choices (answers.Completions made) = (made.range ≡ range_of encoding text choices.span) × (made.is_incomplete ≡ choices.is_incomplete) × (made.found ≡ choices.found)
Offers encoding text choices other = ⊥

-- the answer offers what a language has for a position in a text with these mentions
pub record OffersAt (completed : List ℕ → List Mention → ℕ → Choices → Type 0) (encoding : Encoding) (text : List ℕ) (position : Position) (answer : Answer) (mentions : List Mention) : Type 0 where
  pub offset : ℕ
  pub is_offset : IsOffset encoding text position offset
  pub choices : Choices
  pub are_choices : completed text mentions offset choices
  pub is : Offers encoding text choices answer

-- the same by the mentions in the text
abbrev pub Completes : (mentioned : List ℕ → Analysis → List Mention → Type 0) (completed : List ℕ → List Mention → ℕ → Choices → Type 0) → Encoding → (text : List ℕ) → Analysis → Position → Answer → Type 0
Completes mentioned completed encoding text analysis position answer = Among mentioned text analysis (OffersAt completed encoding text position answer)

-- the answer tells of the name at a position, or of the word there, by the mentions in the text
abbrev pub Hovers : (mentioned : List ℕ → Analysis → List Mention → Type 0) (completed : List ℕ → List Mention → ℕ → Choices → Type 0) → Encoding → (text : List ℕ) → Analysis → Position → Answer → Type 0
Hovers mentioned completed encoding text analysis position answer = Among mentioned text analysis (λ mentions. Describes encoding text mentions position completed answer)

module _ (knows : List ℕ → Analysis → Type 0) (mentioned : List ℕ → Analysis → List Mention → Type 0) where
  -- what is told about the name at a position, by these mentions in a text
  abbrev pub IsAbout : Encoding → (uri text : List ℕ) → Query → (mentions : List Mention) → Answer → Type 0
  IsAbout encoding uri text (queries.Definition position) mentions answer = Locates encoding text mentions position uri (definitions_of mentions) answer
  IsAbout encoding uri text (queries.References position all) mentions answer = Locates encoding text mentions position uri (mentions_of all mentions) answer
  IsAbout encoding uri text (queries.PrepareRename position) mentions answer = Bounds encoding text mentions position answer
  IsAbout encoding uri text (queries.Rename position new) mentions answer = Renames knows mentioned encoding uri text mentions position new.now answer
  IsAbout encoding uri text (queries.Highlights position) mentions answer = Lights encoding text mentions position answer
  IsAbout encoding uri text other mentions answer = Unit {0}

  -- a name is to be replaced, and none that is defined is mentioned at the position, or it can't be replaced
  abbrev pub LacksName : Encoding → (text : List ℕ) → Query → (mentions : List Mention) → ErrorCode → Type 0
  LacksName encoding text (queries.PrepareRename position) mentions code = (code ≡ RequestFailed) × IsDefinedAt encoding text mentions position None
  LacksName encoding text (queries.Rename position new) mentions code = (code ≡ RequestFailed) × Declines knows mentioned encoding text mentions position new.now
  LacksName encoding text other mentions code = ⊥

-- The new name is a name, nothing is wrong in the text, and the name is replaced.
pub record Replaces (names : List ℕ → Type 0) (analysis : Analysis) (new : List ℕ) (renames : Type 0) : Type 0 where
  pub is_name : names new
  pub right : analysis.problems.items ≡ []
  pub is : renames

-- a new name is refused for this reason: it is no name, something is wrong in the text, or the name can't be replaced
pub data RefusesName (names : List ℕ → Type 0) (analysis : Analysis) (new : List ℕ) (lacks_name : Type 0) (code : ErrorCode) : Type 0 where
  no_name : code ≡ InvalidParams → (names new → ⊥) → RefusesName names analysis new lacks_name code
  wrong : code ≡ RequestFailed → (analysis.problems.items ≡ [] → ⊥) → RefusesName names analysis new lacks_name code
  lacking : lacks_name → RefusesName names analysis new lacks_name code

module _ (knows : List ℕ → Analysis → Type 0) (mentioned : List ℕ → Analysis → List Mention → Type 0) (encoding : Encoding) (uri text : List ℕ) (analysis : Analysis) where
  -- what is told about the name at a position, by the mentions in the text
  abbrev pub Tells : Query → Answer → Type 0
  Tells query answer = Among mentioned text analysis (λ mentions. IsAbout knows mentioned encoding uri text query mentions answer)

  -- by the mentions in the text, none that is defined is to be replaced
  abbrev pub Lacks : Query → ErrorCode → Type 0
  Lacks query code = Among mentioned text analysis (λ mentions. LacksName knows mentioned encoding text query mentions code)

  -- The answer to what is asked for about a text: its symbols and what can be folded are the items; formatting leads to its formatted text, or keeps that; what is told about the name
  -- at a position is about its mentions in the text; a new name is put in the place of each of these and nowhere else, and changes no other one; the links, what can be written
  -- at a position, what sets right what is wrong in a range, what is called at a position, and what can be run, are those of the language. What other answers hold is left open.
  abbrev pub IsAnswer : (formats : List ℕ → List ℕ → Type 0) (unformatted names : List ℕ → Type 0) (linked : Option (List ℕ) → List ℕ → Analysis → List FileLink → Type 0) (completed : List ℕ → List Mention → ℕ → Choices → Type 0) (fixed : List ℕ → List ℕ → Analysis → List QuickFix → Type 0) (signed : List ℕ → List Mention → ℕ → Option Signature → Type 0) (runs : List ℕ → Analysis → List Run → Type 0) → Query → Answer → Type 0
  IsAnswer formats unformatted names linked completed fixed signed runs queries.Symbols answer = OfItems analysis.parts.items (λ items. ShowsItems encoding text items answer)
  IsAnswer formats unformatted names linked completed fixed signed runs queries.Folds answer = OfItems analysis.parts.items (λ items. ShowsFolds encoding text items answer)
  IsAnswer formats unformatted names linked completed fixed signed runs queries.Format answer = Formats formats unformatted encoding text answer
  IsAnswer formats unformatted names linked completed fixed signed runs (queries.FormatRange range) answer = FormatsRange formats unformatted encoding text answer
  IsAnswer formats unformatted names linked completed fixed signed runs (queries.Definition position) answer = Tells (queries.Definition position) answer
  IsAnswer formats unformatted names linked completed fixed signed runs (queries.References position all) answer = Tells (queries.References position all) answer
  IsAnswer formats unformatted names linked completed fixed signed runs (queries.PrepareRename position) answer = Tells (queries.PrepareRename position) answer
  IsAnswer formats unformatted names linked completed fixed signed runs (queries.Rename position new) answer = Replaces names analysis new.now (Tells (queries.Rename position new) answer)
  IsAnswer formats unformatted names linked completed fixed signed runs (queries.Highlights position) answer = Tells (queries.Highlights position) answer
  IsAnswer formats unformatted names linked completed fixed signed runs (queries.Hover position) answer = Hovers mentioned completed encoding text analysis position answer
  IsAnswer formats unformatted names linked completed fixed signed runs queries.Links answer = LinksIn linked encoding uri text analysis answer
  IsAnswer formats unformatted names linked completed fixed signed runs (queries.Complete position) answer = Completes mentioned completed encoding text analysis position answer
  IsAnswer formats unformatted names linked completed fixed signed runs (queries.Fixes range) answer = FixesIn fixed encoding uri text analysis range answer
  IsAnswer formats unformatted names linked completed fixed signed runs (queries.Signature position) answer = Signs mentioned signed encoding text analysis position answer
  IsAnswer formats unformatted names linked completed fixed signed runs queries.Lenses answer = RunsIn runs encoding text analysis answer
  IsAnswer formats unformatted names linked completed fixed signed runs other answer = Unit {0}

  -- What is asked for about a text is refused for this reason. Only a new name is, and the question which name would be replaced.
  abbrev pub IsRefused : (names : List ℕ → Type 0) → Query → ErrorCode → Type 0
  IsRefused names (queries.PrepareRename position) code = Lacks (queries.PrepareRename position) code
  IsRefused names (queries.Rename position new) code = RefusesName names analysis new.now (Lacks (queries.Rename position new) code) code
  IsRefused names other code = ⊥

-- memory ran out, or the request is refused for this reason
abbrev pub FailsFor : (ErrorCode → Type 0) → Failure → Type 0
FailsFor refused Memory = Unit {0}
FailsFor refused (Refused code message) = refused code
