-- The server over messages: its stage, its encoding, and its documents by their addresses.
use Rattle.std.specs.Prelude.{◌≡◌, ◌++◌, ℕ, ℤ, ◌&&◌, Bool, true, false, List, [], ◌∷◌, cond, map, Option, Some, None, string_bytes}
use Rattle.std.specs.BTreeMap.{IsEmpty, get_by_text}
use Rattle.std.specs.Global.{Vec}
use Rattle.std.specs.Str.{bytes_eq}
use Rattle.justfile_lines.specs.declared.encoding.Encoding.{Encoding}
use Rattle.editor_messages.specs.Changes.{AreApplied}
use Rattle.editor_messages.specs.declared.answer.Answer.{Answer}
use Rattle.editor_messages.specs.declared.answer.Answer.TheVariants.{Abilities, Nothing}
use Rattle.editor_messages.specs.declared.answer.Diagnostic.{Diagnostic}
use Rattle.editor_messages.specs.declared.change.Change.{Change}
use Rattle.editor_messages.specs.declared.change.Change.TheVariants as changes
use Rattle.editor_messages.specs.declared.error_code.ErrorCode.{ErrorCode}
use Rattle.editor_messages.specs.declared.error_code.ErrorCode.TheVariants as codes
use Rattle.editor_messages.specs.declared.message.Id.{Id}
use Rattle.editor_messages.specs.declared.message.Notification.{Notification}
use Rattle.editor_messages.specs.declared.message.Notification.TheVariants as told_of
use Rattle.editor_messages.specs.declared.message.Query.{Query}
use Rattle.editor_messages.specs.declared.message.Request.{Request}
use Rattle.editor_messages.specs.declared.message.Request.TheVariants as requests
use Rattle.editor_language.specs.declared.mention.Mention.{Mention}
use Rattle.editor_language.specs.declared.parts.Analysis.{Analysis}
use Rattle.editor_language.specs.declared.parts.Choices.{Choices}
use Rattle.editor_language.specs.declared.parts.FileLink.{FileLink}
use Rattle.editor_language.specs.declared.parts.Finding.{Finding}
use Rattle.editor_language.specs.declared.parts.QuickFix.{QuickFix}
use Rattle.editor_language.specs.declared.parts.Run.{Run}
use Rattle.editor_messages.specs.declared.answer.Signature.{Signature}
use Rattle.editor_answers.specs.Answers.{IsAnswer, IsRefused}
use Rattle.editor_answers.specs.Ranges.{all_to_tell, told}
use Rattle.editor_server.specs.Changed.{DocumentMap, IsStored}
use Rattle.editor_server.specs.declared.documents.Document.{Document}
use Rattle.editor_server.specs.declared.documents.Documents.{Documents}
use Rattle.editor_server.specs.declared.reaction.Reaction.{Reaction}
use Rattle.editor_server.specs.declared.reaction.Reaction.TheVariants as reactions
use Rattle.editor_server.specs.declared.reaction.Stage.{Stage}
use Rattle.editor_server.specs.declared.reaction.Stage.TheVariants.{New, Working, ShutDown}

-- no document is at the address, and the others are as they were
abbrev pub Forgets : (uri : List ℕ) → (old new : DocumentMap) → Type 0
Forgets uri old new = (q : List ℕ) → get_by_text new q ≡ cond (bytes_eq uri q) None (get_by_text old q)

-- The document is forgotten, and nothing else changes.
pub record Closes (uri : List ℕ) (old new : Documents) : Type 0 where
  pub forgets : Forgets uri old.list new.list
  pub lost : new.has_lost ≡ old.has_lost

-- The document's text isn't known, and all other documents are as they were.
pub record Loses (uri : List ℕ) (old new : Documents) : Type 0 where
  pub forgets : Forgets uri old.list new.list
  pub lost : new.has_lost ≡ true

-- no text is known
pub record LosesAll (new : Documents) : Type 0 where
  pub none : IsEmpty new.list
  pub lost : new.has_lost ≡ true

-- What is told of a text of which this is known: its problems, and then the first of the findings in it.
pub record TellsAll (finds : List ℕ → List ℕ → Analysis → List Finding → Type 0) (encoding : Encoding) (uri text : List ℕ) (analysis : Analysis) (found : List Diagnostic) : Type 0 where
  pub findings : List Finding
  pub are_findings : finds uri text analysis findings
  pub tells : map told found ≡ all_to_tell encoding text analysis.problems.items findings

-- a document with the text is at the address, nothing else changes, and what is found is all that is known to be wrong in the text
pub record Stores (knows : List ℕ → Analysis → Type 0) (finds : List ℕ → List ℕ → Analysis → List Finding → Type 0) (encoding : Encoding) (uri text : List ℕ) (old new : Documents) (found : List Diagnostic) : Type 0 where
  pub document : Document
  pub is_text : string_bytes document.text ≡ text
  pub is_known : knows text document.analysis
  pub is_stored : IsStored uri document old new
  pub tells : TellsAll finds encoding uri text document.analysis found

-- what the changes make of a text is stored
pub record StoresAfter (knows : List ℕ → Analysis → Type 0) (finds : List ℕ → List ℕ → Analysis → List Finding → Type 0) (encoding : Encoding) (uri : List ℕ) (changes : List Change) (before : List ℕ) (old new : Documents) (found : List Diagnostic) : Type 0 where
  pub text : List ℕ
  pub is_after : AreApplied encoding before changes text
  pub stores : Stores knows finds encoding uri text old new found

abbrev pub begins_whole : List Change → Bool
begins_whole [] = false
begins_whole (changes.Whole text ∷ rest) = true
begins_whole (changes.Part range text ∷ rest) = false

-- a document that isn't held may be one whose text was lost, and changes that begin with a whole text make it known
abbrev pub is_restored : (has_lost : Bool) → List Change → Bool
is_restored has_lost changes = has_lost && begins_whole changes

-- what changes make of a document that isn't held
abbrev pub Restores : (knows : List ℕ → Analysis → Type 0) → (finds : List ℕ → List ℕ → Analysis → List Finding → Type 0) → Encoding → (uri : List ℕ) → List Change → (restored : Bool) → (old new : Documents) → Option (Vec Diagnostic) → Type 0
Restores knows finds encoding uri changes true old new (Some found) = StoresAfter knows finds encoding uri changes [] old new found.items
Restores knows finds encoding uri changes false old new None = new ≡ old
Restores knows finds encoding uri changes true old new None = ⊥
Restores knows finds encoding uri changes false old new (Some found) = ⊥

-- what the changes make of the document's text is stored
abbrev pub Changes : (knows : List ℕ → Analysis → Type 0) → (finds : List ℕ → List ℕ → Analysis → List Finding → Type 0) → Encoding → (uri : List ℕ) → List Change → (before : Option Document) → (old new : Documents) → Option (Vec Diagnostic) → Type 0
Changes knows finds encoding uri changes (Some d) old new (Some found) = StoresAfter knows finds encoding uri changes (string_bytes d.text) old new found.items
Changes knows finds encoding uri changes (Some d) old new None = ⊥
Changes knows finds encoding uri changes None old new found = Restores knows finds encoding uri changes (is_restored old.has_lost changes) old new found

-- why a document that isn't held can't be asked about: its text isn't known, or it isn't open
abbrev pub absence : (has_lost : Bool) → ErrorCode
absence true = codes.ContentModified
absence false = codes.InvalidParams

-- after a request
abbrev pub stage_after : Stage → Request → Stage
stage_after New (requests.Initialize encoding) = Working
stage_after Working requests.Shutdown = ShutDown
stage_after stage other = stage

abbrev pub encoding_after : Stage → Encoding → Request → Encoding
encoding_after New old (requests.Initialize encoding) = encoding
encoding_after stage old other = old

-- why a message is refused that is wrong for a reason
abbrev pub reason_of : Stage → ErrorCode → ErrorCode
reason_of New codes.MethodNotFound = codes.ServerNotInitialized
reason_of New codes.InvalidParams = codes.ServerNotInitialized
reason_of ShutDown codes.MethodNotFound = codes.InvalidRequest
reason_of ShutDown codes.InvalidParams = codes.InvalidRequest
reason_of stage code = code

module _ (knows : List ℕ → Analysis → Type 0) (mentioned : List ℕ → Analysis → List Mention → Type 0) (formats : List ℕ → List ℕ → Type 0) (unformatted names : List ℕ → Type 0) (linked : Option (List ℕ) → List ℕ → Analysis → List FileLink → Type 0) (completed : List ℕ → List Mention → ℕ → Choices → Type 0) (fixed : List ℕ → List ℕ → Analysis → List QuickFix → Type 0) (signed : List ℕ → List Mention → ℕ → Option Signature → Type 0) (runs : List ℕ → Analysis → List Run → Type 0) where
  -- the answer about the document that is at an address
  abbrev pub IsAnswerAbout : Encoding → (uri : List ℕ) → Query → Option Document → Answer → Type 0
  IsAnswerAbout encoding uri query (Some d) answer = IsAnswer knows mentioned encoding uri (string_bytes d.text) d.analysis formats unformatted names linked completed fixed signed runs query answer
  IsAnswerAbout encoding uri query None answer = ⊥

  -- the answer to a request
  abbrev pub Answers : Stage → Encoding → Documents → Request → Answer → Type 0
  Answers New encoding documents (requests.Initialize offered) answer = answer ≡ Abilities offered
  Answers Working encoding documents requests.Shutdown answer = answer ≡ Nothing
  Answers Working encoding documents (requests.About uri query) answer = IsAnswerAbout encoding uri.now query (get_by_text documents.list uri.now) answer
  Answers stage encoding documents other answer = ⊥

module _ (knows : List ℕ → Analysis → Type 0) (mentioned : List ℕ → Analysis → List Mention → Type 0) (names : List ℕ → Type 0) where
  abbrev pub IsRefusedAbout : Encoding → (uri : List ℕ) → Query → Option Document → (has_lost : Bool) → ErrorCode → Type 0
  IsRefusedAbout encoding uri query (Some d) has_lost code = IsRefused knows mentioned encoding uri (string_bytes d.text) d.analysis names query code
  IsRefusedAbout encoding uri query None has_lost code = code ≡ absence has_lost

  -- a request is refused for this reason
  abbrev pub Refuses : Stage → Encoding → Documents → Request → ErrorCode → Type 0
  Refuses New encoding documents (requests.Initialize offered) code = ⊥
  Refuses New encoding documents other code = code ≡ codes.ServerNotInitialized
  Refuses Working encoding documents requests.Shutdown code = ⊥
  Refuses Working encoding documents (requests.About uri query) code = IsRefusedAbout encoding uri.now query (get_by_text documents.list uri.now) documents.has_lost code
  Refuses stage encoding documents other code = code ≡ codes.InvalidRequest

-- a request is answered under its own id
abbrev pub Replies : Id → (Answer → Type 0) → (ErrorCode → Type 0) → Reaction → Type 0
Replies id answers refuses (reactions.Reply to answer) = (to ≡ id) × answers answer
Replies id answers refuses (reactions.Refuse (Some to) code message) = (to ≡ id) × refuses code
Replies id answers refuses other = ⊥

-- diagnostics of the document at an address are told, with the version of its text
abbrev pub Publishes : (uri : List ℕ) → (version : Option ℤ) → (List Diagnostic → Type 0) → Reaction → Type 0
Publishes uri version holds (reactions.Publish at of found) = (at.now ≡ uri) × (of ≡ version) × holds found.items
Publishes uri version holds other = ⊥

-- what is told after changes, if anything is
abbrev pub TellsOf : (uri : List ℕ) → (version : Option ℤ) → (Option (Vec Diagnostic) → Type 0) → Reaction → Type 0
TellsOf uri version changed (reactions.Publish at of found) = (at.now ≡ uri) × (of ≡ version) × changed (Some found)
TellsOf uri version changed reactions.Silent = changed None
TellsOf uri version changed other = ⊥

-- what is done after something was told
abbrev pub Notes : (knows : List ℕ → Analysis → Type 0) → (finds : List ℕ → List ℕ → Analysis → List Finding → Type 0) → Stage → Encoding → Notification → (old new : Documents) → Reaction → Type 0
Notes knows finds ShutDown encoding told_of.Exit old new reaction = (new ≡ old) × (reaction ≡ reactions.Exit 0)
Notes knows finds stage encoding told_of.Exit old new reaction = (new ≡ old) × (reaction ≡ reactions.Exit 1)
Notes knows finds Working encoding (told_of.Open uri version text) old new reaction = Publishes uri.now version (Stores knows finds encoding uri.now text.now old new) reaction
Notes knows finds Working encoding (told_of.Change uri version changes) old new reaction = TellsOf uri.now version (Changes knows finds encoding uri.now changes.items (get_by_text old.list uri.now) old new) reaction
Notes knows finds Working encoding (told_of.Close uri) old new reaction = Publishes uri.now None (λ found. (found ≡ []) × Closes uri.now old new) reaction
Notes knows finds Working encoding (told_of.Unclear (Some uri)) old new reaction = Publishes uri.now None (λ found. (found ≡ []) × Loses uri.now old new) reaction
Notes knows finds Working encoding (told_of.Unclear None) old new reaction = LosesAll new × (reaction ≡ reactions.Silent)
Notes knows finds stage encoding other old new reaction = (new ≡ old) × (reaction ≡ reactions.Silent)

-- memory ran out: the text of the document that was told of isn't known, and no other one is lost
abbrev pub LeavesOnError : Stage → Notification → (old new : Documents) → Type 0
LeavesOnError Working (told_of.Open uri version text) old new = Loses uri.now old new
LeavesOnError Working (told_of.Change uri version changes) old new = Loses uri.now old new
LeavesOnError stage other old new = ⊥
