-- The parts of a justfile, and what is known of each.
use Rattle.std.specs.Prelude.{◌≡◌, ◌⊎◌, ℕ, ◌+◌, ◌-◌, ◌≤◌, Bool, false, true, List, [], map, take, drop, length, nat_eq, slice_index, None, Some, codes, string_bytes}
use Rattle.std.specs.List.{slice_range}
use Rattle.text_parts.specs.Parts.{IsNext, before}
use Rattle.text_parts.specs.Places.{IsPartEnd}
use Rattle.text_parts.specs.declared.part.Part.{Part}
use Rattle.justfile_token.specs.Messages.{message_text}
use Rattle.justfile_token.specs.declared.compile_error.CompileError.{CompileError}
use Rattle.justfile_token.specs.declared.fault.Fault.{Fault}
use Rattle.justfile_token.specs.declared.fault.Fault.TheVariants.{Compile, Memory, Numbers}
use Rattle.justfile_chunks.specs.declared.span.Span as texts
use Rattle.justfile_model.specs.Lexing.BlankLines.{is_blank_or_line_end}
use Rattle.justfile_ast.specs.declared.ast.Ast.{Ast}
use Rattle.justfile_canonical.specs.Parsing.{IsPart}
use Rattle.justfile_canonical.specs.Root.{HasNoRoot, IsRoot, conditions}
use Rattle.justfile_recovery.specs.Starts.{is_start}
use Rattle.justfile_survey.specs.Errors.{IsPlaceOf, names_lines}
use Rattle.justfile_survey.specs.Items.{file_seen}
use Rattle.justfile_mentions.specs.Mentions.{AreMentions, noted}
use Rattle.editor_language.specs.declared.mention.Mention.{Mention}
use Rattle.editor_language.specs.declared.parts.Item.{Item}
use Rattle.editor_language.specs.declared.parts.Known.{Known}
use Rattle.editor_language.specs.declared.parts.PartProblem.{PartProblem}
use Rattle.justfile_analysis.specs.Ends.{IsFurther}
use Rattle.justfile_analysis.specs.Shown.{editor_span, shown, to_show}
use Rattle.justfile_analysis.specs.declared.cut.Attempt.{Attempt}
use Rattle.justfile_analysis.specs.declared.cut.Attempt.TheVariants.{Found, Further}

-- these are the items of a file of a text of this length
abbrev pub AreItems : (length : ℕ) → Ast → List Item → Type 0
AreItems length ast items = map shown items ≡ map to_show (file_seen length 0 ast)

-- these are the mentions in a file
abbrev pub AreMentionedIn : Ast → List Mention → Type 0
AreMentionedIn ast mentions = AreMentions 0 ast.items.items (map noted mentions)

-- nothing is wrong, and the items and the mentions are those of a file
pub record IsRight (length : ℕ) (ast : Ast) (known : Known) : Type 0 where
  pub none_wrong : known.problem ≡ None
  pub items_are : AreItems length ast known.items.items
  pub mentions_are : AreMentionedIn ast known.mentions.items

-- What is before the last byte of this was read up to that byte, and is a justfile by itself, of which this is known.
pub record IsRead (src : List ℕ) (known : Known) : Type 0 where
  pub ast : Ast
  pub part : IsPart conditions (codes "justfile") src 0 [] ast
  pub right : IsRight (length src - 1) ast known

-- the text is a justfile, of which this is known
pub record IsFile (text : List ℕ) (known : Known) : Type 0 where
  pub ast : Ast
  pub root : IsRoot (codes "justfile") text ast
  pub right : IsRight (length text) ast known

-- the text is none
pub record IsNone (text : List ℕ) : Type 0 where
  pub fault : Fault
  pub no_root : HasNoRoot (codes "justfile") text fault

-- The problem is that of an error of a text.
pub record IsOfError (text : List ℕ) (e : CompileError) (p : PartProblem) : Type 0 where
  pub place : texts.Span
  pub is_place : IsPlaceOf text e.token place
  pub span_is : p.span ≡ editor_span place
  pub message_is : string_bytes p.message ≡ message_text e
  pub names_lines_is : p.names_lines ≡ names_lines e.kind

-- The problem is that numbers don't suffice.
pub record IsOfNumbers (p : PartProblem) : Type 0 where
  pub span_is : p.span ≡ record { start = 0; end = 0 }
  pub message_is : string_bytes p.message ≡ codes "out of numbers"
  pub names_none : p.names_lines ≡ false

abbrev pub IsOfFault : (text : List ℕ) → Fault → PartProblem → Type 0
IsOfFault text (Compile e) p = IsOfError text e p
IsOfFault text Memory p = ⊥
IsOfFault text Numbers p = IsOfNumbers p

-- The text is no justfile, and the problem tells why.
pub record TellsWhy (text : List ℕ) (p : PartProblem) : Type 0 where
  pub fault : Fault
  pub no_root : HasNoRoot (codes "justfile") text fault
  pub is_of_fault : IsOfFault text fault p

-- there are no items and no mentions
abbrev pub AreNone : List Item → List Mention → Type 0
AreNone items mentions = (items ≡ []) × (mentions ≡ [])

-- the text is a justfile by itself, and the items and the mentions are its
abbrev pub AreOfText : (text : List ℕ) → List Item → List Mention → Type 0
AreOfText text items mentions =
    (ast : Ast) × IsRoot (codes "justfile") text ast × AreItems (length text) ast items × AreMentionedIn ast mentions

-- the items and the mentions are those of the beginning of what was read, which is a justfile by itself, or there are none
abbrev pub AreOfFront : (seen : List ℕ) → List Item → List Mention → Type 0
AreOfFront seen items mentions = AreNone items mentions ⊎ ((count : ℕ) × AreOfText (take count seen) items mentions)

-- What was read may end after so many bytes: the text ends there, or an item may begin there.
abbrev pub MayEnd : (seen : List ℕ) (sees_end : Bool) (count : ℕ) → Type 0
MayEnd seen sees_end count = ((sees_end ≡ true) × (count ≡ length seen)) ⊎ (is_start seen count ≡ true)

-- What was read is no justfile up to where it may end, and the problem tells why. The part ends there or before.
pub record IsWrong (is_first : Bool) (seen : List ℕ) (sees_end : Bool) (p : Part Known) : Type 0 where
  pub problem : PartProblem
  pub problem_is : p.known.problem ≡ Some problem
  pub count : ℕ
  pub may_end : MayEnd seen sees_end count
  pub tells : TellsWhy (take count seen) problem
  pub size_within : before is_first + p.size ≤ count
  pub are_of_front : AreOfFront seen p.known.items.items p.known.mentions.items

-- A part of a justfile, by what was read to find it. It was read up to the first byte of the next part, which begins at once on a line of its own; or up
-- to the end of the text; or it is wrong.
pub data IsPartOf (is_first : Bool) (seen : List ℕ) (sees_end : Bool) (p : Part Known) : Type 0 where
  read : sees_end ≡ false → IsRead seen p.known → before is_first + p.size + 1 ≡ length seen → slice_index seen (length seen - 2) ≡ 10
      → is_blank_or_line_end (slice_index seen (length seen - 1)) ≡ false → IsPartOf is_first seen sees_end p
  last : sees_end ≡ true → IsFile seen p.known → before is_first + p.size ≡ length seen → IsPartOf is_first seen sees_end p
  wrong : IsWrong is_first seen sees_end p → IsPartOf is_first seen sees_end p

-- ---- while a part is found

-- This is the next part of a text from an offset on.
pub record IsFound (text : List ℕ) (start : ℕ) (p : Part Known) : Type 0 where
  pub next : IsNext IsPartOf (nat_eq start 0) (drop (start - 1) text) p
  pub ends : IsPartEnd text start p.size

-- the part is found, or its end is further on
abbrev pub IsAttempt : (text : List ℕ) (start end : ℕ) → Attempt → Type 0
IsAttempt text start end (Found p) = IsFound text start p
IsAttempt text start end (Further further) = IsFurther text end further

-- what is in a text from one offset on up to another one, with the line feed before it
abbrev pub read_of : (text : List ℕ) (start end : ℕ) → List ℕ
read_of text start end = slice_range text (start - 1) end

-- the items and the mentions are those of the lines before another one, which are a justfile by themselves, or there are none
abbrev pub AreBefore : (text : List ℕ) (start line : ℕ) → List Item → List Mention → Type 0
AreBefore text start line items mentions = AreNone items mentions ⊎ AreOfText (read_of text start line) items mentions
