-- What is answered about the name at a position.
use Rattle.std.specs.Prelude.{◌≡◌, ◌&&◌, ◌||◌, ◌++◌, ℕ, Bool, not, List, [], codes, cond, filter, length, map, min, nat_lt, Option, None, Some, string_bytes}
use Rattle.std.specs.List.{find, slice_range}
use Rattle.std.specs.Option.{option_to_list}
use Rattle.std.specs.Str.{bytes_eq}
use Rattle.justfile_lines.specs.Positions.{IsOffset}
use Rattle.justfile_lines.specs.declared.encoding.Encoding.{Encoding}
use Rattle.justfile_lines.specs.declared.position.Position.{Position}
use Rattle.text_edits.specs.declared.edit.Range.{Range}
use Rattle.editor_messages.specs.declared.answer.Answer.{Answer}
use Rattle.editor_messages.specs.declared.answer.Answer.TheVariants.{Highlights, Hover, Nothing, Place, Places}
use Rattle.editor_messages.specs.declared.answer.Completion.{Completion}
use Rattle.editor_messages.specs.declared.answer.Highlight.{Highlight}
use Rattle.editor_language.specs.Mentions.{is_at, is_like}
use Rattle.editor_language.specs.declared.mention.Mention.{Mention}
use Rattle.editor_language.specs.declared.parts.Choices.{Choices}
use Rattle.editor_language.specs.declared.parts.Span.{Span}
use Rattle.editor_answers.specs.Ranges.{highlight_of, range_of}

-- the first definition of a name, if it has one
abbrev pub definition : (mentions : List Mention) (name : Mention) → Option Mention
definition mentions name = find (λ (m : Mention). m.defines && is_like name m) mentions

abbrev pub name_if : (definition : Option Mention) (name : Mention) → Option Mention
name_if None name = None
name_if (Some definition) name = Some name

-- the name, if there is one and it is defined
abbrev pub if_defined : (mentions : List Mention) → Option Mention → Option Mention
if_defined mentions None = None
if_defined mentions (Some name) = name_if (definition mentions name) name

-- the first definition of the name, if there is a name
abbrev pub definitions_of : (mentions : List Mention) → Option Mention → List Mention
definitions_of mentions None = []
definitions_of mentions (Some name) = option_to_list (definition mentions name)

-- whether a mention is of the name, and one of those that are asked for: all, or those that don't define it
abbrev pub is_wanted : (all : Bool) (name : Mention) → Mention → Bool
is_wanted all name m = is_like name m && (all || not m.defines)

-- these mentions of the name, if there is one, in their order
abbrev pub mentions_of : (all : Bool) (mentions : List Mention) → Option Mention → List Mention
mentions_of all mentions None = []
mentions_of all mentions (Some name) = filter (is_wanted all name) mentions

-- all mentions of the name, if there is one, in their order
abbrev pub likes_of : (mentions : List Mention) → Option Mention → List Mention
likes_of mentions None = []
likes_of mentions (Some name) = filter (is_like name) mentions

-- the ranges of mentions
abbrev pub ranges_of : Encoding → (text : List ℕ) → List Mention → List Range
ranges_of encoding text mentions = map (range_of encoding text) (map (λ (m : Mention). m.span) mentions)

-- the answer is these ranges of the document with this address
abbrev pub AnswersPlaces : (uri : List ℕ) (ranges : List Range) → Answer → Type 0
AnswersPlaces uri ranges (Places address found) = (string_bytes address ≡ uri) × (found.items ≡ ranges)
AnswersPlaces uri ranges other = ⊥

-- the answer is this range
abbrev pub AnswersPlace : Range → Answer → Type 0
AnswersPlace range (Place found) = found ≡ range
AnswersPlace range other = ⊥

-- the answer is these places
abbrev pub AnswersHighlights : List Highlight → Answer → Type 0
AnswersHighlights wanted (Highlights found) = found.items ≡ wanted
AnswersHighlights wanted other = ⊥

-- the answer tells something of the name, and where it is
abbrev pub AnswersHover : Encoding → (text : List ℕ) → Mention → Answer → Type 0
AnswersHover encoding text name (Hover hover) = hover.range ≡ range_of encoding text name.span
AnswersHover encoding text name other = ⊥

-- the bytes of a part of a text, which ends with the text if not before
abbrev pub word_in : (text : List ℕ) → Span → List ℕ
word_in text span = let end = min span.end (length text) in slice_range text (min span.start end) end

-- whether this is the word that can be written, and there is something to tell of it
abbrev pub is_told : (word : List ℕ) → Completion → Bool
is_told word c = bytes_eq (string_bytes c.label) word && nat_lt 0 (length (string_bytes c.documentation))

-- what that is which can be written, if it is known, and on the next line what it is for
abbrev pub description_of : Completion → List ℕ
description_of c =
    cond (nat_lt 0 (length (string_bytes c.detail))) (string_bytes c.detail ++ (codes "\n" ++ string_bytes c.documentation)) (string_bytes c.documentation)

-- the answer tells of what can be written what it is and what it is for; or nothing, if there is none
abbrev pub TellsOf : Encoding → (text : List ℕ) → Span → Option Completion → Answer → Type 0
TellsOf encoding text span None answer = answer ≡ Nothing
TellsOf encoding text span (Some c) (Hover hover) = (hover.range ≡ range_of encoding text span) × (string_bytes hover.text ≡ description_of c)
TellsOf encoding text span (Some c) other = ⊥

-- the same of the word in that place, if it can be written there
abbrev pub TellsOfWord : Encoding → (text : List ℕ) → Choices → Answer → Type 0
TellsOfWord encoding text choices answer = TellsOf encoding text choices.span (find (is_told (word_in text choices.span)) choices.found.items) answer

module _ (encoding : Encoding) (text : List ℕ) (mentions : List Mention) (position : Position) where
  -- the first name that is mentioned at the position, if there is one
  pub record IsNameAt (name : Option Mention) : Type 0 where
    pub offset : ℕ
    pub is_offset : IsOffset encoding text position offset
    pub is_found : find (is_at offset) mentions ≡ name

  -- that name, if it is defined
  pub record IsDefinedAt (defined : Option Mention) : Type 0 where
    pub name : Option Mention
    pub is_at : IsNameAt name
    pub is_defined : if_defined mentions name ≡ defined

  -- the answer is where those mentions are that are looked for, of the name at the position
  pub record Locates (uri : List ℕ) (wanted : Option Mention → List Mention) (answer : Answer) : Type 0 where
    pub name : Option Mention
    pub is_at : IsNameAt name
    pub places : AnswersPlaces uri (ranges_of encoding text (wanted name)) answer

  -- the answer is where the name at the position is, which is defined
  pub record Bounds (answer : Answer) : Type 0 where
    pub name : Mention
    pub is_at : IsDefinedAt (Some name)
    pub place : AnswersPlace (range_of encoding text name.span) answer

  -- the answer is where the name at the position is mentioned, and where it is defined
  pub record Lights (answer : Answer) : Type 0 where
    pub name : Option Mention
    pub is_at : IsNameAt name
    pub highlights : AnswersHighlights (map (highlight_of encoding text) (likes_of mentions name)) answer

  module _ (completed : List ℕ → List Mention → ℕ → Choices → Type 0) where
    -- the answer tells of the word at the position what a language has for it: where something can be written at the position, and what at the end of that
    pub record Explains (answer : Answer) : Type 0 where
      pub offset : ℕ
      pub is_offset : IsOffset encoding text position offset
      pub around : Choices
      pub are_around : completed text mentions offset around
      pub choices : Choices
      pub are_choices : completed text mentions around.span.end choices
      pub tells : TellsOfWord encoding text choices answer

    -- the answer tells something of the name at the position, if it is defined, and otherwise what the language has for the word there
    pub data Describes (answer : Answer) : Type 0 where
      named : (name : Mention) → IsDefinedAt (Some name) → AnswersHover encoding text name answer → Describes answer
      explained : IsDefinedAt None → Explains answer → Describes answer
