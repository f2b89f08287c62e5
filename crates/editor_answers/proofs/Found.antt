-- The name that is found at a position.
use Rattle.std.proofs.Common.{◌≡◌, ◌∙◌, ℕ, List, [], ◌∷◌, map, Option, Some, None, Result, Ok, Err, IfOk, sym, ap, subst}
use Rattle.std.specs.List.{find}
use Rattle.std.specs.Option.{option_copied, option_to_list}
use Rattle.justfile_lines.specs.Positions.{IsOffset}
use Rattle.justfile_lines.specs.declared.encoding.Encoding.{Encoding}
use Rattle.justfile_lines.specs.declared.position.Position.{Position}
use Rattle.text_edits.specs.declared.edit.Range.{Range}
use Rattle.editor_messages.specs.declared.answer.Answer.{Answer}
use Rattle.editor_messages.specs.declared.answer.Answer.TheVariants.{Place}
use Rattle.editor_language.specs.Mentions.{is_at}
use Rattle.editor_language.specs.declared.mention.Mention.{Mention}
use Rattle.editor_language.specs.declared.parts.Analysis.{Analysis}
use Rattle.editor_language.specs.declared.parts.Span.{Span}
use Rattle.editor_language.specs.declared.parts.Choices.{Choices}
use Rattle.editor_answers.specs.Names.{AnswersHighlights, AnswersHover, AnswersPlaces, Bounds, Describes, Explains, IsDefinedAt, IsNameAt, Lights, Locates, explained, if_defined, likes_of, name_if, named}
use Rattle.editor_answers.specs.Ranges.{highlight_of, range_of}
use Rattle.editor_answers.specs.Renames.{AnswersEdits, IsRenaming, Renames}
use denote.Ref.{Bor}

-- the name, if it is defined
pub name_of_some : (found : Option Mention) (d name : Mention) → Some d ≡ found → Some name ≡ name_if found name
name_of_some found d name e = ap (λ (o : Option Mention). name_if o name) e

pub name_of_none : (found : Option Mention) (name : Mention) → None ≡ found → None ≡ name_if found name
name_of_none found name e = ap (λ (o : Option Mention). name_if o name) e

-- the place of its definition
pub defined_span : {A E : Type 0} (r : Result A E) (items : A → List Span) (found : Option Mention) (d : Mention) → Some d ≡ found → IfOk r (λ a. items a ≡ d.span ∷ [])
    → IfOk r (λ a. items a ≡ map (λ (m : Mention). m.span) (option_to_list found))
defined_span (Ok a) items found d e h = h ∙ ap (λ (o : Option Mention). map (λ (m : Mention). m.span) (option_to_list o)) e
defined_span (Err x) items found d e h = tt

pub no_span : (items : List Span) (found : Option Mention) → items ≡ [] → None ≡ found → items ≡ map (λ (m : Mention). m.span) (option_to_list found)
no_span items found none e = none ∙ ap (λ (o : Option Mention). map (λ (m : Mention). m.span) (option_to_list o)) e

module _ (encoding : Encoding) (text : List ℕ) (mentions : List Mention) (position : Position) where
  pub found_at : (offset : ℕ) (found : Option (Bor Mention)) → IsOffset encoding text position offset → option_copied found ≡ find (is_at offset) mentions
      → IsNameAt encoding text mentions position (option_copied found)
  found_at offset found is e = record { offset = offset; is_offset = is; is_found = sym e }

  pub found_if_defined : (name found : Option (Bor Mention)) → IsNameAt encoding text mentions position (option_copied name) → option_copied found ≡ if_defined mentions (option_copied name)
      → IsDefinedAt encoding text mentions position (option_copied found)
  found_if_defined name found at e = record { name = option_copied name; is_at = at; is_defined = sym e }

  -- places of mentions
  pub located : {E : Type 0} (uri : List ℕ) (wanted : Option Mention → List Mention) (name : Option Mention) (spans places : List Span) (r : Result Answer E)
      → IsNameAt encoding text mentions position name → spans ≡ map (λ (m : Mention). m.span) (wanted name) → places ≡ spans
      → IfOk r (AnswersPlaces uri (map (range_of encoding text) places)) → IfOk r (Locates encoding text mentions position uri wanted)
  located uri wanted name spans places (Ok answer) at of same h = record {
    name = name;
    is_at = at;
    places = subst (λ (s : List Span). AnswersPlaces uri (map (range_of encoding text) s) answer) (same ∙ of) h;
  }
  located uri wanted name spans places (Err e) at of same h = tt

  module _ (name : Mention) (at : IsDefinedAt encoding text mentions position (Some name)) where
    pub bounded : (range : Range) → range ≡ range_of encoding text name.span → Bounds encoding text mentions position (Place range)
    bounded range is = record { name = name; is_at = at; place = is }

    pub renamed : {E : Type 0} (knows : List ℕ → Analysis → Type 0) (mentioned : List ℕ → Analysis → List Mention → Type 0) (uri new : List ℕ) (r : Result Answer E)
        → IfOk r (AnswersEdits uri (IsRenaming knows mentioned encoding text mentions name new)) → IfOk r (Renames knows mentioned encoding uri text mentions position new)
    renamed knows mentioned uri new (Ok answer) h = record { name = name; is_at = at; edits = h }
    renamed knows mentioned uri new (Err e) h = tt

    pub described : {E : Type 0} (completed : List ℕ → List Mention → ℕ → Choices → Type 0) (r : Result Answer E) → IfOk r (AnswersHover encoding text name)
        → IfOk r (Describes encoding text mentions position completed)
    described completed (Ok answer) h = named name at h
    described completed (Err e) h = tt

  pub explaining : {E : Type 0} (completed : List ℕ → List Mention → ℕ → Choices → Type 0) (r : Result Answer E) → IsDefinedAt encoding text mentions position None
      → IfOk r (Explains encoding text mentions position completed) → IfOk r (Describes encoding text mentions position completed)
  explaining completed (Ok answer) at h = explained at h
  explaining completed (Err e) at h = tt

  pub lighted : (name : Option Mention) (answer : Answer) → IsNameAt encoding text mentions position name
      → AnswersHighlights (map (highlight_of encoding text) (likes_of mentions name)) answer → Lights encoding text mentions position answer
  lighted name answer at is = record { name = name; is_at = at; highlights = is }
