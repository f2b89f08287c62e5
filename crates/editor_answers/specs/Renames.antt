-- What is answered to a request to replace a name.
use Rattle.std.specs.Prelude.{◌≡◌, ◌==◌, ◌&&◌, ℕ, Bool, true, false, not, cond, List, [], ◌∷◌, None, Some, All, filter, map, string_bytes}
use Rattle.std.specs.List.{list_any}
use Rattle.std.specs.Str.{bytes_eq}
use Rattle.justfile_lines.specs.declared.encoding.Encoding.{Encoding}
use Rattle.justfile_lines.specs.declared.position.Position.{Position}
use Rattle.text_edits.specs.declared.edit.Range.{Range}
use Rattle.text_edits.specs.declared.edit.TextEdit.{TextEdit}
use Rattle.text_edits.specs.Edited.{IsEdited}
use Rattle.editor_messages.specs.declared.answer.Answer.{Answer}
use Rattle.editor_messages.specs.declared.answer.Answer.TheVariants.{Rename}
use Rattle.editor_language.specs.Mentions.{is_like, role_number, same_scope}
use Rattle.editor_language.specs.declared.mention.Mention.{Mention}
use Rattle.editor_language.specs.declared.parts.Analysis.{Analysis}
use Rattle.editor_answers.specs.Names.{IsDefinedAt, ranges_of}

-- these edits put the new text in the place of each range
pub record PutInto (ranges : List Range) (new : List ℕ) (edits : List TextEdit) : Type 0 where
  pub in_ranges : map (λ (e : TextEdit). e.range) edits ≡ ranges
  pub texts : All (λ (e : TextEdit). string_bytes e.text ≡ new) edits

-- the answer is these edits of the document with this address
abbrev pub AnswersEdits : (uri : List ℕ) → (List TextEdit → Type 0) → Answer → Type 0
AnswersEdits uri are (Rename rename) = (string_bytes rename.uri ≡ uri) × are rename.edits.items
AnswersEdits uri are other = ⊥

module _ (name : Mention) (new : List ℕ) where
  -- whether a mention is of another name that is called as the new one: it stands for the same as the name, and is known in the same item
  abbrev pub is_taken : Mention → Bool
  is_taken m = role_number m.role == role_number name.role && same_scope m.scope name.scope && bytes_eq (string_bytes m.name) new && not (is_like name m)

  -- what is mentioned after the name was replaced
  abbrev pub name_after : Mention → List ℕ
  name_after m = cond (is_like name m) new (string_bytes m.name)

  -- whether a mention is what another one is after that: it stands for the same, is known in the same item, and defines what it mentions if that one did
  abbrev pub is_renamed : (before after : Mention) → Bool
  is_renamed before after =
      role_number before.role == role_number after.role && same_scope before.scope after.scope && bytes_eq (name_after before) (string_bytes after.name)
      && cond before.defines after.defines (not after.defines)

  abbrev pub are_renamed : (before after : List Mention) → Bool
  are_renamed [] [] = true
  are_renamed [] (m ∷ after) = false
  are_renamed (m ∷ before) [] = false
  are_renamed (m ∷ before) (k ∷ after) = is_renamed m k && are_renamed before after

-- the new name is put in the place of each mention of the name
abbrev pub Puts : Encoding → (text : List ℕ) (mentions : List Mention) (name : Mention) (new : List ℕ) → List TextEdit → Type 0
Puts encoding text mentions name new edits = PutInto (ranges_of encoding text (filter (is_like name) mentions)) new edits

module _ (knows : List ℕ → Analysis → Type 0) (mentioned : List ℕ → Analysis → List Mention → Type 0) where
  -- whether nothing is wrong in a text, and the mentions in it are these ones with the new name in place of the name
  pub data IsMeant (name : Mention) (new : List ℕ) (before : List Mention) (after : List ℕ) : Bool → Type 0 where
    broken : (known : Analysis) → knows after known → (known.problems.items ≡ [] → ⊥) → IsMeant name new before after false
    compared : (known : Analysis) (mentions : List Mention) → knows after known → known.problems.items ≡ [] → mentioned after known mentions
        → IsMeant name new before after (are_renamed name new before mentions)

  module _ (encoding : Encoding) (text : List ℕ) (mentions : List Mention) (name : Mention) (new : List ℕ) where
    -- The new name is put in the place of each mention of the name. In the text after that nothing is wrong, and the mentions are the old ones, with the new name in place of the
    -- name, which no other name has.
    pub record IsRenaming (edits : List TextEdit) : Type 0 where
      pub free : list_any (is_taken name new) mentions ≡ false
      pub puts : Puts encoding text mentions name new edits
      pub after : List ℕ
      pub is_edited : IsEdited encoding text edits after
      pub is_meant : IsMeant name new mentions after true

    -- why the name can't be replaced: another one is called so, the places aren't in order, or the text after that is wrong or means something else
    pub data Spoils : Type 0 where
      taken : list_any (is_taken name new) mentions ≡ true → Spoils
      unordered : (edits : List TextEdit) → Puts encoding text mentions name new edits → ((after : List ℕ) → IsEdited encoding text edits after → ⊥) → Spoils
      changed : (edits : List TextEdit) (after : List ℕ) → Puts encoding text mentions name new edits → IsEdited encoding text edits after → IsMeant name new mentions after false → Spoils

  -- The answer replaces the defined name that is mentioned at the position.
  pub record Renames (encoding : Encoding) (uri text : List ℕ) (mentions : List Mention) (position : Position) (new : List ℕ) (answer : Answer) : Type 0 where
    pub name : Mention
    pub is_at : IsDefinedAt encoding text mentions position (Some name)
    pub edits : AnswersEdits uri (IsRenaming encoding text mentions name new) answer

  -- no defined name is mentioned at the position, or it can't be replaced
  pub data Declines (encoding : Encoding) (text : List ℕ) (mentions : List Mention) (position : Position) (new : List ℕ) : Type 0 where
    nowhere : IsDefinedAt encoding text mentions position None → Declines encoding text mentions position new
    spoilt : (name : Mention) → IsDefinedAt encoding text mentions position (Some name) → Spoils encoding text mentions name new → Declines encoding text mentions position new
