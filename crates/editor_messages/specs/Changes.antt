-- Texts after changes.
use Rattle.std.specs.Prelude.{◌≡◌, ℕ, List, [], ◌∷◌}
use Rattle.justfile_lines.specs.declared.encoding.Encoding.{Encoding}
use Rattle.text_edits.specs.Replaced.{IsReplaced}
use Rattle.editor_messages.specs.declared.change.Change.{Change}
use Rattle.editor_messages.specs.declared.change.Change.TheVariants.{Whole, Part}

-- The text is what the change makes of the old one.
abbrev pub IsAfter : Encoding → (old : List ℕ) → Change → (text : List ℕ) → Type 0
IsAfter encoding old (Whole new) text = text ≡ new.now
IsAfter encoding old (Part range new) text = IsReplaced encoding old range new.now text

-- The text is what the changes make of the old one, one after the other.
abbrev pub AreApplied : Encoding → (old : List ℕ) → List Change → (text : List ℕ) → Type 0
AreApplied encoding old [] text = old ≡ text
AreApplied encoding old (change ∷ changes) text = (between : List ℕ) × IsAfter encoding old change between × AreApplied encoding between changes text
