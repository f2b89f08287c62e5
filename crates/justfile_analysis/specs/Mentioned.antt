-- The mentions of names in the parts of a text, where they are in the text.
use Rattle.std.specs.Prelude.{◌≡◌, ◌-◌, ◌++◌, ℕ, List, [], ◌∷◌, map, option_map}
use Rattle.text_parts.specs.declared.part.Part.{Part}
use Rattle.editor_language.specs.Items.{moved_offset, moved_span}
use Rattle.editor_language.specs.declared.mention.Mention.{Mention}
use Rattle.editor_language.specs.declared.parts.Known.{Known}
use Rattle.justfile_mentions.specs.Noted.{Noted, noted}

-- A mention in what was read from an offset on, as it is in the text, where the items of the part have numbers from `first` on.
abbrev pub moved_noted : (base first : ℕ) → Noted → Noted
moved_noted base first n =
    record { role = n.role; name = n.name; scope = option_map (moved_offset first) n.scope; span = moved_span base n.span; defines = n.defines }

-- the mentions in a part that begins at an offset
abbrev pub noted_in : (start first : ℕ) → Known → List Noted
noted_in start first known = map (moved_noted (start - 1) first) (map noted known.mentions.items)

-- The mentions in parts, of which the first begins at an offset. Each part has 2^32 numbers for its items, so an item keeps its number where names change.
abbrev pub all_noted : (start first : ℕ) → List (Part Known) → List Noted
all_noted start first [] = []
all_noted start first (p ∷ parts) = noted_in start first p.known ++ all_noted (moved_offset start p.size) (moved_offset first 4294967296) parts

-- these are the mentions in the parts of a text
abbrev pub AreMentioned : List (Part Known) → List Mention → Type 0
AreMentioned parts mentions = map noted mentions ≡ all_noted 0 0 parts
