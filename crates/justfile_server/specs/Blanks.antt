-- A text without what is wrong.
use Rattle.std.specs.Prelude.{ℕ, ◌-◌, Bool, true, false, List, [], ◌∷◌, ◌++◌, Option, None, Some, map, take, drop, min, length, nat_eq, slice_get}
use Rattle.text_parts.specs.declared.part.Part.{Part}
use Rattle.editor_language.specs.declared.parts.Item.{Item}
use Rattle.editor_language.specs.declared.parts.Known.{Known}
use Rattle.editor_language.specs.declared.parts.PartProblem.{PartProblem}

-- a blank stands for a byte, and a line feed for a line feed
abbrev pub blank_if : Bool → ℕ
blank_if true = 10
blank_if false = 32

abbrev pub blank_for : ℕ → ℕ
blank_for byte = blank_if (nat_eq byte 10)

-- where an item ends
abbrev pub end_of : Option Item → ℕ
end_of None = 0
end_of (Some i) = i.span.end

abbrev pub end_of_last : List Item → ℕ
end_of_last items = end_of (slice_get items (length items - 1))

-- how much of a part of this length is kept, which was read with so many bytes before it: all, or what is up to its last item
abbrev pub kept_if : (before length : ℕ) → List Item → Option PartProblem → ℕ
kept_if before length items None = length
kept_if before length items (Some problem) = min (end_of_last items - before) length

abbrev pub kept_of : (before length : ℕ) → Known → ℕ
kept_of before length known = kept_if before length known.items.items known.problem

-- the text of a part, with blanks for what isn't kept
abbrev pub part_in : (before : ℕ) → Known → List ℕ → List ℕ
part_in before known text = let kept = kept_of before (length text) known in take kept text ++ map blank_for (drop kept text)

-- the text with blanks for what is wrong in its parts
abbrev pub without_wrong : (before : ℕ) → List (Part Known) → List ℕ → List ℕ
without_wrong before [] text = []
without_wrong before (p ∷ parts) text = part_in before p.known (take p.size text) ++ without_wrong 1 parts (drop p.size text)
