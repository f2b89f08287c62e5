-- Parts of a text that are right by what was read to find them.
use Rattle.std.specs.Prelude.{◌≡◌, ℕ, ◌-◌, Bool, true, false, List, [], ◌∷◌, ◌++◌, length, slice_index}
use Rattle.justfile_vocabulary.specs.ByteNames as byte
use Rattle.justfile_model.specs.Grammars.Conditions.{Conditions}
use Rattle.justfile_model.specs.Lexing.BlankLines.{is_blank_or_line_end}
use Rattle.justfile_round_trip.specs.RoundTrip.{TextDerives}
use Rattle.justfile_chunks.specs.Parts.{IsRead}
use Rattle.text_parts.specs.declared.part.Part.{Part}
use Rattle.justfile_analysis.specs.RightParts.{AreRight, Read, end_of}

-- The part was read to the end of the text, and it ends there.
pub record IsSeenToEnd (conditions : Conditions) (is_first : Bool) (seen : List ℕ) (r : Read) : Type 0 where
  pub derives : TextDerives conditions seen r.tree r.features
  pub size_is : end_of is_first r ≡ length seen

-- The part was read one byte further: up to the first byte of the next one, which begins at once, on a line of its own.
pub record IsSeenFurther (conditions : Conditions) (is_first : Bool) (seen : List ℕ) (r : Read) : Type 0 where
  pub text : List ℕ
  pub next : ℕ
  pub seen_is : seen ≡ text ++ (next ∷ [])
  pub read : IsRead conditions text next r.tree r.features
  pub size_is : end_of is_first r ≡ length text
  pub is_other : is_blank_or_line_end next ≡ false
  pub feed : slice_index text (length text - 1) ≡ byte.line_feed

-- The part is right, by what was read to find it, and by whether the end of the text was noticed.
abbrev pub IsSeen : Conditions → (is_first : Bool) (seen : List ℕ) (sees_end : Bool) → Read → Type 0
IsSeen conditions is_first seen true r = IsSeenToEnd conditions is_first seen r
IsSeen conditions is_first seen false r = IsSeenFurther conditions is_first seen r

-- what is known of a part, which may be the first one, and of what it was read as
abbrev pub IsKnown : Type 0 → Type 1
IsKnown K = (is_first : Bool) → Part K → Read → Type 0

-- The part has this size, and is right, as what something is known about.
pub record IsAsRead {K : Type 0} (conditions : Conditions) (About : IsKnown K) (is_first : Bool) (seen : List ℕ) (sees_end : Bool) (p : Part K) : Type 0 where
  pub r : Read
  pub size_is : r.size ≡ p.size
  pub is_seen : IsSeen conditions is_first seen sees_end r
  pub about : About is_first p r

-- something is known about each part
abbrev pub AreAbout : {K : Type 0} → IsKnown K → (is_first : Bool) → List (Part K) → List Read → Type 0
AreAbout About is_first [] [] = Unit {0}
AreAbout About is_first (p ∷ parts) (r ∷ rs) = About is_first p r × AreAbout About false parts rs
AreAbout About is_first _ _ = ⊥

-- The parts of what is left of a text are right, and each is what something is known about.
pub record AreAsRead {K : Type 0} (conditions : Conditions) (About : IsKnown K) (is_first : Bool) (rest : List ℕ) (parts : List (Part K)) : Type 0 where
  pub rs : List Read
  pub are_right : AreRight conditions is_first rest rs
  pub about : AreAbout About is_first parts rs
