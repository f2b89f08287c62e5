-- What a survey shows of items.
use Rattle.std.specs.Prelude.{◌≡◌, ℕ, Bool, List, ◌++◌, IfSome, map, All, string_bytes}
use Rattle.justfile_vocabulary.specs.declared.item_kind.ItemKind.{ItemKind}
use Rattle.justfile_recovery.specs.Places.{LiesIn}
use Rattle.justfile_chunks.specs.declared.span.Span.{Span}
use Rattle.justfile_survey.specs.declared.surveys.SurveyedItem.{SurveyedItem}

-- a kind of item, a name, whether lists omit it, and where the name is
pub record Seen : Type 0 where
  pub kind : ItemKind
  pub name : List ℕ
  pub is_private : Bool
  pub place : Span

-- what a surveyed item shows
abbrev pub seen : SurveyedItem → Seen
seen s = record { kind = s.kind; name = string_bytes s.name; is_private = s.is_private; place = s.name_span }

-- all places of an item lie in a text of this length
pub record PlacesIn (length : ℕ) (s : SurveyedItem) : Type 0 where
  pub name : LiesIn length s.name_span
  pub lines : LiesIn length s.span
  pub body : IfSome s.body (LiesIn length)

-- items with these views were appended, with places in a text of this length
pub record Adds (length : ℕ) (new old : List SurveyedItem) (views : List Seen) : Type 0 where
  pub more : List SurveyedItem
  pub is : new ≡ old ++ more
  pub views_are : map seen more ≡ views
  pub places : All (PlacesIn length) more
