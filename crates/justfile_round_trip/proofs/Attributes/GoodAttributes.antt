-- Good attributes: each name has the properties of its token, and each value derives back.
use Rattle.std.proofs.Common.{◌≡◌, ℕ, Bool, true, false, List}
use Rattle.std.specs.List.{AllByRecursion}
use Rattle.justfile_model.specs.Meanings.AttributeKinds.{name_takes_keys}
use Rattle.justfile_model.specs.Printed.PrintedAttributes.{rewritten_entry, rewritten_entries}
use Rattle.justfile_model.specs.Trees.Tree.{StringLiteral, Positional, Bare, Keyed}
use Rattle.justfile_round_trip.proofs.Canon.{Value}
use Rattle.justfile_round_trip.proofs.Attributes.CanonAttributes.{Argument, Written, ShapeEntry}
use Rattle.justfile_round_trip.proofs.LiteralTexts.Inline.{IsName}
use Rattle.justfile_round_trip.proofs.Good.{GoodExpression, GoodOptionalComment}

-- a string literal, which isn't a key
abbrev pub is_literal : Value → Bool
is_literal (StringLiteral expanded l) = true
is_literal _ = false

module _ (limit : ℕ) where
  -- an argument of an attribute that takes keys or not; where it does, those by position are literals
  abbrev pub GoodArgument : (keys : Bool) → Argument → Type 0
  GoodArgument keys (Positional first value) = GoodExpression limit value × (keys ≡ true → is_literal value ≡ true)
  GoodArgument keys (Bare key) = IsName key × (keys ≡ true)
  GoodArgument keys (Keyed key value) = IsName key × (keys ≡ true) × GoodExpression limit value

  abbrev pub GoodArguments : (keys : Bool) → List Argument → Type 0
  GoodArguments keys = AllByRecursion (GoodArgument keys)

  -- an attribute as it is written where it is printed
  pub record GoodWritten (w : Written) : Type 0 where
    pub named : IsName w.name
    pub arguments : GoodArguments (name_takes_keys w.name) w.arguments
    pub comment : GoodOptionalComment w.comment

  abbrev pub AllGoodWritten : List Written → Type 0
  AllGoodWritten = AllByRecursion GoodWritten

  -- attributes by their meaning: their printed form is good
  abbrev pub GoodEntry : ShapeEntry → Type 0
  GoodEntry e = GoodWritten (rewritten_entry e)

  abbrev pub GoodEntries : List ShapeEntry → Type 0
  GoodEntries entries = AllGoodWritten (rewritten_entries entries)
