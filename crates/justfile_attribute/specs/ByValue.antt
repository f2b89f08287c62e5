-- The arguments of a new attribute, by value.
use Rattle.std.specs.Prelude.{ℕ, List, map, Option}
use Rattle.std.specs.Option.{option_map}
use denote.Ref.{Bor}
use Rattle.justfile_token.specs.declared.name.Name.{Name}
use Rattle.justfile_token.specs.declared.token.Token.{Token}
use Rattle.justfile_model.specs.Meanings.Meaning.{KeyArgument, PositionalArgument}
use Rattle.justfile_expression.specs.LeafTree.{Command, Leaf, leaf_tree_of}
use Rattle.justfile_expression.specs.declared.expression.Expression.{Expression}

-- a positional argument with its first token
abbrev pub Placed : Type 0
Placed = Token × Expression

abbrev pub placed_leaf : Placed → PositionalArgument Leaf Token
placed_leaf p = record { first = p.0; value = leaf_tree_of p.1 }

abbrev pub placed_leaves : List Placed → List (PositionalArgument Leaf Token)
placed_leaves = map placed_leaf

-- an entry of a map of keys by their texts
abbrev pub GivenKey : Type 0
GivenKey = Bor (List ℕ) × (Name × Option Expression)

-- the key that a map has under this text; errors name its token
abbrev pub given_leaf : GivenKey → KeyArgument Leaf Token
given_leaf e = record { key = Command e.1.0.token e.0.now; value = option_map leaf_tree_of e.1.1 }

abbrev pub given_leaves : List GivenKey → List (KeyArgument Leaf Token)
given_leaves = map given_leaf
