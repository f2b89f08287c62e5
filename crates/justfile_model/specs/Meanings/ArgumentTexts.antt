-- Which literals among the arguments of an attribute have a text.
use Rattle.std.specs.Prelude.{◌≡◌, true, List, Option, Some}
use Rattle.std.specs.List.{All}
use Rattle.std.specs.Option.{is_some}
use Rattle.justfile_model.specs.Meanings.Meaning.{KeyArgument, PositionalArgument, quoted, quoted_text}
use Rattle.justfile_model.specs.Trees.LeafView.{LeafView}
use Rattle.justfile_model.specs.Trees.Tree.{Expr, Quoted}

module _ {A B : Type 0} (view : LeafView A B) where
  -- The expression, if it is a literal, has a text.
  abbrev pub HasText : Expr A B → Type 0
  HasText e = (q : Quoted A) → quoted e ≡ Some q → is_some (quoted_text view q) ≡ true

  abbrev pub ValueHasText : Option (Expr A B) → Type 0
  ValueHasText o = (e : Expr A B) → o ≡ Some e → HasText e

  abbrev pub KeysHaveTexts : List (KeyArgument A B) → Type 0
  KeysHaveTexts keys = All (λ (k : KeyArgument A B). ValueHasText k.value) keys

  -- Every literal among the arguments of an attribute has a text.
  pub record HasTexts (placed : List (PositionalArgument A B)) (keys : List (KeyArgument A B)) : Type 0 where
    pub values : All (λ (p : PositionalArgument A B). HasText p.value) placed
    pub given : KeysHaveTexts keys
