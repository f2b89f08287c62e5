-- Attributes of the kind `group` with one argument.
use Rattle.std.proofs.Common.{◌≡◌, ◌∙◌, List, [], ◌∷◌, ◌++◌, length, get_or, map, Option, Some, None, Ok, Result, refl, sym, ap, subst, arith}
use Rattle.std.specs.Global.{Box}
use Rattle.justfile_attribute.specs.Attribute.{leaf_attribute_of}
use Rattle.justfile_attribute.specs.declared.attribute.Attribute.{Attribute}
use Rattle.justfile_attribute_rules.specs.Made.{IsFaultOfRule, IsRefusedBy, quoted_leaf}
use Rattle.justfile_vocabulary.specs.declared.attribute_kind.AttributeKind.TheVariants as kinds
use Rattle.justfile_token.specs.declared.fault.Fault.{Fault}
use Rattle.justfile_token.specs.declared.fault.Fault.TheVariants as faults
use Rattle.justfile_token.specs.declared.name.Name.{Name}
use Rattle.justfile_token.specs.declared.string_literal.StringLiteral.{StringLiteral}
use Rattle.justfile_token.specs.declared.token.Token.{Token}
use Rattle.justfile_model.specs.Meanings.Meaning.{by_key, by_position, quoted, texts_of}
use Rattle.justfile_model.specs.Meanings.Rules.{AttributeArgumentExpression}
use Rattle.justfile_model.specs.Readers.NewAttribute.{◌>>=◌, Made, new_attribute, or_refuse}
use Rattle.justfile_model.specs.Trees.Tree as tree
use Rattle.justfile_model.specs.Trees.Tree.{Argument, Expr, Quoted}
use Rattle.justfile_written.specs.declared.written.Written.{Written}
use Rattle.justfile_parse_attribute.specs.AddedAttributes.{Adds}
use Rattle.justfile_parse_attribute.specs.ArgumentKeys.{Given}
use Rattle.justfile_parse_attribute.specs.Attributes.{IsSingle, arguments_of, keyed_of, positional_of}
use Rattle.justfile_parse_attribute.specs.declared.arguments.Arguments.{Arguments}
use Rattle.justfile_expression.specs.LeafViews.{views_leaves}
use Rattle.justfile_expression.specs.LeafTree.{Leaf, leaf_tree_of}
use Rattle.justfile_expression.specs.declared.expression.Expression.{Expression}

abbrev Placed : Type 0
Placed = Token × Box Expression

-- the only argument
pub single_is : (a : Arguments) (p : Placed) → IsSingle a → p ≡ get_or a.positional.items 0 p → arguments_of a ≡ positional_of p ∷ []
unfolding arguments_of
single_is a p h e = go a.positional.items a.keyed.items h.one h.unkeyed e
  where
    go : (ps : List Placed) (ks : List Given) → length ps ≡ 1 → ks ≡ [] → p ≡ get_or ps 0 p → map positional_of ps ++ map keyed_of ks ≡ positional_of p ∷ []
    go [] ks h k e = absurd (omega (arith, h))
    go (x ∷ []) [] h k e = ap (λ (q : Placed). positional_of q ∷ []) (sym e)
    go (x ∷ []) (given ∷ others) h k e = absurd cc
    go (x ∷ y ∷ ps) ks h k e = absurd (omega (arith, h))

-- what is made of it
abbrev of_literal : (at first : Token) → Option (Quoted Leaf) → Made Token (tree.Attribute Leaf Token)
of_literal at first (Some q) = Ok (tree.Texts kinds.Group (q ∷ []))
of_literal at first None = or_refuse None (AttributeArgumentExpression at) first

group_is : (at first : Token) (value : Expr Leaf Token) → new_attribute views_leaves at kinds.Group (record { first = first; value = value } ∷ []) [] ≡ of_literal at first (quoted value)
unfolding new_attribute
group_is at first value = go (quoted value)
  where
    go : (o : Option (Quoted Leaf)) → ((or_refuse o (AttributeArgumentExpression at) first >>= (λ q. Ok (q ∷ []))) >>= (λ texts. Ok (texts_of views_leaves kinds.Group texts))) ≡ of_literal at first o
    go None = refl
    go (Some q) = refl

-- where it is the only argument
module _ (at : Token) (given : List (Argument Leaf Token)) (p : Placed) (only : given ≡ positional_of p ∷ []) where
  abbrev made : Made Token (tree.Attribute Leaf Token)
  made = new_attribute views_leaves at kinds.Group (by_position given) (by_key given)

  made_is : (o : Option (Quoted Leaf)) → o ≡ quoted (leaf_tree_of p.1.value) → made ≡ of_literal at p.0 o
  made_is o is =
      (λ i. new_attribute views_leaves at kinds.Group (by_position (only i)) (by_key (only i))) ∙ group_is at p.0 (leaf_tree_of p.1.value) ∙ ap (of_literal at p.0) (sym is)

  pub group_added : (l : StringLiteral) (result : Result (Unit {0}) Fault) (name : Name) (old new : List (Attribute × Written)) → Some (quoted_leaf l) ≡ quoted (leaf_tree_of p.1.value)
      → Adds leaf_attribute_of result (Ok (tree.Texts kinds.Group (quoted_leaf l ∷ []))) name old new → Adds leaf_attribute_of result made name old new
  group_added l result name old new is added = subst (λ m. Adds leaf_attribute_of result m name old new) (sym (made_is (Some (quoted_leaf l)) is)) added

  pub group_refused : (fault : Fault) → None ≡ quoted (leaf_tree_of p.1.value) → IsFaultOfRule (AttributeArgumentExpression at) p.0 fault → IsRefusedBy made fault
  group_refused fault is refused = subst (λ m. IsRefusedBy m fault) (sym (made_is None is)) (go fault refused)
    where
      go : (f : Fault) → IsFaultOfRule (AttributeArgumentExpression at) p.0 f → IsRefusedBy (of_literal at p.0 None) f
      go faults.Memory h = h
      go faults.Numbers h = h
      go (faults.Compile e) h = h
