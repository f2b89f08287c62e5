-- Every literal among the arguments of an attribute has a text, since its leaf has one.
use Rattle.std.proofs.Common.{◌≡◌, Bool, true, false, List, get_or, Option, Some, None, refl, subst}
use Rattle.std.specs.Option.{is_some, option_map}
use Rattle.std.proofs.lemmas.List.Elements.{All-map}
use Rattle.justfile_token.specs.declared.token.Token.{Token}
use Rattle.justfile_model.specs.Meanings.ArgumentTexts.{ValueHasText, HasText, HasTexts}
use Rattle.justfile_model.specs.Meanings.Meaning.{KeyArgument, PositionalArgument, quoted, quoted_text}
use Rattle.justfile_model.specs.Trees.Tree.{Expr, Quoted}
use Rattle.justfile_expression.specs.LeafTree.{Leaf, Literal, LiteralText, leaf_tree_of, literal_of}
use Rattle.justfile_expression.specs.declared.expression.Expression.{Expression, StringLiteral}
use Rattle.justfile_attribute.specs.ByValue.{GivenKey, Placed, given_leaf, given_leaves, placed_leaf, placed_leaves}
use Rattle.justfile_attribute_rules.specs.Keys.{views_keys}
use Rattle.justfile_attribute_rules.proofs.Quoted.{not_quoted}

literal_text : (expanded : Bool) (l : LiteralText) → is_some (quoted_text views_keys (record { expanded = expanded; token = Literal l })) ≡ true
literal_text true l = refl
literal_text false l = refl

no_literal : (e : Expr Leaf Token) → quoted e ≡ None → HasText views_keys e
no_literal e none q is = cc

expression_text : (e : Expression) → HasText views_keys (leaf_tree_of e)
expression_text (StringLiteral l) q is =
    let same : record { expanded = l.expand; token = Literal (literal_of l) } ≡ q = cc in
    subst (λ (q : Quoted Leaf). is_some (quoted_text views_keys q) ≡ true) same (literal_text l.expand (literal_of l))
expression_text e q is = no_literal (leaf_tree_of e) (not_quoted e (λ l h. cc)) q is

given_text : (o : Option Expression) → ValueHasText views_keys (option_map leaf_tree_of o)
given_text None e is = cc
given_text (Some value) e is = let same : leaf_tree_of value ≡ e = cc in subst (HasText views_keys) same (expression_text value)

pub have_texts : (placed : List Placed) (keys : List GivenKey) → HasTexts views_keys (placed_leaves placed) (given_leaves keys)
have_texts placed keys = record {
  values = All-map (λ (p : PositionalArgument Leaf Token). HasText views_keys p.value) placed_leaf placed (λ k d lt. expression_text (get_or placed k d).1);
  given = All-map (λ (k : KeyArgument Leaf Token). ValueHasText views_keys k.value) given_leaf keys (λ k d lt. given_text (get_or keys k d).1.1);
}
