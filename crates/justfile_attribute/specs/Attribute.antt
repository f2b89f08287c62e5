-- The tree of an attribute: the definitions' view of the code's type.
use Rattle.std.specs.Prelude.{ℕ, List, [], ◌∷◌, map, Option, Some, None}
use Rattle.std.specs.Global.{Box}
use Rattle.std.specs.Option.{option_map}
use Rattle.justfile_vocabulary.specs.declared.attribute_kind.AttributeKind.{AttributeKind}
use Rattle.justfile_vocabulary.specs.declared.attribute_kind.AttributeKind.TheVariants as kinds
use Rattle.justfile_token.specs.declared.name.Name.{Name}
use Rattle.justfile_token.specs.declared.string_literal.StringLiteral.{StringLiteral}
use Rattle.justfile_token.specs.declared.token.Token.{Token}
use Rattle.justfile_model.specs.Lexing.Tok.{Tok, tok_of}
use Rattle.justfile_model.specs.Trees.Tree as tree
use Rattle.justfile_model.specs.Trees.Tree.{Expr, Quoted, OptionName, Property, Bound, lexeme, nothing, over_attribute}
use Rattle.justfile_expression.specs.Expression.{expr_of, literal_tok}
use Rattle.justfile_expression.specs.LeafTree.{Leaf, Literal, leaf_tree_of, literal_of}
use Rattle.justfile_expression.specs.declared.expression.Expression.{Expression}
use Rattle.justfile_attribute.specs.Form as forms
use Rattle.justfile_attribute.specs.Form.{Form, case_kind, form_of}
use Rattle.justfile_attribute.specs.declared.attribute.Attribute.{Attribute}
use Rattle.justfile_attribute.specs.declared.interpreter.Interpreter.{Interpreter}

-- by functions for the trees of expressions, the leaves of literals, and what a tree keeps of other tokens
module _ {A B : Type 0} (expression : Expression → Expr A B) (leaf : StringLiteral → A) (position : Token → B) where
  abbrev pub quoted_by : StringLiteral → Quoted A
  quoted_by l = record { expanded = l.expand; token = leaf l }

  -- the name of an option; a key without a value gives the parameter's name, whatever the literal
  abbrev pub option_by : (key : Option Name) → Option StringLiteral → OptionName A B
  option_by (Some key) literal = tree.OwnName (position key.token)
  option_by None (Some literal) = tree.Named (quoted_by literal)
  option_by None None = tree.NoOption

  abbrev pub property_by : Name × Box Expression → Property A B
  property_by p = record { key = position p.0.token; value = expression p.1.value }

  -- a number with its key, or with the token of the parameter's name if it has no key
  abbrev pub bound_by : (name : StringLiteral) → (key : Option Name) → Option ℕ → Option (Bound B)
  bound_by name key None = None
  bound_by name (Some key) (Some number) = Some (record { key = position key.token; number = number })
  bound_by name None (Some number) = Some (record { key = position name.token; number = number })

  -- an attribute with one expression, or without arguments
  abbrev pub single_by : (kind : AttributeKind) → Option (Box Expression) → tree.Attribute A B
  single_by kind None = tree.Plain kind
  single_by kind (Some e) = tree.Single kind (expression e.value)

  abbrev pub script_by : Option (Interpreter StringLiteral) → tree.Attribute A B
  script_by None = tree.Plain kinds.Script
  script_by (Some interpreter) = tree.Texts kinds.Script (quoted_by interpreter.command ∷ map quoted_by interpreter.arguments.items)

  -- an attribute of this kind
  abbrev pub formed_by : AttributeKind → Form → tree.Attribute A B
  formed_by kind forms.Plain = tree.Plain kind
  formed_by kind (forms.Optional value) = single_by kind value
  formed_by kind (forms.Single value) = tree.Single kind (expression value.value)
  formed_by kind (forms.Literal literal) = tree.Texts kind (quoted_by literal ∷ [])
  formed_by kind (forms.Literals literals) = tree.Texts kind (map quoted_by literals)
  formed_by kind (forms.Env key value) = tree.Env (expression key.value) (expression value.value)
  formed_by kind (forms.Signals signals) = tree.Signals signals
  formed_by kind (forms.Cache extra inputs outputs) = tree.Cache (option_map (λ (e : Box Expression). expression e.value) extra)
      (option_map (λ (e : Box Expression). expression e.value) inputs) (option_map (λ (e : Box Expression). expression e.value) outputs)
  formed_by kind (forms.Script interpreter) = script_by interpreter
  formed_by kind (forms.Arg flag help help_property long long_key max max_key min min_key multiple name pattern short short_key value) =
      tree.Arg (record {
        flag = option_map position flag;
        help = option_map property_by help_property;
        long = option_by long_key long;
        max = bound_by name max_key max;
        min = bound_by name min_key min;
        multiple = option_map position multiple;
        name = quoted_by name;
        pattern = option_map property_by pattern;
        short = option_by short_key short;
        value = option_map (λ (e : Box Expression). expression e.value) value;
      })

  abbrev pub attribute_by : Attribute → tree.Attribute A B
  attribute_by a = formed_by (case_kind a) (form_of a)

-- a literal as a leaf of the parser's trees
abbrev pub literal_leaf : StringLiteral → Leaf
literal_leaf l = Literal (literal_of l)

-- the tree of an attribute with all fields of the parser's leaves
abbrev pub leaf_attribute_of : Attribute → tree.Attribute Leaf Token
leaf_attribute_of = attribute_by leaf_tree_of literal_leaf (λ t. t)

-- the tree of an attribute
abbrev pub attribute_of : Attribute → tree.Attribute Tok Tok
attribute_of = attribute_by expr_of literal_tok tok_of

-- the shape of an attribute: its tree with lexemes in place of tokens
abbrev pub attribute_shape : Attribute → tree.Attribute (List ℕ) (Unit {0})
attribute_shape a = over_attribute lexeme nothing (attribute_of a)
