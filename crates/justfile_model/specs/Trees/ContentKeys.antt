-- The keys by which expressions and attributes are ordered: first by case in declaration order, then by the fields in declaration order. A
-- token counts by its kind and lexeme, regardless of its position. The number of a variable is ignored.
use Rattle.std.specs.Prelude.{ℕ, Bool, true, false, List, [], ◌∷◌, Option, codes}
use denote.Enum.Declared.{tag_of}
use Rattle.std.specs.List.{list_any}
use Rattle.std.specs.declared.cmp.Ordering.{Ordering}
use Rattle.justfile_vocabulary.specs.contracts.attribute_kind.AttributeKind as attribute_kinds
use Rattle.justfile_vocabulary.specs.declared.attribute_kind.AttributeKind.{AttributeKind}
use Rattle.justfile_vocabulary.specs.declared.attribute_kind.AttributeKind.TheVariants as attributes
use Rattle.justfile_vocabulary.specs.declared.token_kind.TokenKind.{TokenKind}
use Rattle.justfile_vocabulary.specs.declared.token_kind.TokenKind.TheVariants as kinds
use Rattle.justfile_model.specs.Meanings.AttributeKinds.{TextsForm, ApartForm, RowForm, CommandForm, is_optional, kind_form, same_attribute}
use Rattle.justfile_model.specs.Trees.ConditionalOperator.{operator_sign}
use Rattle.justfile_model.specs.Trees.ContentLeaf.{ContentLeaf, token, literal, operator, text, count, signal, unseen, content_cmp}
use Rattle.justfile_model.specs.Grammars.Expressions.{operator_kind}
use Rattle.justfile_model.specs.Trees.ExpressionCases.{case_node}
use Rattle.justfile_model.specs.Trees.Key.{Key, Keys, leaf, node, end, next, sequence, keys_of, absent_key, present_key, option_key, key_cmp}
use Rattle.justfile_model.specs.declared.expression_case.ExpressionCase.TheVariants as cases
use Rattle.justfile_model.specs.LiteralTexts.Literals as literals
use Rattle.justfile_model.specs.LiteralTexts.Literals.{Literal, string_of}
use Rattle.justfile_model.specs.Trees.LeafView.{LeafView, or_empty}
use Rattle.justfile_model.specs.Trees.Tree as tree
use Rattle.justfile_model.specs.Trees.Tree.{Expr, Exprs, Parts, Quoted, OptionName, Property, Bound, ArgumentRules, Attribute, Entry}

abbrev pub kind_of_attribute : {A B : Type 0} → Attribute A B → AttributeKind
kind_of_attribute (tree.Plain kind) = kind
kind_of_attribute (tree.Single kind value) = kind
kind_of_attribute (tree.Texts kind texts) = kind
kind_of_attribute (tree.Env key value) = attributes.Env
kind_of_attribute (tree.Signals given) = attributes.Continue
kind_of_attribute (tree.Cache extra inputs outputs) = attributes.Cache
kind_of_attribute (tree.Arg rules) = attributes.Arg

-- one of the attributes has this kind
abbrev pub has_attribute : {A B : Type 0} → AttributeKind → List (Entry A B) → Bool
has_attribute kind entries = list_any (λ (e : Entry _ _). same_attribute (kind_of_attribute e.attribute) kind) entries

module _ {A B : Type 0} (view : LeafView A B) where
  abbrev pub name_key : A → Key ContentLeaf
  name_key name = leaf (token (view.leaf_content kinds.Identifier name))

  -- the key of a token whose kind and lexeme are determined by the grammar
  abbrev pub position_key : TokenKind → List ℕ → B → Key ContentLeaf
  position_key kind spelled position = leaf (token (view.position_content kind spelled position))

  abbrev pub literal_key : Literal A → Key ContentLeaf
  literal_key l = leaf (literal (view.literal_content l))

  -- the cases are those of the code's expressions: there an assertion with a message and one without are one case, for example
  abbrev mutual
    pub expr_key : Expr A B → Key ContentLeaf
    expr_key (tree.And l r) = case_node cases.And (next (expr_key l) (next (expr_key r) end))
    expr_key (tree.Assert name c) =
        case_node cases.Assert (next (expr_key c) (next absent_key (next (position_key kinds.Identifier (codes "assert") name) end)))
    expr_key (tree.AssertMessage name c m) =
        case_node cases.Assert (next (expr_key c) (next (present_key (expr_key m)) (next (position_key kinds.Identifier (codes "assert") name) end)))
    expr_key (tree.Backtick command) =
        case_node cases.Backtick (next (leaf (text (or_empty (view.cooked (literals.Command command)))))
        (next (leaf (token (view.leaf_content kinds.Backtick command))) end))
    expr_key (tree.Call name arguments) = case_node cases.Call (next (name_key name) (next (sequence (exprs_keys arguments)) end))
    expr_key (tree.Comparison l o position r) =
        case_node cases.Comparison (next (expr_key l) (next (leaf (operator o)) (next (expr_key r)
        (next (position_key (operator_kind o) (operator_sign o) position) end))))
    expr_key (tree.Concatenation l position r) =
        case_node cases.Concatenation (next (expr_key l) (next (position_key kinds.Plus (codes "+") position) (next (expr_key r) end)))
    expr_key (tree.If c b) = case_node cases.Conditional (next (expr_key c) (next (expr_key b) (next absent_key end)))
    expr_key (tree.IfElse c b o) = case_node cases.Conditional (next (expr_key c) (next (expr_key b) (next (present_key (expr_key o)) end)))
    expr_key (tree.FormatLiteral l) = case_node cases.FormatString (next (literal_key (literals.Single l)) (next (sequence end) end))
    expr_key (tree.FormatString start e parts) =
        case_node cases.FormatString (next (literal_key (literals.Start start)) (next (sequence (parts_keys start (expr_key e) parts)) end))
    expr_key (tree.Group e) = case_node cases.Group (next (expr_key e) end)
    expr_key (tree.Root position r) =
        case_node cases.Join (next absent_key (next (position_key kinds.Slash (codes "/") position) (next (expr_key r) end)))
    expr_key (tree.Join l position r) =
        case_node cases.Join (next (present_key (expr_key l)) (next (position_key kinds.Slash (codes "/") position) (next (expr_key r) end)))
    expr_key (tree.ListOf opener elements) =
        case_node cases.List (next (sequence (exprs_keys elements)) (next (position_key kinds.BracketL (codes "[") opener) end))
    expr_key (tree.ListConcatenation l position r) =
        case_node cases.ListConcatenation (next (expr_key l) (next (position_key kinds.PlusPlus (codes "++") position) (next (expr_key r) end)))
    expr_key (tree.Not e) = case_node cases.Not (next (expr_key e) end)
    expr_key (tree.Or l r) = case_node cases.Or (next (expr_key l) (next (expr_key r) end))
    expr_key (tree.StringLiteral expanded l) = case_node cases.StringLiteral (next (literal_key (string_of expanded l)) end)
    expr_key (tree.Variable name) = case_node cases.Variable (next (name_key name) (next (leaf unseen) end))

    pub exprs_keys : Exprs A B → Keys ContentLeaf
    exprs_keys tree.none = end
    exprs_keys (tree.more e others) = next (expr_key e) (exprs_keys others)

    -- the keys of the parts of a format string: each is an expression and the literal part after it
    pub parts_keys : (start : A) → Key ContentLeaf → Parts A B → Keys ContentLeaf
    parts_keys start e (tree.Last part) = next (sequence (next e (next (literal_key (literals.End start part)) end))) end
    parts_keys start e (tree.Continue part f parts) =
        next (sequence (next e (next (literal_key (literals.Continue start part)) end))) (parts_keys start (expr_key f) parts)

  abbrev pub quoted_key : Quoted A → Key ContentLeaf
  quoted_key q = literal_key (string_of q.expanded q.token)

  -- the key of an option's name, which is the argument's name if the key has no value
  abbrev pub option_name_key : (argument : Quoted A) → OptionName A B → Key ContentLeaf
  option_name_key argument tree.NoOption = absent_key
  option_name_key argument (tree.OwnName key) = present_key (quoted_key argument)
  option_name_key argument (tree.Named name) = present_key (quoted_key name)

  -- the key of an attribute's key with this name
  abbrev pub word_key : List ℕ → B → Key ContentLeaf
  word_key word key = position_key kinds.Identifier word key

  -- the key of an attribute's key without a value; absent if the attribute doesn't have the key, or has it with a value
  abbrev pub own_name_key : (word : List ℕ) → OptionName A B → Key ContentLeaf
  own_name_key word tree.NoOption = absent_key
  own_name_key word (tree.OwnName key) = present_key (word_key word key)
  own_name_key word (tree.Named name) = absent_key

  abbrev pub property_key : (word : List ℕ) → Property A B → Key ContentLeaf
  property_key word p = sequence (next (word_key word p.key) (next (expr_key p.value) end))

  abbrev pub bound_number_key : Option (Bound B) → Key ContentLeaf
  bound_number_key = option_key (λ (b : Bound B). leaf (count b.number))

  abbrev pub bound_word_key : (word : List ℕ) → Option (Bound B) → Key ContentLeaf
  bound_word_key word = option_key (λ (b : Bound B). word_key word b.key)

  -- The second field, the help text that is evaluated later, is always absent.
  abbrev pub rules_keys : ArgumentRules A B → Keys ContentLeaf
  rules_keys a =
      next (option_key (word_key (codes "flag")) a.flag) (next absent_key (next (option_key (property_key (codes "help")) a.help)
      (next (option_name_key a.name a.long) (next (own_name_key (codes "long") a.long)
      (next (bound_number_key a.max) (next (bound_word_key (codes "max") a.max)
      (next (bound_number_key a.min) (next (bound_word_key (codes "min") a.min)
      (next (option_key (word_key (codes "multiple")) a.multiple) (next (quoted_key a.name) (next (option_key (property_key (codes "pattern")) a.pattern)
      (next (option_name_key a.name a.short) (next (own_name_key (codes "short") a.short) (next (option_key expr_key a.value) end))))))))))))))

  -- the keys of literals, as they are held
  abbrev pub texts_keys : TextsForm → List (Quoted A) → Keys ContentLeaf
  texts_keys ApartForm texts = keys_of quoted_key texts
  texts_keys RowForm texts = next (sequence (keys_of quoted_key texts)) end
  texts_keys CommandForm [] = end
  texts_keys CommandForm (command ∷ arguments) = next (present_key (sequence (next (quoted_key command) (next (sequence (keys_of quoted_key arguments)) end)))) end

  abbrev pub plain_keys : (optional : Bool) → Keys ContentLeaf
  plain_keys true = next absent_key end
  plain_keys false = end

  abbrev pub single_keys : (optional : Bool) → Key ContentLeaf → Keys ContentLeaf
  single_keys true k = next (present_key k) end
  single_keys false k = next k end

  abbrev pub attribute_keys : Attribute A B → Keys ContentLeaf
  attribute_keys (tree.Plain kind) = plain_keys (is_optional kind)
  attribute_keys (tree.Single kind value) = single_keys (is_optional kind) (expr_key value)
  attribute_keys (tree.Texts kind texts) = texts_keys (kind_form kind).texts texts
  attribute_keys (tree.Env key value) = next (expr_key key) (next (expr_key value) end)
  attribute_keys (tree.Signals given) = next (sequence (keys_of (λ s. leaf (signal s)) given)) end
  attribute_keys (tree.Cache extra inputs outputs) = next (option_key expr_key extra) (next (option_key expr_key inputs) (next (option_key expr_key outputs) end))
  attribute_keys (tree.Arg rules) = rules_keys rules

  abbrev pub attribute_key : Attribute A B → Key ContentLeaf
  attribute_key a = node (tag_of attribute_kinds.the_type (kind_of_attribute a)) (attribute_keys a)

  -- the order of two attributes of an item by content, regardless of their positions
  abbrev pub entry_cmp : Entry A B → Entry A B → Ordering
  entry_cmp d e = key_cmp content_cmp (attribute_key d.attribute) (attribute_key e.attribute)
