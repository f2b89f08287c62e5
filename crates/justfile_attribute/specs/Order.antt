-- The order of attributes by content: the keys of their fields in declared order, and of the parts of the fields.
use denote.Enum.Declared.{tag_of}
use Rattle.std.specs.Prelude.{ℕ, String, string_bytes}
use Rattle.std.specs.Global.{Box, Global}
use Rattle.std.specs.declared.cmp.Ordering.{Ordering}
use Rattle.justfile_vocabulary.specs.contracts.attribute_kind.AttributeKind.{the_type}
use Rattle.justfile_token.specs.declared.name.Name.{Name}
use Rattle.justfile_vocabulary.specs.declared.signal.Signal.{Signal}
use Rattle.justfile_token.specs.declared.string_literal.StringLiteral.{StringLiteral}
use Rattle.justfile_token.specs.declared.token.Token.{Token}
use Rattle.justfile_model.specs.Trees.ContentKeys.{expr_key}
use Rattle.justfile_model.specs.Trees.ContentLeaf as contents
use Rattle.justfile_model.specs.Trees.ContentLeaf.{ContentLeaf, content_cmp}
use Rattle.justfile_model.specs.Trees.Key.{Key, Keys, leaf, node, end, next, sequence, keys_of, option_key, key_cmp}
use Rattle.justfile_leaves.specs.LeafContent.{literal_content, token_content}
use Rattle.justfile_expression.specs.LeafViews.{views_leaves}
use Rattle.justfile_expression.specs.LeafTree.{leaf_tree_of}
use Rattle.justfile_expression.specs.declared.expression.Expression.{Expression}
use Rattle.justfile_attribute.specs.Form as forms
use Rattle.justfile_attribute.specs.Form.{Form, case_kind, form_of}
use Rattle.justfile_attribute.specs.declared.attribute.Attribute.{Attribute}
use Rattle.justfile_attribute.specs.declared.interpreter.Interpreter.{Interpreter}

-- the order of keys
abbrev pub by_content : Key ContentLeaf → Key ContentLeaf → Ordering
by_content = key_cmp content_cmp

abbrev pub token_key : Token → Key ContentLeaf
token_key t = leaf (contents.token (token_content t))

abbrev pub name_key : Name → Key ContentLeaf
name_key name = token_key name.token

abbrev pub literal_key : StringLiteral → Key ContentLeaf
literal_key l = leaf (contents.literal (literal_content l))

abbrev pub expression_key : Expression → Key ContentLeaf
expression_key e = expr_key views_leaves (leaf_tree_of e)

-- the key of an expression in a box
abbrev pub boxed_key : Box Expression → Key ContentLeaf
boxed_key b = expression_key b.value

abbrev pub property_key : Name × Box Expression → Key ContentLeaf
property_key p = sequence (next (name_key p.0) (next (boxed_key p.1) end))

abbrev pub count_key : ℕ → Key ContentLeaf
count_key n = leaf (contents.count n)

abbrev pub text_key : String Global → Key ContentLeaf
text_key s = leaf (contents.text (string_bytes s))

abbrev pub signal_key : Signal → Key ContentLeaf
signal_key s = leaf (contents.signal s)

abbrev pub interpreter_key : Interpreter StringLiteral → Key ContentLeaf
interpreter_key i = sequence (next (literal_key i.command) (next (sequence (keys_of literal_key i.arguments.items)) end))

-- the keys of the fields of an attribute, in declared order
abbrev pub form_keys : Form → Keys ContentLeaf
form_keys forms.Plain = end
form_keys (forms.Optional value) = next (option_key boxed_key value) end
form_keys (forms.Single value) = next (boxed_key value) end
form_keys (forms.Literal literal) = next (literal_key literal) end
form_keys (forms.Literals literals) = next (sequence (keys_of literal_key literals)) end
form_keys (forms.Env name value) = next (boxed_key name) (next (boxed_key value) end)
form_keys (forms.Signals signals) = next (sequence (keys_of signal_key signals)) end
form_keys (forms.Cache extra inputs outputs) = next (option_key boxed_key extra) (next (option_key boxed_key inputs) (next (option_key boxed_key outputs) end))
form_keys (forms.Script interpreter) = next (option_key interpreter_key interpreter) end
form_keys (forms.Arg flag help property long long_key max max_key min min_key multiple name pattern short short_key value) =
    next (option_key token_key flag) (next (option_key text_key help) (next (option_key property_key property)
    (next (option_key literal_key long) (next (option_key name_key long_key) (next (option_key count_key max) (next (option_key name_key max_key)
    (next (option_key count_key min) (next (option_key name_key min_key)
    (next (option_key token_key multiple) (next (literal_key name) (next (option_key property_key pattern)
    (next (option_key literal_key short) (next (option_key name_key short_key) (next (option_key boxed_key value) end))))))))))))))

abbrev pub case_keys : Attribute → Keys ContentLeaf
case_keys a = form_keys (form_of a)

-- the key of an attribute: its kind, and then its fields
abbrev pub content_key : Attribute → Key ContentLeaf
content_key a = node (tag_of the_type (case_kind a)) (case_keys a)

-- the order of attributes by content
abbrev pub attribute_content_cmp : Attribute → Attribute → Ordering
attribute_content_cmp a b = by_content (content_key a) (content_key b)
