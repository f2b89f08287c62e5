-- A copy of an attribute has the same key as its original.
use Rattle.std.proofs.Common.{◌≡◌, ◌∙◌, Option, Some, None, refl, sym, ap}
use Rattle.std.specs.Global.{Box}
use denote.Enum.Declared.{tag_of}
use Rattle.justfile_token.specs.declared.name.Name.{Name}
use Rattle.justfile_vocabulary.specs.contracts.attribute_kind.AttributeKind.{the_type}
use Rattle.justfile_vocabulary.specs.declared.attribute_kind.AttributeKind.TheVariants as kinds
use Rattle.justfile_model.specs.Trees.ContentKeys.{attribute_key, expr_key}
use Rattle.justfile_model.specs.Trees.ContentLeaf as contents
use Rattle.justfile_model.specs.Trees.ContentLeaf.{ContentLeaf}
use Rattle.justfile_model.specs.Trees.Key.{Key, leaf, node, end, next, sequence, option_key, present_key}
use Rattle.justfile_expression.specs.LeafViews.{views_leaves}
use Rattle.justfile_expression.specs.declared.expression.Expression.{Expression}
use Rattle.justfile_token.specs.Copies.{IsSameIfPresent, IsSameText}
use Rattle.justfile_expression.specs.Copies.{IsSameBoxed}
use Rattle.justfile_attribute.specs.Copies.{IsSameAttribute, IsSameProperty}
use Rattle.justfile_token.specs.StringLiteral.{IsSameLiteral}
use Rattle.justfile_attribute.specs.New.{HasDerivedAttributeFields}
use Rattle.justfile_attribute.specs.Form.{case_kind}
use Rattle.justfile_attribute.specs.Order.{boxed_key, content_key, count_key, literal_key, name_key, property_key, text_key, token_key}
use Rattle.justfile_attribute.specs.declared.attribute.Attribute.{Attribute}
use Rattle.justfile_attribute.specs.declared.attribute.Attribute.TheVariants as attributes
use Rattle.justfile_attribute.proofs.Ordered.{key_is, same_literal_key}
use Rattle.justfile_attribute_set.proofs.CopiedAttributes.{same_attribute_tree, same_boxed}

same_options : {X : Type 0} (R : X → X → Type 0) (key_of : X → Key ContentLeaf) → ((copy original : X) → R copy original → key_of copy ≡ key_of original)
    → (copy original : Option X) → IsSameIfPresent R copy original → option_key key_of copy ≡ option_key key_of original
same_options R key_of each None None same = refl
same_options R key_of each (Some copy) (Some original) same = ap present_key (each copy original same)
same_options R key_of each None (Some original) same = absurd same
same_options R key_of each (Some copy) None same = absurd same

same_expression : (copy original : Box Expression) → IsSameBoxed copy original → boxed_key copy ≡ boxed_key original
same_expression copy original same = ap (expr_key views_leaves) (same_boxed copy original same)

same_property : (copy original : Name × Box Expression) → IsSameProperty copy original → property_key copy ≡ property_key original
same_property copy original same = λ i. sequence (next (name_key (same.0 i)) (next (same_expression copy.1 original.1 same.1 i) end))

-- `arg` attributes, field by field
same_arg : (copy original : Attribute) → case_kind copy ≡ kinds.Arg → IsSameAttribute copy original → content_key copy ≡ content_key original
same_arg (attributes.Arg flag help property long long_key max max_key min min_key multiple name pattern short short_key value)
    (attributes.Arg flag' help' property' long' long_key' max' max_key' min' min_key' multiple' name' pattern' short' short_key' value')
    is same =
    λ i. node (tag_of the_type kinds.Arg)
    (next (option_key token_key (same.fields.0 i)) (next (same_options IsSameText text_key (λ c o e. ap (λ bytes. leaf (contents.text bytes)) e) help help' same.fields.1 i)
    (next (same_options IsSameProperty property_key same_property property property' same.fields.2 i)
    (next (same_options IsSameLiteral literal_key same_literal_key long long' same.fields.3 i) (next (option_key name_key (same.fields.4 i))
    (next (option_key count_key (same.fields.5 i)) (next (option_key name_key (same.fields.6 i)) (next (option_key count_key (same.fields.7 i)) (next (option_key name_key (same.fields.8 i))
    (next (option_key token_key (same.fields.9 i)) (next (same_literal_key name name' same.fields.10 i)
    (next (same_options IsSameProperty property_key same_property pattern pattern' same.fields.11 i)
    (next (same_options IsSameLiteral literal_key same_literal_key short short' same.fields.12 i) (next (option_key name_key (same.fields.13 i))
    (next (same_options IsSameBoxed boxed_key same_expression value value' same.fields.14 i) end)))))))))))))))
same_arg (attributes.Arg flag help property long long_key max max_key min min_key multiple name pattern short short_key value) _ is same = absurd same.fields
same_arg _ original is same = absurd cc

-- ---- all other attributes, by their trees

other_whole : (a : Attribute) → (case_kind a ≡ kinds.Arg → ⊥) → HasDerivedAttributeFields a
other_whole (attributes.Arg flag help property long long_key max max_key min min_key multiple name pattern short short_key value) other = absurd (other refl)
other_whole _ other = tt

same_other : (copy original : Attribute) → (case_kind copy ≡ kinds.Arg → ⊥) → IsSameAttribute copy original → content_key copy ≡ content_key original
same_other copy original other same =
    sym (key_is copy (other_whole copy other)) ∙ ap (attribute_key views_leaves) (same_attribute_tree copy original same)
    ∙ key_is original (other_whole original (λ e. other (same.kind ∙ e)))

pub same_content : (copy original : Attribute) → IsSameAttribute copy original → content_key copy ≡ content_key original
same_content (attributes.Arg flag help property long long_key max max_key min min_key multiple name pattern short short_key value) original same =
    same_arg (attributes.Arg flag help property long long_key max max_key min min_key multiple name pattern short short_key value) original refl same
same_content copy original same = same_other copy original (λ e. absurd cc) same
