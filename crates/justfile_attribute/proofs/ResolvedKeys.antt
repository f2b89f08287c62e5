-- Resolution keeps the content of an attribute, which ignores the numbers of variables.
use Rattle.std.proofs.Common.{◌≡◌, ℕ, List, Option, None, Some, refl, ap}
use Rattle.std.specs.Global.{Box}
use denote.Enum.Declared.{tag_of}
use Rattle.justfile_token.specs.declared.name.Name.{Name}
use Rattle.justfile_vocabulary.specs.contracts.attribute_kind.AttributeKind.{the_type}
use Rattle.justfile_vocabulary.specs.declared.attribute_kind.AttributeKind.TheVariants as kinds
use Rattle.justfile_numbers.specs.declared.number.Number.{Number}
use Rattle.justfile_model.specs.Trees.Key.{node, end, next, sequence, option_key, present_key}
use Rattle.justfile_expression.specs.Resolved.{IsResolved, IsResolvedOption}
use Rattle.justfile_expression.specs.declared.expression.Expression.{Expression}
use Rattle.justfile_expression.proofs.ResolvedKeys.{kept_key}
use Rattle.justfile_attribute.specs.Order.{boxed_key, content_key, count_key, literal_key, name_key, property_key, text_key, token_key}
use Rattle.justfile_attribute.specs.Resolved.{IsResolvedAttribute, IsResolvedProperty}
use Rattle.justfile_attribute.specs.declared.attribute.Attribute.{Attribute}
use Rattle.justfile_attribute.specs.declared.attribute.Attribute.TheVariants as attributes

module _ (numbers : (name : List ℕ) → Option Number) where
  kept_boxed : (resolved original : Box Expression) → IsResolved numbers resolved.value original.value → boxed_key resolved ≡ boxed_key original
  kept_boxed resolved original is = kept_key numbers resolved.value original.value is

  kept_option : (resolved original : Option (Box Expression)) → IsResolvedOption numbers resolved original → option_key boxed_key resolved ≡ option_key boxed_key original
  kept_option None None is = refl
  kept_option (Some resolved) (Some original) is = ap present_key (kept_boxed resolved original is)
  kept_option None (Some original) is = absurd is
  kept_option (Some resolved) None is = absurd is

  kept_property : (resolved original : Option (Name × Box Expression)) → IsResolvedProperty numbers resolved original
      → option_key property_key resolved ≡ option_key property_key original
  kept_property None None is = refl
  kept_property (Some resolved) (Some original) is = λ i. present_key (sequence (next (name_key (is.0 i)) (next (kept_boxed resolved.1 original.1 is.1 i) end)))
  kept_property None (Some original) is = absurd is
  kept_property (Some resolved) None is = absurd is

  pub kept_content : (resolved original : Attribute) → IsResolvedAttribute numbers resolved original → content_key resolved ≡ content_key original
  kept_content (attributes.Arg flag help property long long_key max max_key min min_key multiple name pattern short short_key value)
      (attributes.Arg flag' help' property' long' long_key' max' max_key' min' min_key' multiple' name' pattern' short' short_key' value')
      is =
      λ i. node (tag_of the_type kinds.Arg)
      (next (option_key token_key (is.0 i)) (next (option_key text_key (is.1 i)) (next (kept_property property property' is.2 i)
      (next (option_key literal_key (is.3 i)) (next (option_key name_key (is.4 i)) (next (option_key count_key (is.5 i)) (next (option_key name_key (is.6 i))
      (next (option_key count_key (is.7 i)) (next (option_key name_key (is.8 i)) (next (option_key token_key (is.9 i)) (next (literal_key (is.10 i))
      (next (kept_property pattern pattern' is.11 i) (next (option_key literal_key (is.12 i)) (next (option_key name_key (is.13 i))
      (next (kept_option value value' is.14 i) end)))))))))))))))
  kept_content (attributes.Cache extra inputs outputs) (attributes.Cache extra' inputs' outputs') is =
      λ i. node (tag_of the_type kinds.Cache) (next (kept_option extra extra' is.0 i) (next (kept_option inputs inputs' is.1 i) (next (kept_option outputs outputs' is.2 i) end)))
  kept_content (attributes.Confirm resolved) (attributes.Confirm original) is = λ i. node (tag_of the_type kinds.Confirm) (next (kept_option resolved original is i) end)
  kept_content (attributes.Doc resolved) (attributes.Doc original) is = λ i. node (tag_of the_type kinds.Doc) (next (kept_option resolved original is i) end)
  kept_content (attributes.Env name value) (attributes.Env name' value') is =
      λ i. node (tag_of the_type kinds.Env) (next (kept_boxed name name' is.0 i) (next (kept_boxed value value' is.1 i) end))
  kept_content (attributes.Timestamp resolved) (attributes.Timestamp original) is = λ i. node (tag_of the_type kinds.Timestamp) (next (kept_option resolved original is i) end)
  kept_content (attributes.WorkingDirectory resolved) (attributes.WorkingDirectory original) is =
      λ i. node (tag_of the_type kinds.WorkingDirectory) (next (kept_boxed resolved original is i) end)
  kept_content resolved original is = ap content_key is
