use Rattle.std.proofs.Common.{◌∙◌}
use Rattle.justfile_model.specs.Trees.Key.{option_key}
use Rattle.justfile_attribute.specs.Order.{boxed_key, by_content, count_key, literal_key, name_key, property_key, text_key, token_key}
use Rattle.justfile_attribute.proofs.Ordered.{chained, then_are}
use Rattle.justfile_attribute.proofs.order.compare_arg.Goals as goal

pub returns : goal.returns
returns c =
    rw c.in-Arg.is
    (rw c.in-Arg-other.is
    (then_are _ (then_are _ (then_are _ (then_are _ (then_are _ (then_are _ (then_are _ (then_are _ (then_are _
    (then_are _ c.compare_tokens.ensures c.compare_texts.ensures c.then.ensures)
    c.compare_properties.ensures c.then-in-Arg-other.ensures)
    c.compare_named.ensures c.then-in-Arg-other-2.ensures)
    c.compare_bounds.ensures c.then-in-Arg-other-3.ensures)
    c.compare_bounds-in-Arg-other.ensures c.then-in-Arg-other-4.ensures)
    c.compare_tokens-in-Arg-other.ensures c.then-in-Arg-other-5.ensures)
    c.literal_content_cmp.ensures c.then-in-Arg-other-6.ensures)
    c.compare_properties-in-Arg-other.ensures c.then-in-Arg-other-7.ensures)
    c.compare_named-in-Arg-other.ensures c.then-in-Arg-other-8.ensures)
    c.compare_optional.ensures c.then-in-Arg-other-9.ensures
    ∙ chained
    (by_content (option_key token_key c.in-Arg.flag) (option_key token_key c.in-Arg-other.other_flag))
    (by_content (option_key text_key c.in-Arg.help) (option_key text_key c.in-Arg-other.other_help))
    (by_content (option_key property_key c.in-Arg.help_property) (option_key property_key c.in-Arg-other.other_property))
    (by_content (option_key literal_key c.in-Arg.long) (option_key literal_key c.in-Arg-other.other_long))
    (by_content (option_key name_key c.in-Arg.long_key) (option_key name_key c.in-Arg-other.other_long_key))
    (by_content (option_key count_key c.in-Arg.max) (option_key count_key c.in-Arg-other.other_max))
    (by_content (option_key name_key c.in-Arg.max_key) (option_key name_key c.in-Arg-other.other_max_key))
    (by_content (option_key count_key c.in-Arg.min) (option_key count_key c.in-Arg-other.other_min))
    (by_content (option_key name_key c.in-Arg.min_key) (option_key name_key c.in-Arg-other.other_min_key))
    (by_content (option_key token_key c.in-Arg.multiple) (option_key token_key c.in-Arg-other.other_multiple))
    (by_content (literal_key c.in-Arg.name) (literal_key c.in-Arg-other.other_name))
    (by_content (option_key property_key c.in-Arg.pattern_property) (option_key property_key c.in-Arg-other.other_pattern))
    (by_content (option_key literal_key c.in-Arg.short) (option_key literal_key c.in-Arg-other.other_short))
    (by_content (option_key name_key c.in-Arg.short_key) (option_key name_key c.in-Arg-other.other_short_key))
    (by_content (option_key boxed_key c.in-Arg.value) (option_key boxed_key c.in-Arg-other.other_value))))
