use Rattle.justfile_attribute_set.specs.AttributeSet.{leaf_entries_of}
use Rattle.justfile_model.specs.Meanings.RecipeRules.{exclusions_broken}
use Rattle.justfile_parse_item.proofs.Constructs.{is_excluded}
use Rattle.justfile_expression.specs.LeafViews.{views_leaves}
use Rattle.justfile_parse_item.proofs.attribute_checks.check_exclusions.Goals as goal

pub returns-in-Some : goal.returns-in-Some
returns-in-Some c =
    λ s. is_excluded c.args.recipe (exclusions_broken views_leaves c.args.recipe (leaf_entries_of c.args.attributes.now)) c.in-Some.kind c.error.result c.rule_error.result s
    c.in-Some.ensures c.error.ensures.kind c.error.ensures.token c.rule_error.ensures
