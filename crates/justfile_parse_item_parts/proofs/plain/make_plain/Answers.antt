use Rattle.std.proofs.Common.{◌∙◌, sym, subst}
use Rattle.justfile_model.specs.Meanings.Versions.{version_numbers}
use Rattle.justfile_parse_base.specs.ParseErrors.{ReadsRuled}
use Rattle.justfile_parse_expression.specs.TableReader.{Read}
use Rattle.justfile_parse_item_parts.specs.PartTable.{LeafValue}
use Rattle.justfile_parse_item_parts.proofs.PlainValues.{plain}
use Rattle.justfile_parse_item_parts.proofs.plain.make_plain.Goals as goal
use Rattle.justfile_setting.specs.LeafSetting.{leaf_value_of}
use Rattle.justfile_expression.specs.LeafTree.{leaf_tree_of}

pub returns-clause-reads : goal.returns-clause-reads
returns-clause-reads c =
    λ s. subst (λ (o : Read LeafValue). ReadsRuled leaf_value_of c.make_literal.result s o)
    (sym (plain (version_numbers c.args.current) c.args.name c.args.keyword s c.in-Some.literal (leaf_tree_of c.args.value.value) c.in-Some.ensures.literal (sym c.is_plain_literal.ensures ∙ c.if-not-is_plain_literal.false)))
    (c.make_literal.ensures.reads s)
