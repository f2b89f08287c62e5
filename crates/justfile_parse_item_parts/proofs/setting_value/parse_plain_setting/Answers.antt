use Rattle.std.proofs.Common.{sym, subst}
use Rattle.justfile_model.specs.Meanings.Versions.{version_numbers}
use Rattle.justfile_parse_base.specs.ParseErrors.{ReadsRuled}
use Rattle.justfile_parse_expression.specs.TableReader.{Read}
use Rattle.justfile_parse_expression.specs.View.{state_of}
use Rattle.justfile_parse_item_parts.specs.PartTable.{LeafValue}
use Rattle.justfile_parse_item_parts.proofs.SettingSteps.{plain_read}
use Rattle.justfile_parse_item_parts.proofs.setting_value.parse_plain_setting.Goals as goal
use Rattle.justfile_setting.specs.LeafSetting.{leaf_value_of}
use Rattle.justfile_expression.specs.LeafTree.{leaf_tree_of}

pub returns-clause-reads : goal.returns-clause-reads
returns-clause-reads g c =
    let A = g.X.Expander.answer in
    let from = state_of A c.expect.new.self in
    let rest = state_of A c.parse_expression.new.parser in
    let e = leaf_tree_of c.in_ok-value.value.value in
    let is = plain_read c.args.name.now c.args.keyword (state_of A c.args.parser.now) c.in_ok-expect.field-0.now from c.in_ok-expect.ensures.reads e rest c.in_ok-value.ensures.reads
    (version_numbers c.current.result) c.current.ensures in
    subst (λ (o : Read LeafValue). ReadsRuled leaf_value_of c.make_plain.result rest o) (sym is) (c.make_plain.ensures.reads rest)
