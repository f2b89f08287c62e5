use Rattle.std.proofs.Common.{◌∙◌, sym, ap, subst}
use Rattle.std.specs.Option.{option_map}
use Rattle.justfile_parse_base.specs.ParseErrors.{ReadsRuled}
use Rattle.justfile_parse_expression.specs.TableReader.{Read}
use Rattle.justfile_parse_expression.specs.View.{state_of}
use Rattle.justfile_parse_item_parts.specs.PartTable.{LeafValue}
use Rattle.justfile_parse_item_parts.proofs.SettingSteps.{is_none}
use Rattle.justfile_parse_item_parts.proofs.setting_value.parse_setting_value.Goals as goal
use Rattle.justfile_setting.specs.Form.{form_of}
use Rattle.justfile_setting.specs.LeafSetting.{leaf_value_of}

pub returns-in-None-clause-reads : goal.returns-in-None-clause-reads
returns-in-None-clause-reads g c =
    let A = g.X.Expander.answer in
    let is = is_none c.args.name.now c.args.keyword (state_of A c.args.parser.now) (sym c.setting_form.ensures ∙ ap (option_map form_of) c.in-None.is) in
    subst (λ (o : Read LeafValue). ReadsRuled leaf_value_of c.refuse_setting.result (state_of A c.refuse_setting.new.parser) o) (sym is) c.refuse_setting.ensures.reads
