use Rattle.justfile_parse_expression.specs.View.{state_of}
use Rattle.justfile_parse_item_parts.proofs.SettingSteps.{no_setting_fails}
use Rattle.justfile_parse_item_parts.proofs.setting_value.refuse_setting.Goals as goal

pub returns-clause-reads : goal.returns-clause-reads
returns-clause-reads g c =
    let A = g.X.Expander.answer in
    no_setting_fails c.args.name.now (state_of A c.args.parser.now) c.in_ok-expect.field-0.now (state_of A c.expect.new.self) c.rule_error.result c.unknown_setting_fault.result
    c.in_ok-expect.ensures.reads c.rule_error.ensures c.unknown_setting_fault.ensures
