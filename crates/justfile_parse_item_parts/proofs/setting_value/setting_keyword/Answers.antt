use Rattle.std.proofs.Common.{◌∙◌, List, ℕ, Option, None, sym, ap, subst}
use Rattle.justfile_vocabulary.specs.Keyword.{keyword_named}
use Rattle.justfile_vocabulary.specs.declared.keyword.Keyword.{Keyword}
use Rattle.justfile_model.specs.Readers.ReaderState.{UnknownSetting}
use Rattle.justfile_parse_base.specs.ParseErrors.{IsParseError}
use Rattle.justfile_parse_expression.specs.TableReader.{Read, State}
use Rattle.justfile_parse_base.proofs.RuleSteps.{fails_with}
use Rattle.justfile_parse_item_parts.proofs.SettingSteps.{keyword_found, keyword_refused}
use Rattle.justfile_parse_item_parts.proofs.setting_value.setting_keyword.Goals as goal
use Rattle.justfile_setting.proofs.KeywordNames.{found}

pub returns-in-Some : goal.returns-in-Some
returns-in-Some c =
    λ s. keyword_found c.args.name.now s _ (ap keyword_named (sym c.lexeme.ensures) ∙ sym (found c.lexeme.result.now c.from_lexeme.result c.from_lexeme.ensures) ∙ c.in-Some.is)

pub returns-in-None : goal.returns-in-None
returns-in-None c =
    let is = ap keyword_named (sym c.lexeme.ensures) ∙ sym (found c.lexeme.result.now c.from_lexeme.result c.from_lexeme.ensures) ∙ c.in-None.is in
    λ s. subst (λ (o : Read Keyword). IsParseError c.rule_error.result s ⊥ o) (sym (keyword_refused c.args.name.now s is))
    (fails_with (Keyword × State) (UnknownSetting c.args.name.now.0) c.unknown_setting_fault.result c.rule_error.result s c.rule_error.ensures c.unknown_setting_fault.ensures)
