use Rattle.std.proofs.Common.{◌∙◌, sym, ap, subst}
use Rattle.justfile_model.specs.Readers.ReaderState.{BreaksRule}
use Rattle.justfile_model.specs.Meanings.Rules.{InvalidMinimumVersion, MinimumVersion}
use Rattle.justfile_model.specs.Meanings.Versions.{version_numbers, version_of}
use Rattle.justfile_parse_base.specs.ParseErrors.{IsParseError}
use Rattle.justfile_parse_expression.specs.TableReader.{Read, State}
use Rattle.justfile_parse_item_parts.specs.PartTable.{LeafValue}
use Rattle.justfile_parse_item_parts.proofs.PlainValues.{is_version, later_version, no_version}
use Rattle.justfile_parse_base.proofs.RuleSteps.{fails_with}
use Rattle.justfile_parse_item_parts.proofs.plain.make_minimum_version.Goals as goal
use Rattle.justfile_setting.proofs.VersionTexts.{later, read, unread}
use Rattle.std.proofs.Common.{string_bytes}

pub returns-in-Ok-clause-reads : goal.returns-in-Ok-clause-reads
returns-in-Ok-clause-reads c =
    let current = version_numbers c.args.current in
    let minimum = c.in-Ok.minimum in
    let l = c.args.literal in
    let is = ap version_of (sym c.as_str.ensures.value) ∙ read c.as_str.result.now minimum c.in-Ok.ensures.value in
    let above = sym (later minimum c.args.current) ∙ sym c.lt.ensures ∙ c.if-lt.true in
    let refusal = BreaksRule (record { rule = MinimumVersion (version_numbers minimum) current; token = l.token }) in
    λ s. subst (λ (o : Read LeafValue). IsParseError c.rule_error.result s ⊥ o) (sym (later_version current l s (version_numbers minimum) is above))
    (fails_with (LeafValue × State) refusal c.minimum_version_fault.result c.rule_error.result s c.rule_error.ensures c.minimum_version_fault.ensures)

pub returns-in-Ok-2-clause-reads : goal.returns-in-Ok-2-clause-reads
returns-in-Ok-2-clause-reads c =
    let minimum = c.in-Ok.minimum in
    let is = ap version_of (sym c.as_str.ensures.value) ∙ read c.as_str.result.now minimum c.in-Ok.ensures.value in
    λ s. is_version (version_numbers c.args.current) c.args.literal s (version_numbers minimum) is (sym (later minimum c.args.current) ∙ sym c.lt.ensures ∙ c.if-lt.false)

pub returns-clause-reads : goal.returns-clause-reads
returns-clause-reads c =
    let current = version_numbers c.args.current in
    let l = c.args.literal in
    let none = ap version_of (sym c.as_str.ensures.value) ∙ unread c.as_str.result.now c.in-Err.ensures.value.0 in
    let refusal = BreaksRule (record { rule = InvalidMinimumVersion (string_bytes l.cooked); token = l.token }) in
    λ s. subst (λ (o : Read LeafValue). IsParseError c.rule_error-in-Err.result s ⊥ o) (sym (no_version current l s none))
    (fails_with (LeafValue × State) refusal c.invalid_minimum_version_fault.result c.rule_error-in-Err.result s c.rule_error-in-Err.ensures c.invalid_minimum_version_fault.ensures)
