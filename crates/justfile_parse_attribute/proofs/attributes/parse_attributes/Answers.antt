use Rattle.std.proofs.lemmas.Grind.{common_steps}
use Rattle.std.proofs.Common.{rules, Bool, true, Ok, ◌≡◌, sym, map, arith}
use Rattle.std.proofs.lemmas.Result.{err_from_is_err_and}
use Rattle.justfile_parse_attribute.specs.AttributeTable.{line_step}
use Rattle.justfile_parse_attribute.specs.Attributes.{entry_of_pair}
use Rattle.justfile_parse_attribute.specs.AttributeTable.{Entries}
use Rattle.justfile_parse_expression.specs.TableReader.{Read}
use Rattle.justfile_parse_expression.specs.View.{state_of}
use Rattle.justfile_parse_attribute.proofs.AttributeLoops.{lines_are, lines_end, lines_stop}
use Rattle.justfile_parse_attribute.proofs.DerivedFieldsKept.{none_fields}
use Rattle.justfile_parse_attribute.proofs.attributes.parse_attributes.Goals as goal

pub lines-init : goal.lines-init
lines-init g c =
    let s = state_of g.X.Expander.answer c.args.parser.now in
    record { value = rw c.new-attributes.ensures (sym (lines_are s)); fields = rw c.new-attributes.ensures none_fields }

pub returns-in_err-parse_next_line-clause-reads : goal.returns-in_err-parse_next_line-clause-reads
returns-in_err-parse_next_line-clause-reads g c =
    let A = g.X.Expander.answer in
    let p = err_from_is_err_and c.from_residual.result c.from_residual.ensures.1 in
    rw (p.1, p.2)
    (lines_stop _ (state_of A c.lines.parser) _ c.lines.invariant.value c.in_err-parse_next_line.field-0.0 (state_of A c.parse_next_line.new.parser) c.in_err-parse_next_line.ensures.reads)

pub returns-then-branch-clause-reads : goal.returns-then-branch-clause-reads
returns-then-branch-clause-reads g c =
    let A = g.X.Expander.answer in
    let rest = state_of A c.parse_next_line.new.parser in
    let found : ◌≡◌ {A = Read (Entries × Bool)} (line_step (map entry_of_pair c.lines.attributes.pairs.items) (state_of A c.lines.parser)) (Ok ((map entry_of_pair c.parse_next_line.new.attributes.pairs.items, true), rest)) = first_of (grind (arith, common_steps), search rules) in
    rw c.into_pairs.ensures (lines_end _ (state_of A c.lines.parser) _ c.lines.invariant.value _ rest found)
