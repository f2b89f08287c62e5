use Rattle.std.proofs.lemmas.Grind.{common_steps}
use Rattle.std.proofs.Common.{rules, Bool, true, Ok, ◌≡◌, map, arith}
use Rattle.std.proofs.lemmas.Result.{err_from_is_err_and}
use Rattle.justfile_parse_attribute.specs.AttributeTable.{bracket_step}
use Rattle.justfile_parse_attribute.specs.Attributes.{entry_of_pair}
use Rattle.justfile_parse_attribute.specs.AttributeTable.{Entries}
use Rattle.justfile_parse_expression.specs.TableReader.{Read}
use Rattle.justfile_parse_expression.specs.View.{state_of}
use Rattle.justfile_parse_attribute.proofs.AttributeLoops.{bracket_ends, bracket_stops}
use Rattle.justfile_parse_attribute.proofs.attributes.parse_bracketed.Goals as goal

pub returns-in_err-parse_next_attribute-clause-reads : goal.returns-in_err-parse_next_attribute-clause-reads
returns-in_err-parse_next_attribute-clause-reads g c =
    let A = g.X.Expander.answer in
    let p = err_from_is_err_and c.from_residual.result c.from_residual.ensures.1 in
    rw (p.1, p.2)
    (bracket_stops _ (state_of A c.bracket.parser) _ c.bracket.invariant.value c.in_err-parse_next_attribute.field-0.0 (state_of A c.parse_next_attribute.new.parser) c.in_err-parse_next_attribute.ensures.reads)

pub returns-then-branch-clause-reads : goal.returns-then-branch-clause-reads
returns-then-branch-clause-reads g c =
    let A = g.X.Expander.answer in
    let rest = state_of A c.parse_next_attribute.new.parser in
    let found : ◌≡◌ {A = Read (Entries × Bool)} (bracket_step (map entry_of_pair c.bracket.attributes.pairs.items) (state_of A c.bracket.parser)) (Ok ((map entry_of_pair c.parse_next_attribute.new.attributes.pairs.items, true), rest)) = first_of (grind (arith, common_steps), search rules) in
    bracket_ends _ (state_of A c.bracket.parser) _ c.bracket.invariant.value _ rest found
