use Rattle.std.proofs.lemmas.Grind.{common_steps}
use Rattle.std.proofs.Common.{rules, Bool, true, Ok, ◌≡◌, arith}
use Rattle.std.proofs.lemmas.Result.{err_from_is_err_and}
use Rattle.justfile_parse_attribute.specs.AttributeTable.{Arguments}
use Rattle.justfile_parse_attribute.specs.AttributeTable.{list_step}
use Rattle.justfile_parse_attribute.specs.Attributes.{arguments_of}
use Rattle.justfile_parse_expression.specs.TableReader.{Read}
use Rattle.justfile_parse_expression.specs.View.{state_of}
use Rattle.justfile_parse_attribute.proofs.AttributeLoops.{list_ends, list_stops}
use Rattle.justfile_parse_attribute.proofs.attributes.parse_argument_list.Goals as goal

pub returns-in_err-parse_next_argument-clause-reads : goal.returns-in_err-parse_next_argument-clause-reads
returns-in_err-parse_next_argument-clause-reads g c =
    let A = g.X.Expander.answer in
    let p = err_from_is_err_and c.from_residual.result c.from_residual.ensures.1 in
    rw (p.1, p.2)
    (list_stops c.args.name.now c.args.keys _ (state_of A c.list.parser) _ c.list.invariant.value c.in_err-parse_next_argument.field-0.0 (state_of A c.parse_next_argument.new.parser) c.in_err-parse_next_argument.ensures.reads)

pub returns-then-branch-clause-reads : goal.returns-then-branch-clause-reads
returns-then-branch-clause-reads g c =
    let A = g.X.Expander.answer in
    let rest = state_of A c.parse_next_argument.new.parser in
    let found : ◌≡◌ {A = Read (Arguments × Bool)} (list_step c.args.name.now c.args.keys (arguments_of c.list.arguments) (state_of A c.list.parser)) (Ok ((arguments_of c.parse_next_argument.new.arguments, true), rest)) = first_of (grind (arith, common_steps), search rules) in
    list_ends c.args.name.now c.args.keys _ (state_of A c.list.parser) _ c.list.invariant.value _ rest found
