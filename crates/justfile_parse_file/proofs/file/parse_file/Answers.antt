use Rattle.std.proofs.Common.{ap, ◌∙◌, arith}
use Rattle.justfile_parse_expression.specs.TableReader.{State}
use Rattle.justfile_parse_expression.specs.View.{state_of}
use Rattle.justfile_parse_base.specs.Counting.{identifiers_left}
use Rattle.justfile_parse_docs.proofs.ParsedItems.{mark_depth, mark_fewer}
use Rattle.justfile_parse_file.proofs.file.parse_file.Goals as goal

pub parse_items-requires : goal.parse_items-requires
parse_items-requires g c =
    let s = state_of g.X.Expander.answer c.args.parser.now in
    ap (λ (t : State). t.depth) c.accept_byte_order_mark.ensures ∙ mark_depth s ∙ c.requires

pub returns-clause-moved : goal.returns-clause-moved
returns-clause-moved g c =
    let s = state_of g.X.Expander.answer c.args.parser.now in
    let fewer = ap (λ (t : State). identifiers_left t) c.accept_byte_order_mark.ensures in
    record {
      least = c.parse_items.ensures.moved.least;
      recipes_least = c.parse_items.ensures.moved.recipes_least;
      most_is = omega (arith, c.parse_items.ensures.moved.most_is, fewer, mark_fewer s);
      constants = c.parse_items.ensures.moved.constants;
    }
