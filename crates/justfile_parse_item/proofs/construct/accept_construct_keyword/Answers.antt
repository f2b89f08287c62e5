use Rattle.std.proofs.Common.{rules, ◌+◌}
use Rattle.justfile_parse_expression.specs.View.{state_from, state_of}
use Rattle.justfile_parse_item.proofs.FirstWord.{followed, not_followed}
use Rattle.justfile_parse_item.proofs.construct.accept_construct_keyword.Goals as goal

pub returns-in_err-accept_keyword_before-clause-takes : goal.returns-in_err-accept_keyword_before-clause-takes
returns-in_err-accept_keyword_before-clause-takes g c =
    let A = g.X.Expander.answer in
    let p = c.args.parser.now in
    let row = c.in_ok-construct in
    let left = state_from A p (p.next + 1) in
    let none = not_followed (state_of A p) c.in_ok-word.field-0.now left (search rules) row.construct row.keyword row.lookahead (search rules) (search rules) in
    search (rules, none)

pub returns-clause-takes : goal.returns-clause-takes
returns-clause-takes g c =
    let A = g.X.Expander.answer in
    let p = c.args.parser.now in
    let row = c.in_ok-construct in
    followed (state_of A p) c.in_ok-word.field-0.now (state_from A p (p.next + 1)) (search rules) row.construct row.keyword row.lookahead (search rules)
    c.in_ok-accept_keyword_before.field-0.now (state_of A c.accept_keyword_before.new.parser) (search rules)
