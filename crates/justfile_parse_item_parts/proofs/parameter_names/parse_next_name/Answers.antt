use Rattle.std.proofs.Common.{subst, arith}
use Rattle.justfile_vocabulary.specs.declared.token_kind.TokenKind.TheVariants as kinds
use Rattle.justfile_parse_base.specs.SharedTable.{separator}
use Rattle.justfile_parse_expression.specs.View.{state_of}
use Rattle.justfile_parse_expression.specs.declared.parser_state.ParserState.{ParserState}
use Rattle.justfile_parse_base.specs.Counting.{TookBindingNumbers, identifiers_left}
use Rattle.justfile_parse_base.proofs.BindingNumbers.{took_none, within}
use Rattle.justfile_parse_base.proofs.Fewer.{accept_fewer, fewer_at}
use Rattle.justfile_parse_item_parts.proofs.NumberedNames.{separator_fewer}
use Rattle.justfile_parse_item_parts.proofs.parameter_names.parse_next_name.Goals as goal

pub returns-in-Some-clause-numbers : goal.returns-in-Some-clause-numbers
returns-in-Some-clause-numbers g c =
    let A = g.X.Expander.answer in
    let s = state_of A c.args.parser.now in
    let s1 = state_of A c.accept.new.self in
    took_none c.args.numerator.now (identifiers_left s) (identifiers_left s1) (accept_fewer kinds.ParenR s (c.in-Some._closer.now, s1) c.in-Some.ensures.takes)

pub returns-clause-numbers : goal.returns-clause-numbers
returns-clause-numbers g c =
    let A = g.X.Expander.answer in
    let first = c.args.numerator.now in
    let next = c.parse_numbered_name.new.numerator in
    let s1 = state_of A c.parse_numbered_name.new.parser in
    let s2 = state_of A c.parse_separator.new.parser in
    let P : ParserState _ → Type 0 = λ p. TookBindingNumbers first next (identifiers_left (state_of A p)) (identifiers_left s2) in
    let taken = identifiers_left (state_of A c.accept.new.self) in
    subst P c.in_default.ensures.moves
    (within first next taken (identifiers_left s1) taken (identifiers_left s2) c.in_ok-parse_numbered_name.ensures.numbers (omega arith)
    (fewer_at s1 (separator kinds.ParenR s1) (c.in_ok-parse_separator.field-0, s2) (separator_fewer s1) c.in_ok-parse_separator.ensures.reads))
