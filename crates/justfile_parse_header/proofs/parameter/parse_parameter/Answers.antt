use Rattle.std.proofs.Common.{false, map, subst, true}
use Rattle.justfile_vocabulary.specs.declared.token_kind.TokenKind.TheVariants as kinds
use Rattle.justfile_parse_expression.specs.View.{state_of}
use Rattle.justfile_parse_expression.specs.declared.parser_state.ParserState.{ParserState}
use Rattle.justfile_parse_base.specs.Counting.{counters_of}
use Rattle.justfile_parse_header.specs.HeaderTable as reader
use Rattle.justfile_parse_header.specs.ParameterResults.{ReadsParameters}
use Rattle.justfile_parse_header.specs.Tree.{parameter_tree, rules_of}
use Rattle.justfile_parse_header.proofs.ParameterSteps.{after_token}
use Rattle.justfile_parse_header.proofs.Parameters.{exported, unexported}
use Rattle.justfile_parse_header.proofs.parameter.parse_parameter.Goals as goal

pub returns-in-Some : goal.returns-in-Some
returns-in-Some g c =
    let A = g.X.Expander.answer in
    let rules = rules_of c.args.arg_attributes.now.attributes.now in
    let x : reader.Parameters = (map parameter_tree c.args.parameters.now.list.items, counters_of c.args.numerator.now) in
    let s = state_of A c.args.parser.now in
    let rest = state_of A c.accept.new.self in
    after_token rules _ _ _ _ _ kinds.Dollar s (c.in-Some._dollar.now, rest) _ (λ rules. reader.parameter rules c.args.kind) (λ rules x. reader.named_parameter rules c.args.kind true x.0 x.1) c.in-Some.ensures.takes
    (exported rules c.args.kind x s c.in-Some._dollar.now rest c.in-Some.ensures.takes) c.parse_named.ensures

pub returns-in-None : goal.returns-in-None
returns-in-None g c =
    let A = g.X.Expander.answer in
    let rules = rules_of c.args.arg_attributes.now.attributes.now in
    let x : reader.Parameters = (map parameter_tree c.args.parameters.now.list.items, counters_of c.args.numerator.now) in
    let call = c.parse_named-in-None in
    let P : ParserState _ → Type 0 = λ p. ReadsParameters {X = Unit {0}} rules (λ _. call.new.parameters.list.items) call.result c.args.parameters.now.list.items c.args.numerator.now call.new.numerator (state_of A p) (state_of A call.new.parser) (λ rules x. reader.named_parameter rules c.args.kind false x.0 x.1) in
    let h = subst P c.in-None.ensures.moves call.ensures in
    record { reads = rw (unexported rules c.args.kind x (state_of A c.args.parser.now) c.in-None.ensures.takes) h.reads; fields = h.fields; numbers = h.numbers }
