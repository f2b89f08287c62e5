use Rattle.std.proofs.Common.{◌≡◌, ◌∙◌, map, None, Some, Ok, subst, sym}
use Rattle.justfile_vocabulary.specs.declared.token_kind.TokenKind.TheVariants as kinds
use Rattle.justfile_model.specs.declared.parameter_kind.ParameterKind.TheVariants.{Plus, Star}
use Rattle.justfile_parse_expression.specs.Significant.{TableToken}
use Rattle.justfile_parse_expression.specs.TableReader.{State, accept}
use Rattle.justfile_parse_expression.specs.View.{state_of}
use Rattle.justfile_parse_expression.specs.declared.parser_state.ParserState.{ParserState}
use Rattle.justfile_parse_base.specs.Counting.{counters_of}
use Rattle.justfile_parse_header.specs.HeaderTable as reader
use Rattle.justfile_parse_header.specs.ParameterResults.{ReadsParameters}
use Rattle.justfile_parse_header.specs.Tree.{parameter_tree, rules_of}
use Rattle.justfile_parse_header.proofs.ParameterSteps.{after_token, no_last, plus_next, star_next}
use Rattle.justfile_parse_header.proofs.parameter.parse_last.Goals as goal

pub returns-in-Some : goal.returns-in-Some
returns-in-Some g c =
    let A = g.X.Expander.answer in
    let rules = rules_of c.args.arg_attributes.now.attributes.now in
    let x : reader.Parameters = (map parameter_tree c.args.parameters.now.list.items, counters_of c.args.numerator.now) in
    let s = state_of A c.args.parser.now in
    let plus : TableToken × State = (c.in-Some._plus.now, state_of A c.accept.new.self) in
    after_token rules _ _ _ _ _ kinds.Plus s plus _ reader.last_parameter (λ rules. reader.variadic rules Plus) c.in-Some.ensures.takes
    (plus_next rules x s plus c.in-Some.ensures.takes) c.parse_variadic.ensures

pub returns-in-Some-accept : goal.returns-in-Some-accept
returns-in-Some-accept g c =
    let A = g.X.Expander.answer in
    let rules = rules_of c.args.arg_attributes.now.attributes.now in
    let x : reader.Parameters = (map parameter_tree c.args.parameters.now.list.items, counters_of c.args.numerator.now) in
    let s = state_of A c.args.parser.now in
    let star : TableToken × State = (c.in-Some-accept._star.now, state_of A c.accept-2.new.self) in
    let P : ParserState _ → Type 0 = λ p. accept kinds.Asterisk (state_of A p) ≡ Some star in
    let found = subst P c.in_default.ensures.moves c.in-Some-accept.ensures.takes in
    after_token rules _ _ _ _ _ kinds.Asterisk s star _ reader.last_parameter (λ rules. reader.variadic rules Star) found
    (star_next rules x s c.in_default.ensures.takes star found) c.parse_variadic-in-Some-accept.ensures

pub returns : goal.returns
returns g c =
    let A = g.X.Expander.answer in
    let rules = rules_of c.args.arg_attributes.now.attributes.now in
    let before = c.args.parameters.now.list.items in
    let n = c.args.numerator.now in
    let s = state_of A c.args.parser.now in
    let P : ParserState _ → Type 0 = λ p. ReadsParameters {X = Unit {0}} rules (λ _. before) (Ok tt) before n n s (state_of A p) reader.last_parameter in
    let Q : ParserState _ → Type 0 = λ p. accept kinds.Asterisk (state_of A p) ≡ None in
    let no_star = subst Q c.in_default.ensures.moves c.in_default-accept.ensures.takes in
    subst P (sym (c.in_default-accept.ensures.moves ∙ c.in_default.ensures.moves)) (no_last rules before n s c.in_default.ensures.takes no_star)
