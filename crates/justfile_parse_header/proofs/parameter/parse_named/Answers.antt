use Rattle.std.proofs.Common.{ℕ, ◌≤◌, ◌∙◌, ap, map, arith}
use Rattle.std.proofs.lemmas.Result.{err_from_is_err_and}
use Rattle.justfile_token.specs.declared.name.Name.{Name}
use Rattle.justfile_vocabulary.specs.declared.token_kind.TokenKind.TheVariants as kinds
use Rattle.justfile_model.specs.Readers.HeaderReader.{obeying}
use Rattle.justfile_model.specs.Readers.ReaderState.{NoNumber}
use Rattle.justfile_parse_expression.specs.TableReader.{expect}
use Rattle.justfile_parse_expression.specs.View.{state_of}
use Rattle.justfile_parse_header.specs.Arguments.{rules_by}
use Rattle.justfile_parse_base.specs.Counting.{TookBindingNumbers, counters_of, identifiers_left}
use Rattle.justfile_parse_header.specs.HeaderTable as reader
use Rattle.justfile_parse_header.specs.ArgAttribute.{arg_attribute_broken}
use Rattle.justfile_parse_header.specs.Tree.{parameter_tree, rules_of, value_tree}
use Rattle.justfile_parse_base.proofs.BindingNumbers.{took_for_name, took_none, unmoved}
use Rattle.justfile_parse_base.proofs.Fewer.{fewer_at, name_fewer}
use Rattle.justfile_parse_base.proofs.HeaderErrors.{failed, stopped}
use Rattle.justfile_parse_header.proofs.HeaderFewer.{default_fewer}
use Rattle.justfile_parse_header.proofs.Parameters.{default_fails, name_fails, named_fields, number_fails, parameter_read, pushed_fields, arg_attribute_fails}
use Rattle.justfile_parse_header.proofs.parameter.parse_named.Given.{Over}
use Rattle.justfile_parse_header.proofs.parameter.parse_named.Goals as goal
use Rattle.justfile_parse_header.proofs.parameter.parse_named.Goals.{In_ok-number}

-- the name's number was taken, and its identifier is one of those that were left
took_number : (g : Over) (c : In_ok-number g) (left : ℕ) → left ≤ identifiers_left (state_of g.X.Expander.answer c.parse_default.new.parser)
    → TookBindingNumbers c.args.numerator.now c.next_binding_number.new.numerator (identifiers_left (state_of g.X.Expander.answer c.args.parser.now)) left
took_number g c left least =
    let s = state_of g.X.Expander.answer c.args.parser.now in
    let s1 = state_of g.X.Expander.answer c.expect.new.self in
    let s2 = state_of g.X.Expander.answer c.parse_default.new.parser in
    let fewer = fewer_at s1 (reader.default_value s1) (value_tree c.in_ok-default.default, s2) (default_fewer s1) c.in_ok-default.ensures in
    let one = name_fewer s (c.in_ok-name.field-0.now, s1) c.in_ok-name.ensures.reads in
    took_for_name c.args.numerator.now c.next_binding_number.new.numerator _ s s2 left (c.in_ok-number.ensures.reads s2) (omega (arith, fewer, one)) least

pub returns-in_err-name : goal.returns-in_err-name
returns-in_err-name g c =
    let s = state_of g.X.Expander.answer c.args.parser.now in
    let p = err_from_is_err_and c.from_residual.result c.from_residual.ensures.1 in
    let fails = name_fails (rules_of c.args.arg_attributes.now.attributes.now) c.args.kind c.args.export c.args.parameters.now.list.items c.args.numerator.now s in
    rw (p.1, p.2) (record {
      reads = stopped (expect kinds.Identifier s) _ fails c.in_err-name.field-0.0 (state_of g.X.Expander.answer c.expect.new.self) ⊥ _ (λ k. absurd k) c.in_err-name.ensures.reads;
      fields = tt;
      numbers = took_none c.args.numerator.now (identifiers_left s) 0 (omega arith);
    })

pub returns-in_err-default : goal.returns-in_err-default
returns-in_err-default g c =
    let s = state_of g.X.Expander.answer c.args.parser.now in
    let s1 = state_of g.X.Expander.answer c.expect.new.self in
    let p = err_from_is_err_and c.from_residual-in_err-default.result c.from_residual-in_err-default.ensures.1 in
    let fails = default_fails (rules_of c.args.arg_attributes.now.attributes.now) c.args.kind c.args.export c.args.parameters.now.list.items c.args.numerator.now s c.in_ok-name.ensures.reads in
    rw (p.1, p.2) (record {
      reads = stopped (reader.default_value s1) _ fails c.in_err-default.field-0.0 (state_of g.X.Expander.answer c.parse_default.new.parser) ⊥ _ (λ k. absurd k) c.in_err-default.ensures;
      fields = tt;
      numbers = took_none c.args.numerator.now (identifiers_left s) 0 (omega arith);
    })

pub returns-in_err-check_arg_attribute : goal.returns-in_err-check_arg_attribute
returns-in_err-check_arg_attribute g c =
    let s = state_of g.X.Expander.answer c.args.parser.now in
    let s2 = state_of g.X.Expander.answer c.parse_default.new.parser in
    let broken = arg_attribute_broken c.in_ok-name.field-0.now.0 c.is_some.result c.args.kind (rules_by c.find_arg-arg.result) in
    let p = err_from_is_err_and c.from_residual-in_err-check_arg_attribute.result c.from_residual-in_err-check_arg_attribute.ensures.1 in
    let fails =
    arg_attribute_fails (rules_of c.args.arg_attributes.now.attributes.now) c.args.kind c.args.export c.args.parameters.now.list.items c.args.numerator.now s
    c.in_ok-name.ensures.reads c.in_ok-default.default c.in_ok-default.ensures c.is_some.ensures c.find_arg-arg.ensures.rules in
    rw (p.1, p.2) (record {
      reads = failed (obeying broken s2) _ fails c.in_err-check_arg_attribute.field-0.0 s2 ⊥ _ (λ k. absurd k) (c.in_err-check_arg_attribute.ensures s2);
      fields = tt;
      numbers = took_none c.args.numerator.now (identifiers_left s) 0 (omega arith);
    })

pub returns-in_err-arg_attribute : goal.returns-in_err-arg_attribute
returns-in_err-arg_attribute g c =
    let s = state_of g.X.Expander.answer c.args.parser.now in
    let p = err_from_is_err_and c.from_residual-in_err-arg_attribute.result c.from_residual-in_err-arg_attribute.ensures.1 in
    rw (p.1, p.2) (record { reads = tt; fields = tt; numbers = took_none c.args.numerator.now (identifiers_left s) 0 (omega arith) })

pub returns-in_err-number : goal.returns-in_err-number
returns-in_err-number g c =
    let s = state_of g.X.Expander.answer c.args.parser.now in
    let s2 = state_of g.X.Expander.answer c.parse_default.new.parser in
    let p = err_from_is_err_and c.from_residual-in_err-number.result c.from_residual-in_err-number.ensures.1 in
    let fails =
    number_fails (rules_of c.args.arg_attributes.now.attributes.now) c.args.kind c.args.export c.args.parameters.now.list.items c.args.numerator.now s
    c.in_ok-name.ensures.reads c.in_ok-default.default c.in_ok-default.ensures c.is_some.ensures c.find_arg-arg.ensures.rules (c.in_ok-check_arg_attribute.ensures s2) in
    rw (p.1, p.2) (record {
      reads =
          stopped (reader.next_binding_number (counters_of c.args.numerator.now) s2) _ fails c.in_err-number.field-0.0 s2 _ _
          (fails (NoNumber (counters_of c.next_binding_number.new.numerator))) (c.in_err-number.ensures.reads s2);
      fields = tt;
      numbers = unmoved c.args.numerator.now c.next_binding_number.new.numerator (identifiers_left s) 0 c.in_err-number.ensures.unmoved (omega arith);
    })

pub returns-in_err-push : goal.returns-in_err-push
returns-in_err-push g c =
    let p = err_from_is_err_and c.from_residual-in_err-push.result c.from_residual-in_err-push.ensures.1 in
    rw (p.1, p.2) (record { reads = tt; fields = tt; numbers = took_number g (goal.at.returns-in_err-push g c).In_ok-number 0 (omega arith) })

pub find_arg-arg-requires : goal.find_arg-arg-requires
find_arg-arg-requires g c = c.requires

pub check_arg_attribute-requires : goal.check_arg_attribute-requires
check_arg_attribute-requires g c = c.find_arg-arg.ensures.keyed

pub from_identifier-requires : goal.from_identifier-requires
from_identifier-requires g c = c.in_ok-name.ensures.kind

pub returns : goal.returns
returns g c =
    let s2 = state_of g.X.Expander.answer c.parse_default.new.parser in
    let rules = rules_of c.args.arg_attributes.now.attributes.now in
    let before = c.args.parameters.now.list.items in
    let token = ap (λ (n : Name). n.token) c.make_parameter.ensures.name ∙ c.from_identifier.ensures in
    record {
      reads =
          parameter_read rules c.args.kind c.args.export before c.args.numerator.now (state_of g.X.Expander.answer c.args.parser.now) c.in_ok-name.ensures.reads c.in_ok-default.default
          c.in_ok-default.ensures c.is_some.ensures c.find_arg-arg.ensures.rules (c.in_ok-check_arg_attribute.ensures s2) _ c.next_binding_number.new.numerator
          (c.in_ok-number.ensures.reads s2) c.push.new.self.list.items _ c.in_ok-push.ensures token c.make_parameter.ensures.tree;
      fields =
          pushed_fields rules before c.push.new.self.list.items _ c.in_ok-push.ensures
          (named_fields rules (map parameter_tree before) _ (rules_by c.find_arg-arg.result) c.in_ok-name.field-0.now.0 c.find_arg-arg.ensures.rules token
          (c.make_parameter.ensures.fields (rules_by c.find_arg-arg.result) c.in_ok-arg_attribute.ensures));
      numbers = took_number g (goal.at.returns g c).In_ok-number (identifiers_left s2) (omega arith);
    }
