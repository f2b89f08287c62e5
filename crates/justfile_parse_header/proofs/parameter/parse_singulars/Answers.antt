use Rattle.std.proofs.Common.{◌∙◌, map, sym}
use Rattle.std.proofs.lemmas.Result.{err_from_is_err_and}
use Rattle.justfile_model.specs.Readers.ReaderState.{NoNumber}
use Rattle.justfile_model.specs.declared.parameter_kind.ParameterKind.TheVariants.{Singular}
use Rattle.justfile_model.proofs.Readers.HeaderReading.{parameter_goes}
use Rattle.justfile_parse_expression.specs.TableReader.{State, leaves}
use Rattle.justfile_parse_expression.specs.View.{state_of}
use Rattle.justfile_parse_base.specs.Counting.{counters_of, identifiers_left}
use Rattle.justfile_parse_base.specs.SharedTable.{view_of}
use Rattle.justfile_parse_header.specs.HeaderTable.{Parameters, parameter}
use Rattle.justfile_parse_header.specs.Tree.{parameter_tree, rules_of}
use Rattle.justfile_parse_base.proofs.BindingNumbers.{took_both}
use Rattle.justfile_parse_base.proofs.Progress.{shrinks}
use Rattle.justfile_parse_header.proofs.Parameters.{begins, ends, goes_on, errs}
use Rattle.justfile_parse_header.proofs.parameter.parse_singulars.Goals as goal

pub parameters-init : goal.parameters-init
parameters-init g c = begins (rules_of c.args.arg_attributes.now.attributes.now) (state_of g.X.Expander.answer c.args.parser.now) c.args.numerator.now c.args.parameters.now.list.items

pub returns-then-not-begins_parameter : goal.returns-then-not-begins_parameter
returns-then-not-begins_parameter g c =
    let A = g.X.Expander.answer in
    let so_far = c.parameters.invariant in
    record {
      reads =
          ends (rules_of c.args.arg_attributes.now.attributes.now) (state_of A c.args.parser.now) (state_of A c.parameters.parser) c.args.numerator.now c.parameters.numerator
          c.args.parameters.now.list.items c.parameters.parameters.list.items so_far (sym c.begins_parameter.ensures ∙ c.if-not-begins_parameter.true);
      fields = so_far.fields;
      numbers = so_far.numbers;
    }

pub parameters-preserved : goal.parameters-preserved
parameters-preserved g c =
    let A = g.X.Expander.answer in
    let h = c.in_ok-parse_parameter.ensures in
    goes_on (rules_of c.args.arg_attributes.now.attributes.now) (state_of A c.args.parser.now) (state_of A c.parameters.parser) c.args.numerator.now c.parameters.numerator
    c.args.parameters.now.list.items c.parameters.parameters.list.items c.parameters.invariant (sym c.begins_parameter.ensures ∙ c.if-not-begins_parameter.false)
    c.parse_parameter.new.numerator c.parse_parameter.new.parameters.list.items (state_of A c.parse_parameter.new.parser) h.reads h.numbers h.fields

pub parameters-smaller : goal.parameters-smaller
parameters-smaller g c =
    let A = g.X.Expander.answer in
    let s = state_of A c.parameters.parser in
    let x : Parameters × State = ((map parameter_tree c.parameters.parameters.list.items, counters_of c.parameters.numerator), s) in
    let rules = rules_of c.args.arg_attributes.now.attributes.now in
    let read : Parameters = (map parameter_tree c.parse_parameter.new.parameters.list.items, counters_of c.parse_parameter.new.numerator) in
    shrinks A c.parameters.parser c.parse_parameter.new.parser (parameter rules Singular x) read (parameter_goes leaves view_of rules Singular x) c.in_ok-parse_parameter.ensures.reads

pub returns-in_err-parse_parameter : goal.returns-in_err-parse_parameter
returns-in_err-parse_parameter g c =
    let A = g.X.Expander.answer in
    let s = state_of A c.args.parser.now in
    let q = state_of A c.parameters.parser in
    let p = err_from_is_err_and c.from_residual.result c.from_residual.ensures.1 in
    let h = c.in_err-parse_parameter.ensures in
    rw (p.1, p.2) (record {
      reads =
          errs (rules_of c.args.arg_attributes.now.attributes.now) s q c.args.numerator.now c.parameters.numerator c.args.parameters.now.list.items c.parameters.parameters.list.items
          c.parameters.invariant (sym c.begins_parameter.ensures ∙ c.if-not-begins_parameter.false) c.in_err-parse_parameter.field-0.0 (state_of A c.parse_parameter.new.parser)
          (NoNumber (counters_of c.parse_parameter.new.numerator)) h.reads;
      fields = tt;
      numbers = took_both c.args.numerator.now c.parameters.numerator c.parse_parameter.new.numerator (identifiers_left s) (identifiers_left q) 0 c.parameters.invariant.numbers h.numbers;
    })
