use Rattle.std.proofs.Common.{List, [], Ok, Err, arith, refl, subst}
use Rattle.std.proofs.lemmas.Result.{err_from_is_err_and}
use Rattle.justfile_recipe_header.specs.declared.parameter.Parameter.{Parameter}
use Rattle.justfile_parse_expression.specs.View.{state_of}
use Rattle.justfile_parse_base.specs.Counting.{identifiers_left}
use Rattle.justfile_parse_header.specs.HeaderTable as reader
use Rattle.justfile_parse_header.specs.ParameterResults.{ReadsParameters}
use Rattle.justfile_parse_header.specs.Tree.{rules_of}
use Rattle.justfile_parse_base.proofs.BindingNumbers.{took_none}
use Rattle.justfile_parse_header.proofs.ParameterSteps.{all_read, no_colon, no_last_read, no_singulars}
use Rattle.justfile_parse_header.proofs.parameter.parse_parameters.Given.{Over}
use Rattle.justfile_parse_header.proofs.parameter.parse_parameters.Goals as goal
use Rattle.justfile_parse_header.proofs.parameter.parse_parameters.Goals.{In_ok-parse_singulars}

-- the parameters that take one argument are the first
singulars_are : (g : Over) (c : In_ok-parse_singulars g)
    → ReadsParameters {X = Unit {0}} (rules_of c.args.attributes.now) (λ _. c.parse_singulars.new.parameters.list.items) (Ok tt) [] c.args.numerator.now c.parse_singulars.new.numerator
    (state_of g.X.Expander.answer c.args.parser.now) (state_of g.X.Expander.answer c.parse_singulars.new.parser) reader.singulars
singulars_are g c =
    let A = g.X.Expander.answer in
    let P : List Parameter → Type 0 = λ ps. ReadsParameters {X = Unit {0}} (rules_of c.args.attributes.now) (λ _. c.parse_singulars.new.parameters.list.items) (Ok tt) ps c.args.numerator.now c.parse_singulars.new.numerator
    (state_of A c.args.parser.now) (state_of A c.parse_singulars.new.parser) reader.singulars in
    subst P c.new-parameters.ensures c.in_ok-parse_singulars.ensures

pub returns-in_err-firsts : goal.returns-in_err-firsts
returns-in_err-firsts g c =
    let s = state_of g.X.Expander.answer c.args.parser.now in
    let p = err_from_is_err_and c.from_residual.result c.from_residual.ensures.1 in
    rw (p.1, p.2) (record { reads = tt; fields = tt; numbers = took_none c.args.numerator.now (identifiers_left s) 0 (omega arith) })

pub returns-in_err-parse_singulars : goal.returns-in_err-parse_singulars
returns-in_err-parse_singulars g c =
    let A = g.X.Expander.answer in
    let p = err_from_is_err_and c.from_residual-in_err-parse_singulars.result c.from_residual-in_err-parse_singulars.ensures.1 in
    let rules = rules_of c.args.attributes.now in
    let new = c.parse_singulars.new in
    let error = c.in_err-parse_singulars.field-0.0 in
    let P : List Parameter → Type 0 = λ ps. ReadsParameters {X = Unit {0}} rules (λ _. new.parameters.list.items) (Err error) ps c.args.numerator.now new.numerator
    (state_of A c.args.parser.now) (state_of A new.parser) reader.singulars in
    rw (p.1, p.2)
    (no_singulars rules c.args.numerator.now (state_of A c.args.parser.now) error new.parameters.list.items new.numerator (state_of A new.parser)
    (subst P c.new-parameters.ensures c.in_err-parse_singulars.ensures))

pub returns-in_err-parse_last : goal.returns-in_err-parse_last
returns-in_err-parse_last g c =
    let A = g.X.Expander.answer in
    let p = err_from_is_err_and c.from_residual-in_err-parse_last.result c.from_residual-in_err-parse_last.ensures.1 in
    let new = c.parse_last.new in
    rw (p.1, p.2)
    (no_last_read (rules_of c.args.attributes.now) c.args.numerator.now (state_of A c.args.parser.now) _ _ _ (singulars_are g (goal.at.returns-in_err-parse_last g c).In_ok-parse_singulars)
    c.in_err-parse_last.field-0.0 new.parameters.list.items new.numerator (state_of A new.parser) c.in_err-parse_last.ensures)

pub returns-in_err-expect : goal.returns-in_err-expect
returns-in_err-expect g c =
    let A = g.X.Expander.answer in
    let p = err_from_is_err_and c.from_residual-in_err-expect.result c.from_residual-in_err-expect.ensures.1 in
    let new = c.parse_last.new in
    rw (p.1, p.2)
    (no_colon (rules_of c.args.attributes.now) c.args.numerator.now (state_of A c.args.parser.now) _ _ _ (singulars_are g (goal.at.returns-in_err-expect g c).In_ok-parse_singulars)
    new.parameters.list.items new.numerator (state_of A new.parser) c.in_ok-parse_last.ensures c.in_err-expect.field-0.0 (state_of A c.expect.new.self) c.in_err-expect.ensures.reads)

pub returns : goal.returns
returns g c =
    let A = g.X.Expander.answer in
    let new = c.parse_last.new in
    all_read (rules_of c.args.attributes.now) c.args.numerator.now (state_of A c.args.parser.now) _ _ _ (singulars_are g (goal.at.returns g c).In_ok-parse_singulars)
    new.parameters.list.items new.numerator (state_of A new.parser) c.in_ok-parse_last.ensures (_, state_of A c.expect.new.self) c.in_ok-expect.ensures.reads new.parameters refl
