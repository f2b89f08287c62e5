use Rattle.std.proofs.Common.{◌≡◌, ◌+◌, ◌≤◌, List, [], map, Ok, Err, subst, arith}
use Rattle.std.proofs.lemmas.Result.{err_from_is_err_and}
use Rattle.justfile_vocabulary.specs.declared.token_kind.TokenKind.TheVariants as kinds
use Rattle.justfile_recipe_header.specs.declared.unresolved_dependency.UnresolvedDependency.{UnresolvedDependency}
use Rattle.justfile_model.specs.Readers.HeaderReader.{obeying}
use Rattle.justfile_model.specs.Readers.ReaderState.{NoNumber, prepend}
use Rattle.justfile_parse_base.specs.ParseErrors.{IsParseError}
use Rattle.justfile_parse_expression.specs.TableReader.{Read, State, expect}
use Rattle.justfile_parse_expression.specs.View.{state_of}
use Rattle.justfile_parse_base.specs.Counting.{TookBindingNumbers, counters_of, identifiers_left}
use Rattle.justfile_parse_header.specs.HeaderTable as reader
use Rattle.justfile_parse_header.specs.Tree.{dependency_tree, parameter_tree, rules_of}
use Rattle.justfile_parse_base.proofs.BindingNumbers.{took_in_header, took_none, within}
use Rattle.justfile_parse_base.proofs.Fewer.{name_fewer, noted_names}
use Rattle.justfile_parse_base.proofs.HeaderErrors.{failed, stopped}
use Rattle.justfile_parse_header.proofs.HeaderFewer.{others_fewer, priors_fewer}
use Rattle.justfile_parse_header.proofs.Headers.{Dependencies, header_read, name_fails, options_fail, others_fail, parameters_fail, priors_fail, priors_within, read_after, ruled, undefined_fail}
use Rattle.justfile_parse_header.proofs.Parameters.{none_fields, then_fields}
use Rattle.justfile_parse_header.proofs.header.parse_header.Given.{Over}
use Rattle.justfile_parse_header.proofs.header.parse_header.Goals as goal
use Rattle.justfile_parse_header.proofs.header.parse_header.Goals.{In_ok-note_arg_attributes, In_ok-parameters, In_ok-check_defined, In_ok-parse_dependencies}

-- ---- what is read after each step

-- the parameters, from the state after the name, where the features of the rules are noted
parameters_are : (g : Over) (c : In_ok-parameters g) → reader.parameters (rules_of c.args.attributes.now) (counters_of c.args.numerator.now) (ruled (rules_of c.args.attributes.now) (state_of g.X.Expander.answer c.expect.new.self))
    ≡ Ok ((map parameter_tree c.in_ok-parameters.parameters.list.items, counters_of c.parse_parameters.new.numerator), state_of g.X.Expander.answer c.parse_parameters.new.parser)
parameters_are g c =
    let found = Ok ((map parameter_tree c.in_ok-parameters.parameters.list.items, counters_of c.parse_parameters.new.numerator), state_of g.X.Expander.answer c.parse_parameters.new.parser) in
    let P : State → Type 0 = λ s. reader.parameters (rules_of c.args.attributes.now) (counters_of c.args.numerator.now) s ≡ found in
    subst P c.in_ok-note_arg_attributes.ensures c.in_ok-parameters.ensures.reads

-- each parameter that an `arg` attribute names is among them
all_defined : (g : Over) (c : In_ok-check_defined g)
    → obeying (reader.undefined (map parameter_tree c.in_ok-parameters.parameters.list.items) (rules_of c.args.attributes.now)) (state_of g.X.Expander.answer c.parse_parameters.new.parser)
    ≡ Ok (tt, state_of g.X.Expander.answer c.parse_parameters.new.parser)
all_defined g c = c.in_ok-check_defined.ensures (state_of g.X.Expander.answer c.parse_parameters.new.parser)

-- the dependencies before `&&`
priors_are : (g : Over) (c : In_ok-parse_dependencies g)
    → prepend [] (reader.dependencies (state_of g.X.Expander.answer c.parse_parameters.new.parser))
    ≡ Ok (map dependency_tree c.parse_dependencies.new.dependencies.items, state_of g.X.Expander.answer c.parse_dependencies.new.parser)
priors_are g c =
    let found = Ok (map dependency_tree c.parse_dependencies.new.dependencies.items, state_of g.X.Expander.answer c.parse_dependencies.new.parser) in
    let P : List UnresolvedDependency → Type 0 = λ ds. prepend (map dependency_tree ds) (reader.dependencies (state_of g.X.Expander.answer c.parse_parameters.new.parser)) ≡ found in
    subst P c.new-dependencies.ensures.items c.in_ok-parse_dependencies.ensures

-- the name was one of the identifiers that were left
name_taken : (g : Over) (c : In_ok-note_arg_attributes g)
    → identifiers_left (state_of g.X.Expander.answer c.note_arg_attributes.new.parser) + 1 ≤ identifiers_left (state_of g.X.Expander.answer c.args.parser.now)
name_taken g c =
    let s1 = state_of g.X.Expander.answer c.expect.new.self in
    let first = name_fewer (state_of g.X.Expander.answer c.args.parser.now) (c.in_ok-name.name.now, s1) c.in_ok-name.ensures.reads in
    let same = noted_names _ s1 (state_of g.X.Expander.answer c.note_arg_attributes.new.parser) c.in_ok-note_arg_attributes.ensures in
    omega (arith, first, same)

-- the parameters' numbers were taken
numbers_taken : (g : Over) (c : In_ok-parameters g)
    → TookBindingNumbers c.args.numerator.now c.parse_parameters.new.numerator (identifiers_left (state_of g.X.Expander.answer c.args.parser.now)) 0
numbers_taken g c =
    let s1 = state_of g.X.Expander.answer c.expect.new.self in
    let first = name_fewer (state_of g.X.Expander.answer c.args.parser.now) (c.in_ok-name.name.now, s1) c.in_ok-name.ensures.reads in
    let same = noted_names _ s1 (state_of g.X.Expander.answer c.note_arg_attributes.new.parser) c.in_ok-note_arg_attributes.ensures in
    within c.args.numerator.now c.parse_parameters.new.numerator (identifiers_left (state_of g.X.Expander.answer c.note_arg_attributes.new.parser))
    (identifiers_left (state_of g.X.Expander.answer c.parse_parameters.new.parser)) (identifiers_left (state_of g.X.Expander.answer c.args.parser.now)) 0 c.in_ok-parameters.ensures.numbers
    (omega (arith, first, same)) (omega arith)

-- ---- answers

pub returns-in_err-name-clause-reads : goal.returns-in_err-name-clause-reads
returns-in_err-name-clause-reads g c =
    let s = state_of g.X.Expander.answer c.args.parser.now in
    let p = err_from_is_err_and c.from_residual.result c.from_residual.ensures.1 in
    rw (p.1, p.2)
    (stopped (expect kinds.Identifier s) _ (name_fails (rules_of c.args.attributes.now) (counters_of c.args.numerator.now) (state_of g.X.Expander.answer c.args.parser.now)) c.in_err-name.field-0.0
    (state_of g.X.Expander.answer c.expect.new.self) ⊥ _ (λ k. absurd k) c.in_err-name.ensures.reads)

pub returns-in_err-name-clause-numbers : goal.returns-in_err-name-clause-numbers
returns-in_err-name-clause-numbers g c =
    let A = g.X.Expander.answer in
    let p = err_from_is_err_and c.from_residual.result c.from_residual.ensures.1 in
    rw p.1 (took_none c.args.numerator.now (identifiers_left (state_of A c.args.parser.now)) 0 (omega arith))

pub returns-in_err-note_arg_attributes-clause-reads : goal.returns-in_err-note_arg_attributes-clause-reads
returns-in_err-note_arg_attributes-clause-reads g c =
    let p = err_from_is_err_and c.from_residual-in_err-note_arg_attributes.result c.from_residual-in_err-note_arg_attributes.ensures.1 in
    rw (p.1, p.2, c.in_err-note_arg_attributes.ensures) tt

pub returns-in_err-note_arg_attributes-clause-numbers : goal.returns-in_err-note_arg_attributes-clause-numbers
returns-in_err-note_arg_attributes-clause-numbers g c =
    let A = g.X.Expander.answer in
    let p = err_from_is_err_and c.from_residual-in_err-note_arg_attributes.result c.from_residual-in_err-note_arg_attributes.ensures.1 in
    rw p.1 (took_none c.args.numerator.now (identifiers_left (state_of A c.args.parser.now)) 0 (omega arith))

pub returns-in_err-check_options-clause-reads : goal.returns-in_err-check_options-clause-reads
returns-in_err-check_options-clause-reads g c =
    let p = err_from_is_err_and c.from_residual-in_err-check_options.result c.from_residual-in_err-check_options.ensures.1 in
    let left = state_of g.X.Expander.answer c.note_arg_attributes.new.parser in
    let error = c.in_err-check_options.field-0.0 in
    let options : State → Read (Unit {0}) = λ t. obeying (reader.same_options c.in_ok-name.name.now.0 (rules_of c.args.attributes.now)) t in
    let P : State → Type 0 = λ t. IsParseError error left ⊥ (options t) in
    let fails = options_fail (rules_of c.args.attributes.now) (counters_of c.args.numerator.now) (state_of g.X.Expander.answer c.args.parser.now) c.in_ok-name.ensures.reads in
    rw (p.1, p.2)
    (failed (options (ruled (rules_of c.args.attributes.now) (state_of g.X.Expander.answer c.expect.new.self))) _ fails error left ⊥ _ (λ k. absurd k)
    (subst P c.in_ok-note_arg_attributes.ensures (c.in_err-check_options.ensures left)))

pub returns-in_err-check_options-clause-numbers : goal.returns-in_err-check_options-clause-numbers
returns-in_err-check_options-clause-numbers g c =
    let A = g.X.Expander.answer in
    let p = err_from_is_err_and c.from_residual-in_err-check_options.result c.from_residual-in_err-check_options.ensures.1 in
    rw p.1 (took_none c.args.numerator.now (identifiers_left (state_of A c.args.parser.now)) 0 (omega arith))

pub returns-in_err-parameters-clause-reads : goal.returns-in_err-parameters-clause-reads
returns-in_err-parameters-clause-reads g c =
    let p = err_from_is_err_and c.from_residual-in_err-parameters.result c.from_residual-in_err-parameters.ensures.1 in
    let left = state_of g.X.Expander.answer c.parse_parameters.new.parser in
    let error = c.in_err-parameters.field-0.0 in
    let wanting = NoNumber (counters_of c.parse_parameters.new.numerator) in
    let parameters : State → Read reader.Parameters = reader.parameters (rules_of c.args.attributes.now) (counters_of c.args.numerator.now) in
    let P : State → Type 0 = λ t. IsParseError error left (parameters t ≡ Err wanting) (parameters t) in
    let fails = parameters_fail (rules_of c.args.attributes.now) (counters_of c.args.numerator.now) (state_of g.X.Expander.answer c.args.parser.now) c.in_ok-name.ensures.reads (c.in_ok-check_options.ensures (ruled (rules_of c.args.attributes.now) (state_of g.X.Expander.answer c.expect.new.self))) in
    rw (p.1, p.2)
    (failed (parameters (ruled (rules_of c.args.attributes.now) (state_of g.X.Expander.answer c.expect.new.self))) _ fails error left _ _ (fails wanting)
    (subst P c.in_ok-note_arg_attributes.ensures c.in_err-parameters.ensures.reads))

pub returns-in_err-parameters-clause-numbers : goal.returns-in_err-parameters-clause-numbers
returns-in_err-parameters-clause-numbers g c =
    let p = err_from_is_err_and c.from_residual-in_err-parameters.result c.from_residual-in_err-parameters.ensures.1 in
    let taken = name_taken g (goal.at.returns-in_err-parameters-clause-numbers g c).In_ok-note_arg_attributes in
    rw p.1
    (within c.args.numerator.now c.parse_parameters.new.numerator (identifiers_left (state_of g.X.Expander.answer c.note_arg_attributes.new.parser)) 0
    (identifiers_left (state_of g.X.Expander.answer c.args.parser.now)) 0 c.in_err-parameters.ensures.numbers (omega (arith, taken)) (omega arith))

pub returns-in_err-check_defined-clause-reads : goal.returns-in_err-check_defined-clause-reads
returns-in_err-check_defined-clause-reads g c =
    let s2 = state_of g.X.Expander.answer c.parse_parameters.new.parser in
    let p = err_from_is_err_and c.from_residual-in_err-check_defined.result c.from_residual-in_err-check_defined.ensures.1 in
    let error = c.in_err-check_defined.field-0.0 in
    let undefined : Read (Unit {0}) = obeying (reader.undefined (map parameter_tree c.in_ok-parameters.parameters.list.items) (rules_of c.args.attributes.now)) s2 in
    let fails = undefined_fail (rules_of c.args.attributes.now) (counters_of c.args.numerator.now) (state_of g.X.Expander.answer c.args.parser.now) c.in_ok-name.ensures.reads (c.in_ok-check_options.ensures (ruled (rules_of c.args.attributes.now) (state_of g.X.Expander.answer c.expect.new.self))) (parameters_are g (goal.at.returns-in_err-check_defined-clause-reads g c).In_ok-parameters) in
    rw (p.1, p.2)
    (failed undefined _ fails error s2 ⊥ _ (λ k. absurd k) (c.in_err-check_defined.ensures s2))

pub returns-in_err-check_defined-clause-numbers : goal.returns-in_err-check_defined-clause-numbers
returns-in_err-check_defined-clause-numbers g c =
    let p = err_from_is_err_and c.from_residual-in_err-check_defined.result c.from_residual-in_err-check_defined.ensures.1 in
    rw p.1 (numbers_taken g (goal.at.returns-in_err-check_defined-clause-numbers g c).In_ok-parameters)

pub returns-in_err-parse_dependencies-clause-reads : goal.returns-in_err-parse_dependencies-clause-reads
returns-in_err-parse_dependencies-clause-reads g c =
    let p = err_from_is_err_and c.from_residual-in_err-parse_dependencies.result c.from_residual-in_err-parse_dependencies.ensures.1 in
    let left = state_of g.X.Expander.answer c.parse_dependencies.new.parser in
    let error = c.in_err-parse_dependencies.field-0.0 in
    let priors : List UnresolvedDependency → Read Dependencies = λ ds. prepend (map dependency_tree ds) (reader.dependencies (state_of g.X.Expander.answer c.parse_parameters.new.parser)) in
    let P : List UnresolvedDependency → Type 0 = λ ds. IsParseError error left ⊥ (priors ds) in
    let h = goal.at.returns-in_err-parse_dependencies-clause-reads g c in
    let fails = priors_fail (rules_of c.args.attributes.now) (counters_of c.args.numerator.now) (state_of g.X.Expander.answer c.args.parser.now) c.in_ok-name.ensures.reads (c.in_ok-check_options.ensures (ruled (rules_of c.args.attributes.now) (state_of g.X.Expander.answer c.expect.new.self))) (parameters_are g h.In_ok-parameters) (all_defined g h.In_ok-check_defined) in
    rw (p.1, p.2)
    (failed (priors []) _ fails error left ⊥ _ (λ k. absurd k) (subst P c.new-dependencies.ensures.items c.in_err-parse_dependencies.ensures))

pub returns-in_err-parse_dependencies-clause-numbers : goal.returns-in_err-parse_dependencies-clause-numbers
returns-in_err-parse_dependencies-clause-numbers g c =
    let p = err_from_is_err_and c.from_residual-in_err-parse_dependencies.result c.from_residual-in_err-parse_dependencies.ensures.1 in
    rw p.1 (numbers_taken g (goal.at.returns-in_err-parse_dependencies-clause-numbers g c).In_ok-parameters)

pub returns-in_err-parse_subsequents-clause-reads : goal.returns-in_err-parse_subsequents-clause-reads
returns-in_err-parse_subsequents-clause-reads g c =
    let p = err_from_is_err_and c.from_residual-in_err-parse_subsequents.result c.from_residual-in_err-parse_subsequents.ensures.1 in
    let priors = c.parse_dependencies.new.dependencies.items in
    let h = goal.at.returns-in_err-parse_subsequents-clause-reads g c in
    let fails =
    others_fail (rules_of c.args.attributes.now) (counters_of c.args.numerator.now) (state_of g.X.Expander.answer c.args.parser.now) c.in_ok-name.ensures.reads (c.in_ok-check_options.ensures (ruled (rules_of c.args.attributes.now) (state_of g.X.Expander.answer c.expect.new.self)))
    (parameters_are g h.In_ok-parameters) (all_defined g h.In_ok-check_defined) priors (priors_are g h.In_ok-parse_dependencies) (map dependency_tree priors) in
    rw (p.1, p.2)
    (failed (prepend (map dependency_tree priors) (reader.subsequents (state_of g.X.Expander.answer c.parse_dependencies.new.parser))) _ fails c.in_err-parse_subsequents.field-0.0
    (state_of g.X.Expander.answer c.parse_subsequents.new.parser) ⊥ _ (λ k. absurd k) c.in_err-parse_subsequents.ensures)

pub returns-in_err-parse_subsequents-clause-numbers : goal.returns-in_err-parse_subsequents-clause-numbers
returns-in_err-parse_subsequents-clause-numbers g c =
    let p = err_from_is_err_and c.from_residual-in_err-parse_subsequents.result c.from_residual-in_err-parse_subsequents.ensures.1 in
    rw p.1 (numbers_taken g (goal.at.returns-in_err-parse_subsequents-clause-numbers g c).In_ok-parameters)

pub returns-clause-reads : goal.returns-clause-reads
returns-clause-reads g c =
    let h = goal.at.returns-clause-reads g c in
    header_read (rules_of c.args.attributes.now) (counters_of c.args.numerator.now) (state_of g.X.Expander.answer c.args.parser.now) c.in_ok-name.ensures.reads (c.in_ok-check_options.ensures (ruled (rules_of c.args.attributes.now) (state_of g.X.Expander.answer c.expect.new.self)))
    (parameters_are g h.In_ok-parameters) (all_defined g h.In_ok-check_defined) c.parse_dependencies.new.dependencies.items (priors_are g h.In_ok-parse_dependencies)
    c.parse_subsequents.new.dependencies.items (state_of g.X.Expander.answer c.parse_subsequents.new.parser) c.in_ok-parse_subsequents.ensures
    c.len-priors.result (omega (arith, c.len-priors.ensures, c.parse_dependencies.new.dependencies.ok.0))

pub returns-clause-fields : goal.returns-clause-fields
returns-clause-fields g c =
    let A = g.X.Expander.answer in
    let before = c.parse_dependencies.new.dependencies.items in
    let all = c.parse_subsequents.new.dependencies.items in
    let s3 = state_of A c.parse_dependencies.new.parser in
    let s4 = state_of A c.parse_subsequents.new.parser in
    let others = read_after (map dependency_tree before) (map dependency_tree all) (reader.subsequents s3) s4 c.in_ok-parse_subsequents.ensures in
    record {
      parameters = then_fields (rules_of c.args.attributes.now) [] c.in_ok-parameters.parameters.list.items (none_fields (rules_of c.args.attributes.now)) c.in_ok-parameters.ensures.fields;
      priors = omega (arith, c.len-priors.ensures, c.parse_dependencies.new.dependencies.ok.0, priors_within before all others.0 others.2);
      name = c.in_ok-name.ensures.kind;
    }

pub returns-clause-numbers : goal.returns-clause-numbers
returns-clause-numbers g c =
    let s2 = state_of g.X.Expander.answer c.parse_parameters.new.parser in
    let s3 = state_of g.X.Expander.answer c.parse_dependencies.new.parser in
    let s4 = state_of g.X.Expander.answer c.parse_subsequents.new.parser in
    let taken = name_taken g (goal.at.returns-clause-numbers g c).In_ok-note_arg_attributes in
    let before = priors_fewer _ _ s2 s3 c.in_ok-parse_dependencies.ensures in
    let after = others_fewer _ _ s3 s4 c.in_ok-parse_subsequents.ensures in
    took_in_header c.args.numerator.now c.parse_parameters.new.numerator (identifiers_left (state_of g.X.Expander.answer c.note_arg_attributes.new.parser)) (identifiers_left s2)
    (identifiers_left (state_of g.X.Expander.answer c.args.parser.now)) (identifiers_left s4) c.in_ok-parameters.ensures.numbers (omega (arith, taken)) (omega (arith, before, after))
