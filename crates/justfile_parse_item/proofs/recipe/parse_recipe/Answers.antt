use Rattle.std.proofs.Common.{◌+◌, ◌≡◌, ◌∙◌, ◌||◌, List, ap, map, refl, rules, subst, sym}
use Rattle.std.proofs.lemmas.Result.{err_from_is_err_and}
use Rattle.justfile_token.specs.declared.token.Token.{Token}
use Rattle.justfile_attribute_set.specs.AttributeSet.{attributes_of, leaf_entries_of, written_of}
use Rattle.justfile_attribute_set.specs.Attributes.{has_kind}
use Rattle.justfile_line.specs.declared.line.Line.{Line}
use Rattle.justfile_vocabulary.specs.declared.attribute_kind.AttributeKind.TheVariants as kinds
use Rattle.justfile_numbers.specs.declared.numerator.Numerator.{Numerator}
use Rattle.justfile_model.specs.Readers.ReaderState as reading
use Rattle.justfile_parse_item.specs.ItemTable.{has_shebang, recipe}
use Rattle.justfile_parse_item.specs.MethodResults.{CountersMoved}
use Rattle.justfile_parse_item_parts.specs.BodyTrees.{line_tree}
use Rattle.justfile_parse_item.specs.DerivedFields.{is_private_item}
use Rattle.justfile_parse_attribute.specs.Attributes.{entry_of_pair}
use Rattle.justfile_parse_attribute.proofs.DerivedFieldsKept.{all_keyed}
use Rattle.justfile_parse_expression.specs.View.{state_of}
use Rattle.justfile_parse_expression.proofs.Rest.{file_depth_is, import_offsets_are}
use Rattle.justfile_parse_base.specs.Counting.{counters_of, identifiers_left}
use Rattle.justfile_parse_header.specs.Tree.{header_tree}
use Rattle.justfile_parse_item.proofs.Constructs.{set_fields, pair_fields}
use Rattle.justfile_parse_item.proofs.CounterSteps.{took_moved, recipe_moved}
use Rattle.justfile_parse_item.proofs.Pushes.{appends, reads}
use Rattle.justfile_parse_item.proofs.Recipes.{body_stops, exclusion_fails, header_fails, number_stops, recipe_named, recipe_read}
use Rattle.justfile_parse_item.proofs.recipe.parse_recipe.Goals as goal

pub parse_header-requires : goal.parse_header-requires
parse_header-requires g c =
    all_keyed (attributes_of c.in_ok-attributes.attributes) (set_fields c.args.attributes.items (written_of c.in_ok-attributes.attributes) c.in_ok-attributes.ensures.pairs c.requires)

pub from_identifier-requires : goal.from_identifier-requires
from_identifier-requires g c = c.in_ok-header.ensures.fields.name

pub returns-in_err-header-clause-reads : goal.returns-in_err-header-clause-reads
returns-in_err-header-clause-reads g c =
    let A = g.X.Expander.answer in
    let p = err_from_is_err_and c.from_residual-in_err-header.result c.from_residual-in_err-header.ensures.1 in
    rw (p.1, p.2)
    (header_fails c.args.quiet (map entry_of_pair c.args.attributes.items) (counters_of c.args.numerator.now) (state_of A c.args.parser.now) (leaf_entries_of c.in_ok-attributes.attributes) (c.in_ok-attributes.ensures.entries (pair_fields c.args.attributes.items c.requires))
    c.in_err-header.field-0.0 (state_of A c.parse_header.new.parser) (reading.NoNumber (counters_of c.parse_header.new.numerator)) c.in_err-header.ensures.reads)

pub returns-in_err-body-clause-reads : goal.returns-in_err-body-clause-reads
returns-in_err-body-clause-reads g c =
    let A = g.X.Expander.answer in
    let p = err_from_is_err_and c.from_residual-in_err-body.result c.from_residual-in_err-body.ensures.1 in
    rw (p.1, p.2)
    (body_stops c.args.quiet (map entry_of_pair c.args.attributes.items) (counters_of c.args.numerator.now) (state_of A c.args.parser.now) (leaf_entries_of c.in_ok-attributes.attributes) (c.in_ok-attributes.ensures.entries (pair_fields c.args.attributes.items c.requires))
    (header_tree c.in_ok-header.header) (counters_of c.parse_header.new.numerator) (state_of A c.parse_header.new.parser) c.in_ok-header.ensures.reads
    c.in_err-body.field-0.0 (state_of A c.parse_body_after_header.new.parser) _ c.in_err-body.ensures)

pub returns-in_err-check_exclusions-clause-reads : goal.returns-in_err-check_exclusions-clause-reads
returns-in_err-check_exclusions-clause-reads g c =
    let A = g.X.Expander.answer in
    let u = state_of A c.parse_body_after_header.new.parser in
    let p = err_from_is_err_and c.from_residual-in_err-check_exclusions.result c.from_residual-in_err-check_exclusions.ensures.1 in
    rw (p.1, p.2)
    (exclusion_fails c.args.quiet (map entry_of_pair c.args.attributes.items) (counters_of c.args.numerator.now) (state_of A c.args.parser.now) (leaf_entries_of c.in_ok-attributes.attributes) (c.in_ok-attributes.ensures.entries (pair_fields c.args.attributes.items c.requires))
    (header_tree c.in_ok-header.header) (counters_of c.parse_header.new.numerator) (state_of A c.parse_header.new.parser) c.in_ok-header.ensures.reads
    (c.in_ok-body.body.0, map line_tree c.in_ok-body.body.1.items) u c.in_ok-body.ensures c.in_err-check_exclusions.field-0.0 u _ (c.in_err-check_exclusions.ensures u))

pub returns-in_err-number-clause-reads : goal.returns-in_err-number-clause-reads
returns-in_err-number-clause-reads g c =
    let A = g.X.Expander.answer in
    let u = state_of A c.parse_body_after_header.new.parser in
    let p = err_from_is_err_and c.from_residual-in_err-number.result c.from_residual-in_err-number.ensures.1 in
    rw (p.1, p.2)
    (number_stops c.args.quiet (map entry_of_pair c.args.attributes.items) (counters_of c.args.numerator.now) (state_of A c.args.parser.now) (leaf_entries_of c.in_ok-attributes.attributes) (c.in_ok-attributes.ensures.entries (pair_fields c.args.attributes.items c.requires))
    (header_tree c.in_ok-header.header) (counters_of c.parse_header.new.numerator) (state_of A c.parse_header.new.parser) c.in_ok-header.ensures.reads
    (c.in_ok-body.body.0, map line_tree c.in_ok-body.body.1.items) u c.in_ok-body.ensures (c.in_ok-check_exclusions.ensures u)
    c.in_err-number.field-0.0 u (reading.NoNumber (counters_of c.next_recipe_number.new.numerator)) (c.in_err-number.ensures.reads u))

pub returns-clause-reads : goal.returns-clause-reads
returns-clause-reads g c =
    let A = g.X.Expander.answer in
    let q = c.parse_body_after_header.new.parser in
    let u = state_of A q in
    let copied : c.in_ok-import_offsets.import_offsets.items ≡ q.import_offsets.now = search (rules, c.in_ok-import_offsets.ensures.items_if_clones_equal) in
    reads _ c.args.items.now.items c.push_parsed_item.new.items.items c.push_parsed_item.result c.next_recipe_number.new.numerator u (recipe c.args.quiet (map entry_of_pair c.args.attributes.items) (counters_of c.args.numerator.now) (state_of A c.args.parser.now)) c.push_parsed_item.ensures
    (recipe_read c.args.quiet (map entry_of_pair c.args.attributes.items) (counters_of c.args.numerator.now) (state_of A c.args.parser.now) (leaf_entries_of c.in_ok-attributes.attributes) (c.in_ok-attributes.ensures.entries (pair_fields c.args.attributes.items c.requires))
    (header_tree c.in_ok-header.header) (counters_of c.parse_header.new.numerator) (state_of A c.parse_header.new.parser) c.in_ok-header.ensures.reads
    (c.in_ok-body.body.0, map line_tree c.in_ok-body.body.1.items) u c.in_ok-body.ensures (c.in_ok-check_exclusions.ensures u)
    c.in_ok-number.number.0 (counters_of c.next_recipe_number.new.numerator) (c.in_ok-number.ensures.reads u)
    (record { file_depth = q.file_depth; import_offsets = c.in_ok-import_offsets.import_offsets.items; name = c.from_identifier.result.token; number = c.in_ok-number.number })
    _ _
    (recipe_named q.file_depth u.run.file_depth c.in_ok-import_offsets.import_offsets.items u.run.import_offsets c.from_identifier.result.token c.in_ok-header.header.name.0 c.in_ok-number.number
    (sym (file_depth_is A q)) (copied ∙ sym (import_offsets_are A q)) c.from_identifier.ensures)
    c.comment_text.ensures refl)

pub returns-clause-appended : goal.returns-clause-appended
returns-clause-appended g c =
    let set = c.in_ok-attributes.attributes in
    appends _ c.args.items.now.items c.push_parsed_item.new.items.items c.push_parsed_item.result c.push_parsed_item.ensures (record {
      attributes = set_fields c.args.attributes.items (written_of set) c.in_ok-attributes.ensures.pairs c.requires;
      parameters = c.in_ok-header.ensures.fields.parameters;
      priors = c.in_ok-header.ensures.fields.priors;
      private = c.is_private_item-private.ensures ∙ ap (λ (name : Token). is_private_item name set) (sym c.from_identifier.ensures);
      shebang =
          c.is_script-shebang.ensures
          ∙ ap (λ (lines : List Line). has_kind kinds.Script (attributes_of set) || has_shebang (map line_tree lines)) c.as_slice.ensures.value;
    })

pub returns-clause-moved : goal.returns-clause-moved
returns-clause-moved g c =
    let A = g.X.Expander.answer in
    recipe_moved c.args.numerator.now c.parse_header.new.numerator c.next_recipe_number.new.numerator c.in_ok-number.number.0 (state_of A c.parse_body_after_header.new.parser) (identifiers_left (state_of A c.args.parser.now)) (identifiers_left (state_of A c.parse_header.new.parser))
    c.in_ok-header.ensures.numbers (c.in_ok-number.ensures.reads (state_of A c.parse_body_after_header.new.parser))

pub returns-in_err-header-clause-moved : goal.returns-in_err-header-clause-moved
returns-in_err-header-clause-moved g c = took_moved c.args.numerator.now c.parse_header.new.numerator (identifiers_left (state_of g.X.Expander.answer c.args.parser.now)) 0 c.in_err-header.ensures.numbers

pub returns-in_err-body-clause-moved : goal.returns-in_err-body-clause-moved
returns-in_err-body-clause-moved g c = took_moved c.args.numerator.now c.parse_header.new.numerator (identifiers_left (state_of g.X.Expander.answer c.args.parser.now)) (identifiers_left (state_of g.X.Expander.answer c.parse_header.new.parser) + 1) c.in_ok-header.ensures.numbers

pub returns-in_err-check_exclusions-clause-moved : goal.returns-in_err-check_exclusions-clause-moved
returns-in_err-check_exclusions-clause-moved g c = took_moved c.args.numerator.now c.parse_header.new.numerator (identifiers_left (state_of g.X.Expander.answer c.args.parser.now)) (identifiers_left (state_of g.X.Expander.answer c.parse_header.new.parser) + 1) c.in_ok-header.ensures.numbers

pub returns-in_err-import_offsets-clause-moved : goal.returns-in_err-import_offsets-clause-moved
returns-in_err-import_offsets-clause-moved g c = took_moved c.args.numerator.now c.parse_header.new.numerator (identifiers_left (state_of g.X.Expander.answer c.args.parser.now)) (identifiers_left (state_of g.X.Expander.answer c.parse_header.new.parser) + 1) c.in_ok-header.ensures.numbers

pub returns-in_err-number-clause-moved : goal.returns-in_err-number-clause-moved
returns-in_err-number-clause-moved g c =
    let P : Numerator → Type 0 = λ n. CountersMoved c.args.numerator.now n (identifiers_left (state_of g.X.Expander.answer c.args.parser.now)) in
    subst P (sym c.in_err-number.ensures.unmoved) (took_moved c.args.numerator.now c.parse_header.new.numerator (identifiers_left (state_of g.X.Expander.answer c.args.parser.now)) (identifiers_left (state_of g.X.Expander.answer c.parse_header.new.parser) + 1) c.in_ok-header.ensures.numbers)
