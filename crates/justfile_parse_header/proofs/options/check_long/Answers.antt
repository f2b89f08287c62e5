use Rattle.std.proofs.Common.{◌∙◌, sym}
use Rattle.justfile_attribute.specs.Attribute.{leaf_attribute_of}
use Rattle.justfile_parse_base.specs.TextSets.{texts_in}
use Rattle.justfile_parse_header.specs.Options.{long_in}
use Rattle.justfile_parse_header.proofs.SameOptions.{long_added, long_same, then_some}
use Rattle.justfile_parse_header.proofs.options.check_long.Goals as goal

pub returns-then-is_among-clause-reads : goal.returns-then-is_among-clause-reads
returns-then-is_among-clause-reads c s =
    long_same c.args.recipe (texts_in c.args.before.now) (leaf_attribute_of c.args.attribute.now) s c.in-Some.option.now c.in-Some.token c.in-Some.ensures
    (sym c.is_among.ensures ∙ c.if-is_among.true) c.same_long_fault.result c.rule_error.result c.rule_error.ensures c.same_long_fault.ensures

pub returns : goal.returns
returns c =
    let a = leaf_attribute_of c.args.attribute.now in
    let before = texts_in c.args.before.now in
    let option = c.in-Some.option.now in
    record {
      reads = λ s. long_added c.args.recipe before a s option c.in-Some.token c.in-Some.ensures (sym c.is_among.ensures ∙ c.if-is_among.false);
      added = then_some before (long_in a) option c.in-Some.token (texts_in c.add_text.new.texts) c.in-Some.ensures c.in_ok-add_text.ensures.added;
    }
