use Rattle.std.proofs.Common.{arith, rules, sym, subst, List}
use Rattle.std.proofs.lemmas.Grind.{common_steps}
use Rattle.std.proofs.lemmas.Result.{err_from_is_err_and}
use Rattle.justfile_item.specs.declared.item.Item.{Item}
use Rattle.justfile_parse_file.specs.MethodResults.{IsRead, run_from}
use Rattle.justfile_parse_expression.specs.Conditions.{conditions_of}
use Rattle.justfile_parse_file.proofs.file.parse_significant.Goals as goal

pub returns-clause-file : goal.returns-clause-file
returns-clause-file g c =
    let conditions = conditions_of g.X.Expander.answer c.args.expander.now c.args.current c.args.limit in
    let table = c.args.table.now in
    let P : List Item → Type 0 = λ items. IsRead (run_from conditions table c.args.source.now) c.args.numerator.now c.parse_table.new.numerator (items, c.in_ok-items.list_features.items) in
    record {
      read = subst P (sym c.in_ok-items-2.ensures.items) c.in_ok-items.ensures.ok;
      unstable = c.in_ok-items-2.ensures.features;
      module_path = first_of (grind (arith, common_steps), search rules);
      working_directory = first_of (grind (arith, common_steps), search rules);
    }

pub returns-in_err-items-clause-unread : goal.returns-in_err-items-clause-unread
returns-in_err-items-clause-unread g c =
    let p = err_from_is_err_and c.from_residual.result c.from_residual.ensures.1 in
    rw (p.1, p.2) c.in_err-items.ensures.err
