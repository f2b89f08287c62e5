use Rattle.std.proofs.Common.{rules, ◌≢◌}
use Rattle.justfile_ast.specs.declared.separator.Separator.TheVariants.{Start}
use Rattle.justfile_canonical.proofs.parts.finish.Goals as goal

pub returns-in-Ok-push_str : goal.returns-in-Ok-push_str
returns-in-Ok-push_str c =
    let begun : c.print_rest.new.printer.separator ≢ Start = search (rules, c.if-eq.ensures) in
    record {
      new = c.print_rest.new.printer;
      printed = c.in-Ok.ensures;
      begun = begun;
      is = search (rules, c.in-Ok-push_str.ensures.bytes);
    }
