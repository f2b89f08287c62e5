use Rattle.std.proofs.Common.{◌∙◌, sym}
use Rattle.justfile_parse_attribute.proofs.ArgumentLists.{none_else, none_then}
use Rattle.justfile_parse_attribute.proofs.arguments.Arguments.is_empty.Goals as goal

pub returns-then-is_empty : goal.returns-then-is_empty
returns-then-is_empty c =
    none_then c.args.self.now c.is_empty-then-is_empty.result (sym c.is_empty.ensures ∙ c.if-is_empty.true) c.is_empty-then-is_empty.ensures

pub returns-else-is_empty : goal.returns-else-is_empty
returns-else-is_empty c = none_else c.args.self.now c.is_empty.result (sym c.is_empty.ensures ∙ c.if-is_empty.false) c.if-is_empty.false
