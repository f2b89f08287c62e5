use Rattle.justfile_parse_attribute.specs.Attributes.{arguments_of}
use Rattle.justfile_parse_expression.specs.View.{state_of}
use Rattle.justfile_parse_attribute.proofs.AttributeSteps.{entry_fails, entry_last}
use Rattle.justfile_parse_attribute.proofs.attributes.push_attribute.Goals as goal

pub returns-in-Err : goal.returns-in-Err
returns-in-Err g c =
    let s = state_of g.X.Expander.answer c.args.parser.now in
    record {
      reads = entry_fails c.args.attributes.now.pairs.items c.args.name c.args.kind (arguments_of c.args.arguments) s c.in-Err.fault c.rule_error.result
          c.push.new.self.pairs.items c.in-Err.ensures.added c.rule_error.ensures;
      fields = tt;
    }

pub returns-in-Ok : goal.returns-in-Ok
returns-in-Ok g c =
    let s = state_of g.X.Expander.answer c.args.parser.now in
    record {
      reads = entry_last c.args.attributes.now.pairs.items c.args.name c.args.kind (arguments_of c.args.arguments) s c.push.new.self.pairs.items c.in-Ok.ensures.added;
      fields = c.in-Ok.ensures.fields;
    }
