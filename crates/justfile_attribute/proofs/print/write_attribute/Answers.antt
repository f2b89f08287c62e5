use Rattle.std.proofs.Common.{rules, ℕ, List, subst}
use Rattle.justfile_token.specs.Sink.{Puts}
use Rattle.justfile_attribute.proofs.Printed.{text_is}
use Rattle.justfile_attribute.proofs.print.write_attribute.Goals as goal

pub returns-in_err-put : goal.returns-in_err-put
returns-in_err-put g c =
    subst (λ (text : List ℕ). Puts g.S.Sink.took g.S.Sink.failed c.args.sink.now c.from_residual.result text c.put.new.self) (text_is c.args.attribute.now) (search rules)

pub returns : goal.returns
returns g c =
    subst (λ (text : List ℕ). Puts g.S.Sink.took g.S.Sink.failed c.args.sink.now c.write_arguments.result text c.write_arguments.new.sink) (text_is c.args.attribute.now) (search rules)
