use Rattle.std.proofs.Common.{rules, ℕ, List, subst}
use Rattle.justfile_token.specs.Sink.{Puts}
use Rattle.justfile_attribute.proofs.Printed.{valued}
use Rattle.justfile_attribute.proofs.print.write_part.Goals as goal

pub returns : goal.returns
returns g c =
    subst (λ (text : List ℕ). Puts g.S.Sink.took g.S.Sink.failed c.args.sink.now c.write_value.result text c.write_value.new.sink)
    (valued c.args.part.now.piece.now c.args.part.now.value) (search rules)
