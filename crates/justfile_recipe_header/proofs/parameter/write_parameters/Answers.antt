use Rattle.std.proofs.Common.{List, ℕ, subst}
use Rattle.justfile_token.proofs.PutLemmas.{failed_at}
use Rattle.justfile_recipe_header.proofs.Parts.{parameters_parts}
use Rattle.justfile_recipe_header.proofs.parameter.write_parameters.Goals as goal

pub returns-in_err-write_each : goal.returns-in_err-write_each
returns-in_err-write_each g c =
    failed_at g.S.Sink.took g.S.Sink.failed _ c.from_residual.ensures.0 (subst (λ (t : List ℕ). g.S.Sink.failed c.args.sink.now t c.write_each.new.sink) (parameters_parts c.args.parameters.now) c.in_err-write_each.ensures)

pub returns : goal.returns
returns g c = subst (λ (t : List ℕ). g.S.Sink.took c.args.sink.now t c.write_each.new.sink) (parameters_parts c.args.parameters.now) c.in_ok-write_each.ensures
